-- Reading on in quotes, in values and whole texts: what fails there as characters of a text fails so in the whole, and
-- what begins a text there begins the whole.
use Rattle.std.proofs.Common.{◌≡◌, ℕ, zero, suc, ◌+◌, ◌-◌, ◌<◌, ◌≤◌, ◌⊎◌, inl, inr, true, false, List, [], ◌∷◌, ◌++◌, length, take, drop, Option, Some, None, Ok, Err, refl, sym, ap, subst, ◌∙◌, append_assoc, length-append, arith}
use Rattle.std.proofs.lemmas.List.{take-append-drop, drop-append-le, length-take-le, length-drop}
use Rattle.json_tokens.specs.declared.fault.JsonFault.{JsonFault}
use Rattle.json_tokens.specs.declared.fault.JsonFault.TheVariants.{Syntax, NotUtf8}
use Rattle.json_tokens.specs.Reading.{◌>>=◌, Read}
use Rattle.json_tokens.specs.ReadingTexts.{text_at}
use Rattle.json_tree.specs.ReadingValues.{quoted_at, scalar_at, elements_at, list_at, item_at, name_at, member_at, items_at, members_at, kind_read, tree_read, inner_at, value_at, ended}
use Rattle.json_tree.specs.Tree.{Tree, Kind, At, Null, Bool_of, Numeral_of, Wide, Text_of, List_of, Object_of, in_trees, in_members}
use Rattle.json_tokens.specs.Grammar.{AreBlanks, IsQuoted}
use Rattle.json_tree.specs.Grammar.{AreElements, IsItem, IsMember, IsKind, IsTree, SpellsAt, Spells}
use Rattle.std.specs.List.{AllByRecursion}
use Rattle.json_tokens.specs.Faults.{IsInQuotes, IsHexadecimal, IsUnfinished, IsLawful, IsLoneHalf, IsBadSequence}
use Rattle.json_tokens.proofs.CharacterFaults.{begins_backslash}
use Rattle.json_tree.specs.Faults.{Begins}
use Rattle.json_tokens.proofs.Tools.{blanks_again}
use Rattle.json_tokens.proofs.NumeralLaws.{Ends}
use Rattle.json_tokens.proofs.Stuck.{BeginsText}
use Rattle.json_tokens.proofs.QuotedReading.{Without, without_x, blanks_without, number_without, first_and_others, splits, behind_byte, between, InText, quoted_finds, bad_text, alone_text, unfinished_text}
use Rattle.json_tree.proofs.Steady.{Reader}
use Rattle.json_tree.proofs.ListFaults.{Begun, BeginsSome, BeginsList, begins_first, begins_more, begins_behind}
use Rattle.json_tree.proofs.ValueFaults as faults
use Rattle.json_tree.proofs.ValueLaws.{item_absorbs, member_absorbs}
use Rattle.json_tree.proofs.AgainLaws as again

-- What reads on behind w, which is in quotes.
pub record Quotes {X : Type 0} (read : Reader X) (Begin : List ℕ → Type 0) (at : ℕ) (w : List ℕ) : Type 0 where
  pub some : 0 < length w
  pub fails : (v : List ℕ) (e : JsonFault) → text_at (length v) (at + length w) v ≡ Err e → read at (w ++ v) ≡ Err e
  pub begins : (v : List ℕ) → BeginsText v → Begin (w ++ v)

-- A front of what is spelled, before an x, is in quotes.
abbrev pub Finds : {X : Type 0} → Reader X → (ℕ → List ℕ → X → Type 0) → Type 0
Finds {X} read Is = (at : ℕ) (bytes : List ℕ) (x : X) → Is at bytes x → (w rest : List ℕ) → bytes ≡ w ++ 120 ∷ rest → Quotes read (Begun Is at) at w

abbrev pub FindsIn : {E : Type 0} → Reader E → ℕ → (ℕ → List ℕ → E → Type 0) → Type 0
FindsIn {E} element close Is = (at : ℕ) (inner : List ℕ) (es : List E) → AreElements Is at inner es → (w rest : List ℕ) → inner ≡ w ++ 120 ∷ rest → Quotes (list_at element close) (BeginsList Is close at) at w

-- the characters of a text are read at the same place
abbrev FailsAt : ℕ → List ℕ → JsonFault → Type 0
FailsAt at v e = text_at (length v) at v ≡ Err e

fails_there : (v : List ℕ) (e : JsonFault) (at place : ℕ) → at ≡ place → FailsAt at v e → FailsAt place v e
fails_there v e at place same h = subst (λ (n : ℕ). FailsAt n v e) same h

-- a front that is not empty begins with the same byte
front_begins : (body w rest : List ℕ) → again.Begins body → body ≡ w ++ 120 ∷ rest → 0 < length w → again.Begins w
front_begins body [] rest b e lt = absurd (omega arith)
front_begins body (c ∷ cs) rest b e lt =
    let same = first_and_others b.0 c b.1 (cs ++ 120 ∷ rest) (sym b.2 ∙ e) in
    (c, cs, refl, subst again.Starts same.0 b.3)

-- ---- elements

module _ {E : Type 0} (element : Reader E) (Is : ℕ → List ℕ → E → Type 0) (finds : Finds element Is)
    (reads : (at : ℕ) (bytes : List ℕ) (e : E) (rest : List ℕ) → Is at bytes e → again.Stops rest → element at (bytes ++ rest) ≡ Ok (e, at + length bytes, rest))
    (strips : (at : ℕ) (bytes : List ℕ) (e : E) → Is at bytes e → again.Stripped Is at bytes e)
    (absorbs : (ws : List ℕ) (at : ℕ) (bytes : List ℕ) (e : E) → AreBlanks ws → Is (at + length ws) bytes e → Is at (ws ++ bytes) e) where
  -- with any number of elements that is enough
  record SomeQuotes (close at : ℕ) (w : List ℕ) : Type 0 where
    pub some : 0 < length w
    pub fails : (most : ℕ) (v : List ℕ) (e : JsonFault) → length w ≤ most → FailsAt (at + length w) v e → elements_at element close most at (w ++ v) ≡ Err e
    pub begins : (v : List ℕ) → BeginsText v → BeginsSome Is close at (w ++ v)

  in_first : (close at : ℕ) (w : List ℕ) → Quotes element (Begun Is at) at w → SomeQuotes close at w
  unfolding elements_at
  in_first close at w q = record { some = q.some; fails = fails; begins = λ v b. begins_first Is close at (w ++ v) (q.begins v b) }
    where
      fails : (most : ℕ) (v : List ℕ) (e : JsonFault) → length w ≤ most → FailsAt (at + length w) v e → elements_at element close most at (w ++ v) ≡ Err e
      fails zero v e le f = absurd (omega (arith, le, q.some))
      fails (suc most) v e le f = rw (q.fails v e f) refl

  in_others : (close at : ℕ) (front : List ℕ) (e : E) → Is at front e → (w v : List ℕ) → w ≡ front ++ 44 ∷ v → SomeQuotes close (at + length front + 1) v → SomeQuotes close at w
  unfolding elements_at
  in_others close at front e is w v parts r = subst (SomeQuotes close at) (sym parts) (record {
    some = omega (arith, length-append front (44 ∷ v));
    fails = fails;
    begins = λ u b. subst (BeginsSome Is close at) (sym (append_assoc front (44 ∷ v) u)) (begins_more Is close at front e is (v ++ u) (r.begins u b));
  })
    where
      fails : (most : ℕ) (u : List ℕ) (d : JsonFault) → length (front ++ 44 ∷ v) ≤ most → FailsAt (at + length (front ++ 44 ∷ v)) u d → elements_at element close most at ((front ++ 44 ∷ v) ++ u) ≡ Err d
      fails zero u d le f = absurd (omega (arith, le, length-append front (44 ∷ v)))
      fails (suc most) u d le f =
          let n : at + length (front ++ 44 ∷ v) ≡ at + length front + 1 + length v = omega (arith, length-append front (44 ∷ v)) in
          let few : length v ≤ most = omega (arith, le, length-append front (44 ∷ v)) in
          ap (elements_at element close (suc most) at) (append_assoc front (44 ∷ v) u)
          ∙ rw (reads at front e (44 ∷ (v ++ u)) is (inl refl), r.fails most u d few (fails_there u d _ _ n f)) refl

  elements_find : (close : ℕ) (es : List E) (e : E) (at : ℕ) (inner : List ℕ) → AreElements Is at inner (e ∷ es) → (w rest : List ℕ) → inner ≡ w ++ 120 ∷ rest → SomeQuotes close at w
  elements_find close [] e at inner h w rest parts = in_first close at w (finds at inner e h w rest parts)
  elements_find close (f ∷ es) e at inner h w rest parts =
      elim (splits h.0 (44 ∷ h.1) w rest 120 (sym h.2 ∙ parts)) [
        | inl p ↦ in_first close at w (finds at h.0 e h.3 w p.0 p.1)
        | inr p ↦
            let q = behind_byte 44 h.1 p.0 rest (λ k. omega (arith, k)) p.2 in
            in_others close at h.0 e h.3 w q.0 (p.1 ∙ ap (λ (l : List ℕ). h.0 ++ l) q.1) (elements_find close es f (at + length h.0 + 1) h.1 h.4 q.0 rest q.2)
      ]

  behind_blanks : (close at : ℕ) (ws w : List ℕ) → (close ≡ 93) ⊎ (close ≡ 125) → AreBlanks ws → again.Begins w → SomeQuotes close (at + length ws) w → Quotes (list_at element close) (BeginsList Is close at) at (ws ++ w)
  unfolding list_at
  behind_blanks close at ws w c b first r = record {
    some = omega (arith, r.some, length-append ws w);
    fails = λ v e f.
        let n : at + length (ws ++ w) ≡ at + length ws + length w = omega (arith, length-append ws w) in
        let few : length w ≤ length (w ++ v) = omega (arith, length-append w v) in
        let other = again.begins_other close (at + length ws) w v first (λ q. elim c [ inl k ↦ first.3.no_bracket (q ∙ k) | inr k ↦ first.3.no_brace (q ∙ k) ]) in
        ap (list_at element close at) (append_assoc ws w v)
        ∙ rw (blanks_again ws at (w ++ v) b (again.begins_no_blank w v first), other, r.fails (length (w ++ v)) v e few (fails_there v e _ _ n f)) refl;
    begins = λ v g. subst (BeginsList Is close at) (sym (append_assoc ws w v)) (begins_behind Is close absorbs ws at b (w ++ v) (r.begins v g));
  }

  pub list_finds : (close : ℕ) → (close ≡ 93) ⊎ (close ≡ 125) → FindsIn element close Is
  list_finds close c at inner [] h w rest parts = absurd (without_x w rest (subst Without parts (blanks_without inner h)))
  list_finds close c at inner (e ∷ es) h w rest parts =
      let p = again.behind element Is reads strips es e at inner h in
      elim (splits p.0 p.1 w rest 120 (sym p.2 ∙ parts)) [
        | inl q ↦ absurd (without_x w q.0 (subst Without q.1 (blanks_without p.0 p.3)))
        | inr q ↦
            let r = elements_find close es e (at + length p.0) p.1 p.5 q.0 rest q.2 in
            subst (Quotes (list_at element close) (BeginsList Is close at) at) (sym q.1) (behind_blanks close at p.0 q.0 c p.3 (front_begins p.1 q.0 rest p.4 q.2 r.some) r)
      ]

-- ---- items and members

module _ (value : Reader Tree) (Is : ℕ → List ℕ → Tree → Type 0) (finds : Finds value Is)
    (reads : (at : ℕ) (bytes : List ℕ) (t : Tree) (rest : List ℕ) → Is at bytes t → Ends rest → value at (bytes ++ rest) ≡ Ok (t, at + length bytes, rest))
    (starts : (at : ℕ) (bytes : List ℕ) (t : Tree) → Is at bytes t → again.Begins bytes)
    (opens : (at : ℕ) → Begun Is at []) where
  in_value : (at : ℕ) (ws w : List ℕ) → AreBlanks ws → again.Begins w → Quotes value (Begun Is (at + length ws)) (at + length ws) w → Quotes (item_at value) (Begun (IsItem Is) at) at (ws ++ w)
  unfolding item_at
  in_value at ws w b first q = record {
    some = omega (arith, q.some, length-append ws w);
    fails = λ v e f.
        let n : at + length (ws ++ w) ≡ at + length ws + length w = omega (arith, length-append ws w) in
        ap (item_at value at) (append_assoc ws w v)
        ∙ rw (blanks_again ws at (w ++ v) b (again.begins_no_blank w v first), q.fails v e (fails_there v e _ _ n f)) refl;
    begins = λ v g. subst (Begun (IsItem Is) at) (sym (append_assoc ws w v)) (faults.item_begins Is at ws b (w ++ v) (q.begins v g));
  }

  pub item_finds : Finds (item_at value) (IsItem Is)
  item_finds at bytes t h w rest parts =
      elim (splits h.before (h.text ++ h.behind) w rest 120 (sym h.bytes_are ∙ parts)) [
        | inl p ↦ absurd (without_x w p.0 (subst Without p.1 (blanks_without h.before h.blanks_before)))
        | inr p ↦ elim (splits h.text h.behind p.0 rest 120 p.2) [
          | inl q ↦
              let f = finds (at + length h.before) h.text t h.value p.0 q.0 q.1 in
              let first = front_begins h.text p.0 q.0 (starts (at + length h.before) h.text t h.value) q.1 f.some in
              subst (Quotes (item_at value) (Begun (IsItem Is) at) at) (sym p.1) (in_value at h.before p.0 h.blanks_before first f)
          | inr q ↦ absurd (without_x q.0 rest (subst Without q.2 (blanks_without h.behind h.blanks_behind)))
        ]
      ]

  in_name : (at : ℕ) (ws w : List ℕ) → AreBlanks ws → InText w → Quotes (member_at value) (Begun (IsMember Is) at) at (ws ++ 34 ∷ w)
  unfolding member_at name_at
  in_name at ws w b t = record {
    some = omega (arith, length-append ws (34 ∷ w));
    fails = λ v e f.
        let n : at + length (ws ++ 34 ∷ w) ≡ at + length ws + 1 + length w = omega (arith, length-append ws (34 ∷ w)) in
        ap (member_at value at) (append_assoc ws (34 ∷ w) v)
        ∙ rw (blanks_again ws at (34 ∷ (w ++ v)) b refl, t.fails (at + length ws + 1) v e (fails_there v e _ _ n f)) refl;
    begins = λ v g. subst (Begun (IsMember Is) at) (sym (append_assoc ws (34 ∷ w) v)) (faults.text_begins Is opens at ws b (w ++ v) (t.begins v g));
  }

  in_member : (at : ℕ) (ws quoted vs name w : List ℕ) → AreBlanks ws → IsQuoted quoted name → AreBlanks vs
      → Quotes (item_at value) (Begun (IsItem Is) (at + length ws + length quoted + length vs + 1)) (at + length ws + length quoted + length vs + 1) w → Quotes (member_at value) (Begun (IsMember Is) at) at (ws ++ (quoted ++ (vs ++ 58 ∷ w)))
  unfolding member_at
  in_member at ws quoted vs name w b q c r =
      let front = ws ++ (quoted ++ (vs ++ 58 ∷ w)) in
      let size : length front ≡ length ws + length quoted + length vs + 1 + length w = omega (arith, length-append ws (quoted ++ (vs ++ 58 ∷ w)), length-append quoted (vs ++ 58 ∷ w), length-append vs (58 ∷ w)) in
      let all : (v : List ℕ) → front ++ v ≡ ws ++ (quoted ++ (vs ++ 58 ∷ (w ++ v))) = λ v. append_assoc ws (quoted ++ (vs ++ 58 ∷ w)) v ∙ ap (λ (l : List ℕ). ws ++ l) (append_assoc quoted (vs ++ 58 ∷ w) v ∙ ap (λ (l : List ℕ). quoted ++ l) (append_assoc vs (58 ∷ w) v)) in
      record {
        some = omega (arith, size);
        fails = λ v e f.
            let n : at + length front ≡ at + length ws + length quoted + length vs + 1 + length w = omega (arith, size) in
            ap (member_at value at) (all v)
            ∙ rw (again.name_again value Is reads starts at ws quoted vs name (w ++ v) b q c, r.fails v e (fails_there v e _ _ n f)) refl;
        begins = λ v g. subst (Begun (IsMember Is) at) (sym (all v)) (faults.member_begins Is at ws quoted vs name b q c (w ++ v) (r.begins v g));
      }

  pub member_finds : Finds (member_at value) (IsMember Is)
  member_finds at bytes m h w rest parts =
      let place = at + length h.before + length h.quoted + length h.behind + 1 in
      elim (splits h.before (h.quoted ++ (h.behind ++ 58 ∷ h.item)) w rest 120 (sym h.bytes_are ∙ parts)) [
        | inl p ↦ absurd (without_x w p.0 (subst Without p.1 (blanks_without h.before h.blanks_before)))
        | inr p ↦ elim (splits h.quoted (h.behind ++ 58 ∷ h.item) p.0 rest 120 p.2) [
          | inl q ↦
              let t = quoted_finds h.quoted m.0 p.0 q.0 h.name q.1 in
              subst (Quotes (member_at value) (Begun (IsMember Is) at) at) (sym (p.1 ∙ ap (λ (l : List ℕ). h.before ++ l) t.1)) (in_name at h.before t.0 h.blanks_before t.2)
          | inr q ↦ elim (splits h.behind (58 ∷ h.item) q.0 rest 120 q.2) [
            | inl r ↦ absurd (without_x q.0 r.0 (subst Without r.1 (blanks_without h.behind h.blanks_behind)))
            | inr r ↦
                let s = behind_byte 58 h.item r.0 rest (λ k. omega (arith, k)) r.2 in
                let whole : w ≡ h.before ++ (h.quoted ++ (h.behind ++ 58 ∷ s.0)) = p.1 ∙ ap (λ (l : List ℕ). h.before ++ l) (q.1 ∙ ap (λ (l : List ℕ). h.quoted ++ l) (r.1 ∙ ap (λ (l : List ℕ). h.behind ++ l) s.1)) in
                subst (Quotes (member_at value) (Begun (IsMember Is) at) at) (sym whole) (in_member at h.before h.quoted h.behind m.0 s.0 h.blanks_before h.name h.blanks_behind (item_finds place h.item m.1 h.value s.0 rest s.2))
          ]
        ]
      ]

  pub items_find : FindsIn (item_at value) 93 (IsItem Is)
  items_find = list_finds (item_at value) (IsItem Is) item_finds (again.item_again value Is reads starts) (again.item_strips value Is reads starts) (item_absorbs Is) 93 (inl refl)

  pub members_find : FindsIn (member_at value) 125 (IsMember Is)
  members_find = list_finds (member_at value) (IsMember Is) member_finds (again.member_again value Is reads starts) (again.member_strips value Is reads starts) (member_absorbs Is) 125 (inr refl)

-- ---- kinds and trees

abbrev InsideFinds : Option (Reader Tree) → Type 0 → (ℕ → List ℕ → Tree → Type 0) → Type 0
InsideFinds None Nested Is = Nested → ⊥
InsideFinds (Some value) Nested Is = FindsIn (item_at value) 93 (IsItem Is) × FindsIn (member_at value) 125 (IsMember Is)

module _ (Nested : Type 0) (Is : ℕ → List ℕ → Tree → Type 0) where
  in_text : (inner : Option (Reader Tree)) (at : ℕ) (w : List ℕ) → InText w → Quotes (kind_read inner) (Begun (IsKind Nested Is) at) at (34 ∷ w)
  unfolding scalar_at quoted_at
  in_text inner at w t = record {
    some = omega arith;
    fails = λ v e f.
        let n : at + suc (length w) ≡ at + 1 + length w = omega arith in
        rw (t.fails (at + 1) v e (fails_there v e _ _ n f)) refl;
    begins = λ v g. faults.quoted_begins Nested Is at (w ++ v) (t.begins v g);
  }

  in_list : (value : Reader Tree) → Nested → (at : ℕ) (w : List ℕ) → Quotes (list_at (item_at value) 93) (BeginsList (IsItem Is) 93 (at + 1)) (at + 1) w → Quotes (kind_read (Some value)) (Begun (IsKind Nested Is) at) at (91 ∷ w)
  unfolding items_at
  in_list value n at w q = record {
    some = omega arith;
    fails = λ v e f.
        let p : at + suc (length w) ≡ at + 1 + length w = omega arith in
        rw (q.fails v e (fails_there v e _ _ p f)) refl;
    begins = λ v g. faults.list_begins Nested Is n at (w ++ v) (q.begins v g);
  }

  in_object : (value : Reader Tree) → Nested → (at : ℕ) (w : List ℕ) → Quotes (list_at (member_at value) 125) (BeginsList (IsMember Is) 125 (at + 1)) (at + 1) w → Quotes (kind_read (Some value)) (Begun (IsKind Nested Is) at) at (123 ∷ w)
  unfolding members_at
  in_object value n at w q = record {
    some = omega arith;
    fails = λ v e f.
        let p : at + suc (length w) ≡ at + 1 + length w = omega arith in
        rw (q.fails v e (fails_there v e _ _ p f)) refl;
    begins = λ v g. faults.object_begins Nested Is n at (w ++ v) (q.begins v g);
  }

  kind_finds : (inner : Option (Reader Tree)) → InsideFinds inner Nested Is → Finds (kind_read inner) (IsKind Nested Is)
  kind_finds inner s at bytes Null h w rest e = absurd (without_x w rest (subst Without (sym h ∙ e) ((λ k. omega (arith, k)), ((λ k. omega (arith, k)), ((λ k. omega (arith, k)), ((λ k. omega (arith, k)), tt))))))
  kind_finds inner s at bytes (Bool_of true) h w rest e = absurd (without_x w rest (subst Without (sym h ∙ e) ((λ k. omega (arith, k)), ((λ k. omega (arith, k)), ((λ k. omega (arith, k)), ((λ k. omega (arith, k)), tt))))))
  kind_finds inner s at bytes (Bool_of false) h w rest e = absurd (without_x w rest (subst Without (sym h ∙ e) ((λ k. omega (arith, k)), ((λ k. omega (arith, k)), ((λ k. omega (arith, k)), ((λ k. omega (arith, k)), ((λ k. omega (arith, k)), tt)))))))
  kind_finds inner s at bytes (Numeral_of m p) h w rest e = absurd (without_x w rest (subst Without e (number_without bytes h.0 h.1)))
  kind_finds inner s at bytes Wide h w rest e = absurd (without_x w rest (subst Without e (number_without bytes h.0 h.1)))
  kind_finds inner s at bytes (Text_of t) h w rest e =
      let q = quoted_finds bytes t w rest h e in
      subst (Quotes (kind_read inner) (Begun (IsKind Nested Is) at) at) (sym q.1) (in_text inner at q.0 q.2)
  kind_finds None s at bytes (List_of ts) h w rest e = absurd (s h.0)
  kind_finds (Some value) s at bytes (List_of ts) h w rest e =
      let p = between 91 93 h.1.0 bytes w rest (λ k. omega (arith, k)) (λ k. omega (arith, k)) h.1.1 e in
      subst (Quotes (kind_read (Some value)) (Begun (IsKind Nested Is) at) at) (sym p.2) (in_list value h.0 at p.0 (s.0 (at + 1) h.1.0 (in_trees ts) h.1.2 p.0 p.1 p.3))
  kind_finds None s at bytes (Object_of ms) h w rest e = absurd (s h.0)
  kind_finds (Some value) s at bytes (Object_of ms) h w rest e =
      let p = between 123 125 h.1.0 bytes w rest (λ k. omega (arith, k)) (λ k. omega (arith, k)) h.1.1 e in
      subst (Quotes (kind_read (Some value)) (Begun (IsKind Nested Is) at) at) (sym p.2) (in_object value h.0 at p.0 (s.1 (at + 1) h.1.0 (in_members ms) h.1.2 p.0 p.1 p.3))

  pub tree_finds : (inner : Option (Reader Tree)) → InsideFinds inner Nested Is → Finds (tree_read inner) (IsTree Nested Is)
  tree_finds inner s at bytes (At place k) h w rest e =
      let q = kind_finds inner s at bytes k h.1 w rest e in
      record {
        some = q.some;
        fails = λ v d f. ap (λ (r : Read Kind). r >>= λ kind. Ok (At at kind.0, kind.1, kind.2)) (q.fails v d f);
        begins = λ v g. let b = q.begins v g in (b.0, At at b.1, (refl, b.2));
      }

-- ---- values and whole texts

pub value_finds : (levels : ℕ) → Finds (value_at levels) (SpellsAt levels)
unfolding value_at inner_at SpellsAt
value_finds zero at bytes t h w rest e = tree_finds ⊥ (λ _ _ _. ⊥) None (λ n. n) at bytes t h w rest e
value_finds (suc levels) at bytes t h w rest e =
    let value = value_at levels in
    let Is = SpellsAt levels in
    let items = items_find value Is (value_finds levels) (again.value_again levels) (again.spells_begins levels) (faults.value_begins levels) in
    let named = members_find value Is (value_finds levels) (again.value_again levels) (again.spells_begins levels) (faults.value_begins levels) in
    tree_finds (Unit {0}) Is (Some value) (items, named) at bytes t h w rest e

-- A whole text goes on behind w, which is in quotes.
pub whole_finds : (levels : ℕ) (w : List ℕ) → IsInQuotes (Begins levels) w → Quotes (item_at (value_at levels)) (Begins levels) 0 w
unfolding Spells
whole_finds levels w h =
    let q = item_finds (value_at levels) (SpellsAt levels) (value_finds levels) (again.value_again levels) (again.spells_begins levels) (faults.value_begins levels) 0 ((w ++ 120 ∷ []) ++ h.0) h.1 h.2 w h.0 (append_assoc w (120 ∷ []) h.0) in
    record { some = q.some; fails = q.fails; begins = q.begins }

-- What fails behind w as the characters of a text fails so in the whole.
pub quoted_fails : (w v : List ℕ) (e : JsonFault) → IsInQuotes (Begins 64) w → text_at (length v) (length w) v ≡ Err e → (item_at (value_at 64) 0 (w ++ v) >>= ended) ≡ Err e
quoted_fails w v e h f = ap (λ (r : Read Tree). r >>= ended) ((whole_finds 64 w h).fails v e (fails_there v e (length w) (0 + length w) (omega arith) f))

-- What begins a text behind w begins a whole one.
pub quoted_begins : (w v : List ℕ) → IsInQuotes (Begins 64) w → BeginsText v → Begins 64 (w ++ v)
quoted_begins w v h b = (whole_finds 64 w h).begins v b

-- ---- the faults in quotes

-- bytes before start, those from start to stop, and those behind
parts_at : (bytes shown : List ℕ) (start stop : ℕ) → start ≤ stop + 1 → stop < length bytes → drop start (take (stop + 1) bytes) ≡ shown → bytes ≡ take start bytes ++ (shown ++ drop (stop + 1) bytes)
parts_at bytes shown start stop le lt is =
    let front = take (stop + 1) bytes in
    let back = drop (stop + 1) bytes in
    let size : length front ≡ stop + 1 = length-take-le (stop + 1) bytes (omega (arith, lt)) in
    let inner : drop start bytes ≡ shown ++ back = ap (drop start) (sym (take-append-drop (stop + 1) bytes)) ∙ drop-append-le start front back (omega (arith, le, size)) ∙ ap (λ (l : List ℕ). l ++ back) is in
    sym (take-append-drop start bytes) ∙ ap (λ (l : List ℕ). take start bytes ++ l) inner

quoted_fails_at : (bytes : List ℕ) (start : ℕ) (v : List ℕ) (e : JsonFault) → start ≤ length bytes → IsInQuotes (Begins 64) (take start bytes) → bytes ≡ take start bytes ++ v → text_at (length v) start v ≡ Err e → (item_at (value_at 64) 0 bytes >>= ended) ≡ Err e
quoted_fails_at bytes start v e le quotes parts f =
    ap (λ (l : List ℕ). item_at (value_at 64) 0 l >>= ended) parts ∙ quoted_fails (take start bytes) v e quotes (fails_there v e start (length (take start bytes)) (sym (length-take-le start bytes le)) f)

-- a text that has bytes, with as many as they are
some_fails : (bytes v : List ℕ) (at : ℕ) (e : JsonFault) → 0 < length bytes → ((most : ℕ) → text_at (suc most) at (bytes ++ v) ≡ Err e) → FailsAt at (bytes ++ v) e
some_fails [] v at e lt h = absurd (omega arith)
some_fails (b ∷ bs) v at e lt h = h (length (bs ++ v))

-- a sequence that is no character is told at its first byte
pub bad_sequence_read : (bytes : List ℕ) (start stop : ℕ) → IsBadSequence (Begins 64) bytes start stop → (item_at (value_at 64) 0 bytes >>= ended) ≡ Err (NotUtf8 start)
bad_sequence_read bytes start stop h =
    let shown = drop start (take (stop + 1) bytes) in
    let back = drop (stop + 1) bytes in
    let size : length shown ≡ stop + 1 - start = length-drop start (take (stop + 1) bytes) ∙ ap (λ (n : ℕ). n - start) (length-take-le (stop + 1) bytes (omega (arith, h.inside))) in
    quoted_fails_at bytes start (shown ++ back) (NotUtf8 start) (omega (arith, h.from, h.inside)) h.in_quotes (parts_at bytes shown start stop (omega (arith, h.from)) h.inside refl)
    (some_fails shown back start (NotUtf8 start) (omega (arith, size, h.from)) (λ most. bad_text most start shown back h.broken))

-- a half that is alone is told at its backslash
pub lone_half_read : (bytes : List ℕ) (start stop : ℕ) → IsLoneHalf (Begins 64) bytes start stop → (item_at (value_at 64) 0 bytes >>= ended) ≡ Err (Syntax start)
lone_half_read bytes start stop h =
    let shown = 92 ∷ 117 ∷ (h.digits ++ h.behind) in
    let back = drop (stop + 1) bytes in
    let size : length shown ≡ stop + 1 - start = sym (ap length h.escape) ∙ length-drop start (take (stop + 1) bytes) ∙ ap (λ (n : ℕ). n - start) (length-take-le (stop + 1) bytes (omega (arith, h.inside))) in
    let from : start ≤ stop + 1 = omega (arith, size) in
    quoted_fails_at bytes start (shown ++ back) (Syntax start) (omega (arith, size, h.inside)) h.in_quotes (parts_at bytes shown start stop from h.inside h.escape)
    (alone_text (length ((117 ∷ (h.digits ++ h.behind)) ++ back)) start h.digits h.behind back h.unit h.code h.alone)

-- an escape that ends too early is told where the bytes end
pub unfinished_read : (bytes : List ℕ) → IsUnfinished (Begins 64) bytes → (item_at (value_at 64) 0 bytes >>= ended) ≡ Err (Syntax (length bytes))
unfinished_read bytes h =
    let place : length h.before + 2 + length h.digits ≡ length bytes = omega (arith, ap length h.bytes_are, length-append h.before (92 ∷ 117 ∷ h.digits)) in
    ap (λ (l : List ℕ). item_at (value_at 64) 0 l >>= ended) h.bytes_are
    ∙ quoted_fails h.before (92 ∷ 117 ∷ h.digits) (Syntax (length h.before + 2 + length h.digits)) h.in_quotes (unfinished_text (length (117 ∷ h.digits)) (length h.before) h.digits h.few h.hexadecimal)
    ∙ ap (λ (n : ℕ). Err (Syntax n)) place

-- ---- fronts of what is lawful

begins_front : (u v : List ℕ) → Begins 64 (u ++ v) → Begins 64 u
begins_front u v h = (v ++ h.0, h.1, subst (λ (l : List ℕ). Spells 64 l h.1) (append_assoc u v h.0) h.2)

digits_front : (u v : List ℕ) → AllByRecursion IsHexadecimal (u ++ v) → AllByRecursion IsHexadecimal u
digits_front [] v h = tt
digits_front (b ∷ u) v h = (h.0, digits_front u v h.1)

-- a backslash behind what is in quotes, a u and some of the digits
escape_front : (before digits mid v : List ℕ) → IsInQuotes (Begins 64) before → length digits < 4 → AllByRecursion IsHexadecimal digits → 117 ∷ digits ≡ mid ++ v → IsLawful (Begins 64) (before ++ 92 ∷ mid)
escape_front before digits [] v quotes few are e = inl (quoted_begins before (92 ∷ []) quotes begins_backslash)
escape_front before digits (b ∷ ds) v quotes few are e =
    let same = first_and_others 117 b digits (ds ++ v) e in
    inr (record {
      before = before;
      digits = ds;
      bytes_are = ap (λ (c : ℕ). before ++ 92 ∷ c ∷ ds) (sym same.0);
      in_quotes = quotes;
      few = omega (arith, few, ap length same.1, length-append ds v);
      hexadecimal = digits_front ds v (subst (AllByRecursion IsHexadecimal) same.1 are);
    })

unfinished_front : (u v : List ℕ) → IsUnfinished (Begins 64) (u ++ v) → IsLawful (Begins 64) u
unfinished_front u v h =
    elim (splits u v h.before (117 ∷ h.digits) 92 h.bytes_are) [
      | inl p ↦ subst (IsLawful (Begins 64)) (sym p.1) (escape_front h.before h.digits p.0 v h.in_quotes h.few h.hexadecimal p.2)
      | inr p ↦ inl (begins_front u (p.0 ++ 120 ∷ []) (subst (Begins 64) (ap (λ (l : List ℕ). l ++ 120 ∷ []) p.1 ∙ append_assoc u p.0 (120 ∷ [])) h.in_quotes))
    ]

pub lawful_front : (u v : List ℕ) → IsLawful (Begins 64) (u ++ v) → IsLawful (Begins 64) u
lawful_front u v (inl h) = inl (begins_front u v h)
lawful_front u v (inr h) = unfinished_front u v h
