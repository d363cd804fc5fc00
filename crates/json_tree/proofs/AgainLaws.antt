-- Values: what is spelled so is read.
use Rattle.std.proofs.Common.{◌≡◌, ◌≢◌, ℕ, zero, suc, ◌+◌, ◌≤◌, ◌<◌, true, false, eqb, List, [], ◌∷◌, ◌++◌, length, Option, Some, None, Ok, refl, sym, ap, subst, ◌∙◌, ◌⊎◌, inl, inr, append_assoc, length-append, arith}
use Rattle.std.specs.Prelude.{codes}
use Rattle.std.proofs.lemmas.Bool.{eq-eqb, ne_eqb, le-ltb, or_from}
use Rattle.std.proofs.lemmas.List.{append-nil}
use Rattle.json_tokens.specs.Reading.{Read, is_blank, byte_at}
use Rattle.json_tokens.specs.Decimal.{Digits}
use Rattle.json_tokens.specs.ReadingNumerals.{numeral_of_digits, is_digit}
use Rattle.json_tree.specs.ReadingValues.{quoted_at, number_kind, number_at, scalar_at, elements_at, list_at, item_at, name_at, member_at, items_at, members_at, list_in, object_in, kind_read, tree_read, inner_at, value_at, document_at}
use Rattle.json_tree.specs.Tree.{Tree, Kind, Trees, Members, At, Null, Bool_of, Numeral_of, Wide, Text_of, List_of, Object_of, in_trees, in_members}
use Rattle.json_tokens.specs.Grammar.{IsBlank, AreBlanks, IsQuoted, IsDigit, IsNumber}
use Rattle.json_tree.specs.Grammar.{AreElements, IsItem, IsMember, IsKind, IsTree, SpellsAt, Spells}
use Rattle.json_tokens.proofs.Tools.{byte_again, byte_other, NoBlank, blanks_again}
use Rattle.json_tokens.proofs.TextLaws.{text_again}
use Rattle.json_tokens.proofs.NumeralLaws.{Ends, numeral_again, number_first, kept_numeral, wide_numeral}
use Rattle.json_tree.proofs.ValueLaws.{back_trees, back_members}

-- ---- what may stand behind

-- the bytes end, or go on with a comma or a closing bracket
abbrev pub Stops : List ℕ → Type 0
Stops [] = Unit {0}
Stops (b ∷ bs) = (b ≡ 44) ⊎ ((b ≡ 93) ⊎ (b ≡ 125))

stops_blank : (rest : List ℕ) → Stops rest → NoBlank rest
stops_blank [] h = tt
stops_blank (b ∷ bs) (inl e) = ap is_blank e
stops_blank (b ∷ bs) (inr (inl e)) = ap is_blank e
stops_blank (b ∷ bs) (inr (inr e)) = ap is_blank e

-- a byte at which a number ends
abbrev EndsAt : ℕ → Type 0
EndsAt b = (is_digit b ≡ false) × (b ≢ 46) × (b ≢ 101) × (b ≢ 69)

ends_at : (b c : ℕ) → b ≡ c → is_digit c ≡ false → (c ≡ 46 → ⊥) → (c ≡ 101 → ⊥) → (c ≡ 69 → ⊥) → EndsAt b
ends_at b c e d p q r = (ap is_digit e ∙ d, λ f. p (sym e ∙ f), λ f. q (sym e ∙ f), λ f. r (sym e ∙ f))

blank_ends : (b : ℕ) → IsBlank b → EndsAt b
blank_ends b (inl e) = ends_at b 32 e refl (λ f. omega arith) (λ f. omega arith) (λ f. omega arith)
blank_ends b (inr (inl e)) = ends_at b 9 e refl (λ f. omega arith) (λ f. omega arith) (λ f. omega arith)
blank_ends b (inr (inr (inl e))) = ends_at b 10 e refl (λ f. omega arith) (λ f. omega arith) (λ f. omega arith)
blank_ends b (inr (inr (inr e))) = ends_at b 13 e refl (λ f. omega arith) (λ f. omega arith) (λ f. omega arith)

stops_end : (rest : List ℕ) → Stops rest → Ends rest
stops_end [] h = tt
stops_end (b ∷ bs) (inl e) = ends_at b 44 e refl (λ f. omega arith) (λ f. omega arith) (λ f. omega arith)
stops_end (b ∷ bs) (inr (inl e)) = ends_at b 93 e refl (λ f. omega arith) (λ f. omega arith) (λ f. omega arith)
stops_end (b ∷ bs) (inr (inr e)) = ends_at b 125 e refl (λ f. omega arith) (λ f. omega arith) (λ f. omega arith)

behind_ends : (ws rest : List ℕ) → AreBlanks ws → Stops rest → Ends (ws ++ rest)
behind_ends [] rest b h = stops_end rest h
behind_ends (w ∷ ws) rest b h = blank_ends w b.0

-- ---- the first byte

-- a byte that begins a value
pub record Starts (b : ℕ) : Type 0 where
  pub above : 33 ≤ b
  pub no_comma : b ≢ 44
  pub no_bracket : b ≢ 93
  pub no_brace : b ≢ 125
  pub no_colon : b ≢ 58

starts_no_blank : (b : ℕ) (bs : List ℕ) → Starts b → NoBlank (b ∷ bs)
starts_no_blank b bs h =
    or_from _ _ (or_from _ _ (or_from _ _ (ne_eqb b 32 (λ e. omega (arith, h.above))) (ne_eqb b 9 (λ e. omega (arith, h.above)))) (ne_eqb b 10 (λ e. omega (arith, h.above)))) (ne_eqb b 13 (λ e. omega (arith, h.above)))

abbrev pub Begins : List ℕ → Type 0
Begins bytes = (b : ℕ) × (bs : List ℕ) × (bytes ≡ b ∷ bs) × Starts b

starts_here : (c : ℕ) → 33 ≤ c → (c ≡ 44 → ⊥) → (c ≡ 93 → ⊥) → (c ≡ 125 → ⊥) → (c ≡ 58 → ⊥) → Starts c
starts_here c a p q r s = record { above = a; no_comma = p; no_bracket = q; no_brace = r; no_colon = s }

quote_starts : Starts 34
quote_starts = starts_here 34 (omega arith) (λ f. omega arith) (λ f. omega arith) (λ f. omega arith) (λ f. omega arith)

number_starts : (b : ℕ) → (b ≡ 45) ⊎ IsDigit b → Starts b
number_starts b (inl e) = starts_here b (omega arith) (λ f. omega arith) (λ f. omega arith) (λ f. omega arith) (λ f. omega arith)
number_starts b (inr h) = starts_here b (omega (arith, h.0)) (λ f. omega (arith, h.0)) (λ f. omega (arith, h.1)) (λ f. omega (arith, h.1)) (λ f. omega (arith, h.1))

number_begins : (bytes : List ℕ) (d : Digits) → IsNumber bytes d → Begins bytes
number_begins bytes d n = let f = number_first bytes d n in (f.0, f.1, f.2, number_starts f.0 f.3)

module _ (Nested : Type 0) (Is : ℕ → List ℕ → Tree → Type 0) where
  kind_begins : (at : ℕ) (bytes : List ℕ) (k : Kind) → IsKind Nested Is at bytes k → Begins bytes
  kind_begins at bytes Null h = (110, codes "ull", h, starts_here 110 (omega arith) (λ f. omega arith) (λ f. omega arith) (λ f. omega arith) (λ f. omega arith))
  kind_begins at bytes (Bool_of true) h = (116, codes "rue", h, starts_here 116 (omega arith) (λ f. omega arith) (λ f. omega arith) (λ f. omega arith) (λ f. omega arith))
  kind_begins at bytes (Bool_of false) h = (102, codes "alse", h, starts_here 102 (omega arith) (λ f. omega arith) (λ f. omega arith) (λ f. omega arith) (λ f. omega arith))
  kind_begins at bytes (Numeral_of m p) h = number_begins bytes h.0 h.1
  kind_begins at bytes Wide h = number_begins bytes h.0 h.1
  kind_begins at bytes (Text_of s) h = (34, h.body ++ 34 ∷ [], h.bytes_are, quote_starts)
  kind_begins at bytes (List_of ts) h = (91, h.1.0 ++ 93 ∷ [], h.1.1, starts_here 91 (omega arith) (λ f. omega arith) (λ f. omega arith) (λ f. omega arith) (λ f. omega arith))
  kind_begins at bytes (Object_of ms) h = (123, h.1.0 ++ 125 ∷ [], h.1.1, starts_here 123 (omega arith) (λ f. omega arith) (λ f. omega arith) (λ f. omega arith) (λ f. omega arith))

  tree_begins : (at : ℕ) (bytes : List ℕ) (t : Tree) → IsTree Nested Is at bytes t → Begins bytes
  tree_begins at bytes (At place k) h = kind_begins at bytes k h.1

pub spells_begins : (levels at : ℕ) (bytes : List ℕ) (t : Tree) → SpellsAt levels at bytes t → Begins bytes
unfolding SpellsAt
spells_begins zero at bytes t h = tree_begins ⊥ (λ _ _ _. ⊥) at bytes t h
spells_begins (suc levels) at bytes t h = tree_begins (Unit {0}) (SpellsAt levels) at bytes t h

pub begins_no_blank : (bytes rest : List ℕ) → Begins bytes → NoBlank (bytes ++ rest)
begins_no_blank bytes rest b = rw b.2 (starts_no_blank b.0 (b.1 ++ rest) b.3)

pub begins_other : (byte at : ℕ) (bytes rest : List ℕ) (b : Begins bytes) → (b.0 ≡ byte → ⊥) → byte_at byte at (bytes ++ rest) ≡ None
begins_other byte at bytes rest b ne = ap (λ (l : List ℕ). byte_at byte at (l ++ rest)) b.2 ∙ byte_other byte at b.0 (b.1 ++ rest) ne

-- ---- values that hold no others

at_end : Kind → ℕ → List ℕ → Kind × ℕ × List ℕ
at_end k n rest = (k, n, rest)

quoted_again : (bytes s : List ℕ) (at : ℕ) (rest : List ℕ) → IsQuoted bytes s → scalar_at at (bytes ++ rest) ≡ Ok (Text_of s, at + length bytes, rest)
unfolding scalar_at quoted_at at_end
quoted_again bytes s at rest q =
    let all : bytes ++ rest ≡ 34 ∷ (q.body ++ 34 ∷ rest) = ap (λ (l : List ℕ). l ++ rest) q.bytes_are ∙ ap (λ (l : List ℕ). 34 ∷ l) (append_assoc q.body (34 ∷ []) rest) in
    let t = text_again q.body s (length (q.body ++ 34 ∷ rest)) (at + 1) rest q.spelled (omega (arith, length-append q.body (34 ∷ rest))) in
    ap (scalar_at at) all ∙ rw t (ap (λ (n : ℕ). Ok (at_end (Text_of s) n rest)) (omega (arith, ap length q.bytes_are, length-append q.body (34 ∷ []))))

number_read : (bytes : List ℕ) (d : Digits) (k : Kind) (at : ℕ) (rest : List ℕ) → IsNumber bytes d → number_kind (numeral_of_digits d) ≡ k → Ends rest → number_at at (bytes ++ rest) ≡ Ok (k, at + length bytes, rest)
unfolding number_at at_end
number_read bytes d k at rest n e stop =
    rw (numeral_again bytes d (numeral_of_digits d) at rest n refl stop) (ap (λ (l : Kind). Ok (at_end l (at + length bytes) rest)) e)

number_scalar : (bytes rest : List ℕ) (at : ℕ) (d : Digits) → IsNumber bytes d → scalar_at at (bytes ++ rest) ≡ number_at at (bytes ++ rest)
unfolding scalar_at
number_scalar bytes rest at d n =
    let f = number_first bytes d n in
    let small : (b : ℕ) → (b ≡ 45) ⊎ IsDigit b → (b ≢ 34) × (b < 102) = λ b h. elim h [ inl e ↦ (λ g. omega arith, omega arith) | inr g ↦ (λ k. omega (arith, g.0), omega (arith, g.1)) ] in
    let s = small f.0 f.3 in
    let all : bytes ++ rest ≡ f.0 ∷ (f.1 ++ rest) = ap (λ (l : List ℕ). l ++ rest) f.2 in
    ap (scalar_at at) all
    ∙ rw (ne_eqb f.0 34 s.0, ne_eqb f.0 110 (λ g. omega (arith, s.1)), ne_eqb f.0 116 (λ g. omega (arith, s.1)), ne_eqb f.0 102 (λ g. omega (arith, s.1))) (ap (number_at at) (sym all))

-- ---- kinds

-- elements are read again, up to the closing bracket
abbrev pub ListAgain : {E : Type 0} → (ℕ → List ℕ → Read E) → ℕ → (ℕ → List ℕ → E → Type 0) → Type 0
ListAgain {E} element close Is = (at : ℕ) (inner : List ℕ) (es : List E) (rest : List ℕ) → AreElements Is at inner es → list_at element close at (inner ++ close ∷ rest) ≡ Ok (es, at + length inner + 1, rest)

-- what may stand inside is read again
pub record InnerAgain (value : ℕ → List ℕ → Read Tree) (Is : ℕ → List ℕ → Tree → Type 0) : Type 0 where
  pub items : ListAgain (item_at value) 93 (IsItem Is)
  pub named : ListAgain (member_at value) 125 (IsMember Is)

abbrev pub Inners : Option (ℕ → List ℕ → Read Tree) → Type 0 → (ℕ → List ℕ → Tree → Type 0) → Type 0
Inners None Nested Is = Nested → ⊥
Inners (Some value) Nested Is = InnerAgain value Is

module _ (Nested : Type 0) (Is : ℕ → List ℕ → Tree → Type 0) where
  list_in_again : (inner : Option (ℕ → List ℕ → Read Tree)) → Inners inner Nested Is → Nested → (at : ℕ) (text : List ℕ) (ts : Trees) (rest : List ℕ) → AreElements (IsItem Is) (at + 1) text (in_trees ts)
      → list_in inner at (at + 1) (text ++ 93 ∷ rest) ≡ Ok (List_of ts, at + 1 + length text + 1, rest)
  unfolding items_at at_end
  list_in_again None s n at text ts rest h = absurd (s n)
  list_in_again (Some value) s n at text ts rest h = rw (s.items (at + 1) text (in_trees ts) rest h) (ap (λ (k : Trees). Ok (at_end (List_of k) (at + 1 + length text + 1) rest)) (back_trees ts))

  object_in_again : (inner : Option (ℕ → List ℕ → Read Tree)) → Inners inner Nested Is → Nested → (at : ℕ) (text : List ℕ) (ms : Members) (rest : List ℕ) → AreElements (IsMember Is) (at + 1) text (in_members ms)
      → object_in inner at (at + 1) (text ++ 125 ∷ rest) ≡ Ok (Object_of ms, at + 1 + length text + 1, rest)
  unfolding members_at at_end
  object_in_again None s n at text ms rest h = absurd (s n)
  object_in_again (Some value) s n at text ms rest h = rw (s.named (at + 1) text (in_members ms) rest h) (ap (λ (k : Members). Ok (at_end (Object_of k) (at + 1 + length text + 1) rest)) (back_members ms))

  abbrev KindAgain : Option (ℕ → List ℕ → Read Tree) → ℕ → List ℕ → Kind → List ℕ → Type 0
  KindAgain inner at bytes k rest = kind_read inner at (bytes ++ rest) ≡ Ok (k, at + length bytes, rest)

  number_again : (inner : Option (ℕ → List ℕ → Read Tree)) (at : ℕ) (bytes : List ℕ) (d : Digits) (k : Kind) (rest : List ℕ) → IsNumber bytes d → number_kind (numeral_of_digits d) ≡ k → Ends rest → KindAgain inner at bytes k rest
  number_again inner at bytes d k rest n e stop =
      let f = number_first bytes d n in
      let below : (b : ℕ) → (b ≡ 45) ⊎ IsDigit b → b < 91 = λ b h. elim h [ inl g ↦ omega arith | inr g ↦ omega (arith, g.1) ] in
      let b : Begins bytes = (f.0, f.1, f.2, number_starts f.0 f.3) in
      rw (begins_other 91 at bytes rest b (λ g. omega (arith, below f.0 f.3)), begins_other 123 at bytes rest b (λ g. omega (arith, below f.0 f.3)))
      (number_scalar bytes rest at d n ∙ number_read bytes d k at rest n e stop)

  bracketed : (left right at : ℕ) (text bytes rest : List ℕ) → bytes ≡ left ∷ (text ++ right ∷ []) → (bytes ++ rest ≡ left ∷ (text ++ right ∷ rest)) × (at + length bytes ≡ at + 1 + length text + 1)
  bracketed left right at text bytes rest e =
      (ap (λ (l : List ℕ). l ++ rest) e ∙ ap (λ (l : List ℕ). left ∷ l) (append_assoc text (right ∷ []) rest), omega (arith, ap length e, length-append text (right ∷ [])))

  kind_again : (inner : Option (ℕ → List ℕ → Read Tree)) → Inners inner Nested Is → (at : ℕ) (bytes : List ℕ) (k : Kind) (rest : List ℕ) → IsKind Nested Is at bytes k → Ends rest → KindAgain inner at bytes k rest
  unfolding scalar_at at_end
  kind_again inner s at bytes Null rest h stop = rw h (ap (λ (n : ℕ). Ok (at_end Null n rest)) (omega arith))
  kind_again inner s at bytes (Bool_of true) rest h stop = rw h (ap (λ (n : ℕ). Ok (at_end (Bool_of true) n rest)) (omega arith))
  kind_again inner s at bytes (Bool_of false) rest h stop = rw h (ap (λ (n : ℕ). Ok (at_end (Bool_of false) n rest)) (omega arith))
  kind_again inner s at bytes (Numeral_of m p) rest h stop = number_again inner at bytes h.0 (Numeral_of m p) rest h.1 (ap number_kind (kept_numeral h.0 m p h.2)) stop
  kind_again inner s at bytes Wide rest h stop = number_again inner at bytes h.0 Wide rest h.1 (ap number_kind (wide_numeral h.0 h.2)) stop
  kind_again inner s at bytes (Text_of t) rest h stop =
      let b : Begins bytes = (34, h.body ++ 34 ∷ [], h.bytes_are, quote_starts) in
      rw (begins_other 91 at bytes rest b (λ g. omega arith), begins_other 123 at bytes rest b (λ g. omega arith)) (quoted_again bytes t at rest h)
  kind_again inner s at bytes (List_of ts) rest h stop =
      let p = bracketed 91 93 at h.1.0 bytes rest h.1.1 in
      rw (p.0, p.1) (list_in_again inner s h.0 at h.1.0 ts rest h.1.2)
  kind_again inner s at bytes (Object_of ms) rest h stop =
      let p = bracketed 123 125 at h.1.0 bytes rest h.1.1 in
      rw (p.0, p.1) (object_in_again inner s h.0 at h.1.0 ms rest h.1.2)

  pub tree_again : (inner : Option (ℕ → List ℕ → Read Tree)) → Inners inner Nested Is → (at : ℕ) (bytes : List ℕ) (t : Tree) (rest : List ℕ) → IsTree Nested Is at bytes t → Ends rest → tree_read inner at (bytes ++ rest) ≡ Ok (t, at + length bytes, rest)
  tree_again inner s at bytes (At place k) rest h stop = rw (kind_again inner s at bytes k rest h.1 stop) (ap (λ (n : ℕ). Ok (At n k, at + length bytes, rest)) (sym h.0))

-- ---- elements

-- the first byte is no blank, no comma and no closing bracket, after blanks
pub record Stripped {E : Type 0} (Is : ℕ → List ℕ → E → Type 0) (at : ℕ) (bytes : List ℕ) (e : E) : Type 0 where
  pub blanks : List ℕ
  pub body : List ℕ
  pub bytes_are : bytes ≡ blanks ++ body
  pub are_blanks : AreBlanks blanks
  pub begins : Begins body
  pub is : Is (at + length blanks) body e

module _ {E : Type 0} (element : ℕ → List ℕ → Read E) (Is : ℕ → List ℕ → E → Type 0)
    (again : (at : ℕ) (bytes : List ℕ) (e : E) (rest : List ℕ) → Is at bytes e → Stops rest → element at (bytes ++ rest) ≡ Ok (e, at + length bytes, rest))
    (strips : (at : ℕ) (bytes : List ℕ) (e : E) → Is at bytes e → Stripped Is at bytes e) where
  longer : (at : ℕ) (bytes : List ℕ) (e : E) → Is at bytes e → 0 < length bytes
  longer at bytes e h = let s = strips at bytes e h in omega (arith, ap length s.bytes_are, length-append s.blanks s.body, ap length s.begins.2)

  elements_again : (close : ℕ) → (close ≡ 93) ⊎ (close ≡ 125) → (es : List E) (e : E) (most at : ℕ) (inner rest : List ℕ) → AreElements Is at inner (e ∷ es) → length es < most
      → elements_at element close most at (inner ++ close ∷ rest) ≡ Ok (e ∷ es, at + length inner + 1, rest)
  unfolding elements_at
  elements_again close c es e zero at inner rest h lt = absurd (omega arith)
  elements_again close c [] e (suc most) at inner rest h lt =
      rw (again at inner e (close ∷ rest) h (inr c), no_comma, eq-eqb close close refl) refl
    where
      no_comma : eqb close 44 ≡ false
      no_comma = ne_eqb close 44 (λ q. elim c [ inl f ↦ omega arith | inr f ↦ omega arith ])
  elements_again close c (f ∷ es) e (suc most) at inner rest h lt =
      let all : inner ++ close ∷ rest ≡ h.0 ++ 44 ∷ (h.1 ++ close ∷ rest) = ap (λ (l : List ℕ). l ++ close ∷ rest) h.2 ∙ append_assoc h.0 (44 ∷ h.1) (close ∷ rest) in
      let place : at + length h.0 + 1 + length h.1 + 1 ≡ at + length inner + 1 = omega (arith, ap length h.2, length-append h.0 (44 ∷ h.1)) in
      ap (elements_at element close (suc most) at) all
      ∙ rw (again at h.0 e (44 ∷ (h.1 ++ close ∷ rest)) h.3 (inl refl), elements_again close c es f most (at + length h.0 + 1) h.1 rest h.4 (omega arith))
      (ap (λ (n : ℕ). Ok (e ∷ f ∷ es, n, rest)) place)

  few : (es : List E) (e : E) (at : ℕ) (inner : List ℕ) → AreElements Is at inner (e ∷ es) → length es < length inner
  few [] e at inner h = longer at inner e h
  few (f ∷ es) e at inner h = omega (arith, few es f (at + length h.0 + 1) h.1 h.4, ap length h.2, length-append h.0 (44 ∷ h.1))

  -- the same elements behind the blanks before the first
  abbrev pub Behind : ℕ → List ℕ → List E → Type 0
  Behind at inner es = (ws body : List ℕ) × (inner ≡ ws ++ body) × AreBlanks ws × Begins body × AreElements Is (at + length ws) body es

  pub behind : (es : List E) (e : E) (at : ℕ) (inner : List ℕ) → AreElements Is at inner (e ∷ es) → Behind at inner (e ∷ es)
  behind [] e at inner h = let s = strips at inner e h in (s.blanks, s.body, s.bytes_are, s.are_blanks, s.begins, s.is)
  behind (f ∷ es) e at inner h =
      let s = strips at h.0 e h.3 in
      let place : at + length h.0 + 1 ≡ at + length s.blanks + length s.body + 1 = omega (arith, ap length s.bytes_are, length-append s.blanks s.body) in (
        s.blanks,
        s.body ++ 44 ∷ h.1,
        h.2 ∙ ap (λ (l : List ℕ). l ++ 44 ∷ h.1) s.bytes_are ∙ append_assoc s.blanks s.body (44 ∷ h.1),
        s.are_blanks,
        (s.begins.0, s.begins.1 ++ 44 ∷ h.1, ap (λ (l : List ℕ). l ++ 44 ∷ h.1) s.begins.2, s.begins.3),
        (s.body, h.1, refl, s.is, subst (λ (n : ℕ). AreElements Is n h.1 (f ∷ es)) place h.4),
      )

  pub list_again : (close : ℕ) → (close ≡ 93) ⊎ (close ≡ 125) → ListAgain element close Is
  unfolding list_at
  list_again close c at inner [] rest h =
      rw (blanks_again inner at (close ∷ rest) h (closes close c), byte_again close (at + length inner) rest) refl
    where
      closes : (b : ℕ) → (b ≡ 93) ⊎ (b ≡ 125) → is_blank b ≡ false
      closes b (inl e) = ap is_blank e
      closes b (inr e) = ap is_blank e
  list_again close c at inner (e ∷ es) rest h =
      let p = behind es e at inner h in
      let ws = p.0 in
      let body = p.1 in
      let all : inner ++ close ∷ rest ≡ ws ++ (body ++ close ∷ rest) = ap (λ (l : List ℕ). l ++ close ∷ rest) p.2 ∙ append_assoc ws body (close ∷ rest) in
      let other : byte_at close (at + length ws) (body ++ close ∷ rest) ≡ None = begins_other close (at + length ws) body (close ∷ rest) p.4 (λ q. elim c [ inl f ↦ p.4.3.no_bracket (q ∙ f) | inr f ↦ p.4.3.no_brace (q ∙ f) ]) in
      let count : length es < length (body ++ close ∷ rest) = omega (arith, few es e (at + length ws) body p.5, length-append body (close ∷ rest)) in
      let place : at + length ws + length body + 1 ≡ at + length inner + 1 = omega (arith, ap length p.2, length-append ws body) in
      ap (list_at element close at) all
      ∙ rw (blanks_again ws at (body ++ close ∷ rest) p.3 (begins_no_blank body (close ∷ rest) p.4), other, elements_again close c es e (length (body ++ close ∷ rest)) (at + length ws) body rest p.5 count)
      (ap (λ (n : ℕ). Ok (e ∷ es, n, rest)) place)

-- ---- items and members

module _ (value : ℕ → List ℕ → Read Tree) (Is : ℕ → List ℕ → Tree → Type 0)
    (again : (at : ℕ) (bytes : List ℕ) (t : Tree) (rest : List ℕ) → Is at bytes t → Ends rest → value at (bytes ++ rest) ≡ Ok (t, at + length bytes, rest))
    (begins : (at : ℕ) (bytes : List ℕ) (t : Tree) → Is at bytes t → Begins bytes) where
  pub item_again : (at : ℕ) (bytes : List ℕ) (t : Tree) (rest : List ℕ) → IsItem Is at bytes t → Stops rest → item_at value at (bytes ++ rest) ≡ Ok (t, at + length bytes, rest)
  unfolding item_at
  item_again at bytes t rest h stop =
      let b = h.before in
      let x = h.text in
      let c = h.behind in
      let all : bytes ++ rest ≡ b ++ (x ++ (c ++ rest)) = ap (λ (l : List ℕ). l ++ rest) h.bytes_are ∙ append_assoc b (x ++ c) rest ∙ ap (λ (l : List ℕ). b ++ l) (append_assoc x c rest) in
      let place : at + length b + length x + length c ≡ at + length bytes = omega (arith, ap length h.bytes_are, length-append b (x ++ c), length-append x c) in
      ap (item_at value at) all
      ∙ rw (blanks_again b at (x ++ (c ++ rest)) h.blanks_before (begins_no_blank x (c ++ rest) (begins (at + length b) x t h.value)), again (at + length b) x t (c ++ rest) h.value (behind_ends c rest h.blanks_behind stop), blanks_again c (at + length b + length x) rest h.blanks_behind (stops_blank rest stop))
      (ap (λ (n : ℕ). Ok (t, n, rest)) place)

  pub item_strips : (at : ℕ) (bytes : List ℕ) (t : Tree) → IsItem Is at bytes t → Stripped (IsItem Is) at bytes t
  item_strips at bytes t h =
      let s = begins (at + length h.before) h.text t h.value in
      record {
        blanks = h.before;
        body = h.text ++ h.behind;
        bytes_are = h.bytes_are;
        are_blanks = h.blanks_before;
        begins = (s.0, s.1 ++ h.behind, ap (λ (l : List ℕ). l ++ h.behind) s.2, s.3);
        is = record { before = []; text = h.text; behind = h.behind; bytes_are = refl; blanks_before = tt; blanks_behind = h.blanks_behind; value = subst (λ (n : ℕ). Is n h.text t) (omega arith) h.value };
      }

  pub name_again : (at : ℕ) (before quoted behind name rest : List ℕ) → AreBlanks before → IsQuoted quoted name → AreBlanks behind
      → name_at at (before ++ (quoted ++ (behind ++ 58 ∷ rest))) ≡ Ok (name, at + length before + length quoted + length behind + 1, rest)
  unfolding name_at
  name_again at before quoted behind name rest b q c =
      let tail = behind ++ 58 ∷ rest in
      let all : quoted ++ tail ≡ 34 ∷ (q.body ++ 34 ∷ tail) = ap (λ (l : List ℕ). l ++ tail) q.bytes_are ∙ ap (λ (l : List ℕ). 34 ∷ l) (append_assoc q.body (34 ∷ []) tail) in
      let t = text_again q.body name (length (q.body ++ 34 ∷ tail)) (at + length before + 1) tail q.spelled (omega (arith, length-append q.body (34 ∷ tail))) in
      let len : length quoted ≡ length q.body + 2 = omega (arith, ap length q.bytes_are, length-append q.body (34 ∷ [])) in
      ap (λ (l : List ℕ). name_at at (before ++ l)) all
      ∙ rw (blanks_again before at (34 ∷ (q.body ++ 34 ∷ tail)) b refl, t, blanks_again behind (at + length before + 1 + length q.body + 1) (58 ∷ rest) c refl)
      (ap (λ (n : ℕ). Ok (name, n, rest)) (omega arith))

  pub member_again : (at : ℕ) (bytes : List ℕ) (m : List ℕ × Tree) (rest : List ℕ) → IsMember Is at bytes m → Stops rest → member_at value at (bytes ++ rest) ≡ Ok (m, at + length bytes, rest)
  unfolding member_at
  member_again at bytes m rest h stop =
      let b = h.before in
      let q = h.quoted in
      let c = h.behind in
      let start = at + length b + length q + length c + 1 in
      let one : (c ++ 58 ∷ h.item) ++ rest ≡ c ++ 58 ∷ (h.item ++ rest) = append_assoc c (58 ∷ h.item) rest in
      let two : (q ++ (c ++ 58 ∷ h.item)) ++ rest ≡ q ++ (c ++ 58 ∷ (h.item ++ rest)) = append_assoc q (c ++ 58 ∷ h.item) rest ∙ ap (λ (l : List ℕ). q ++ l) one in
      let all : bytes ++ rest ≡ b ++ (q ++ (c ++ 58 ∷ (h.item ++ rest))) = ap (λ (l : List ℕ). l ++ rest) h.bytes_are ∙ append_assoc b (q ++ (c ++ 58 ∷ h.item)) rest ∙ ap (λ (l : List ℕ). b ++ l) two in
      let place : start + length h.item ≡ at + length bytes = omega (arith, ap length h.bytes_are, length-append b (q ++ (c ++ 58 ∷ h.item)), length-append q (c ++ 58 ∷ h.item), length-append c (58 ∷ h.item)) in
      ap (member_at value at) all
      ∙ rw (name_again at b q c m.0 (h.item ++ rest) h.blanks_before h.name h.blanks_behind, item_again start h.item m.1 rest h.value stop)
      (ap (λ (n : ℕ). Ok (m, n, rest)) place)

  pub member_strips : (at : ℕ) (bytes : List ℕ) (m : List ℕ × Tree) → IsMember Is at bytes m → Stripped (IsMember Is) at bytes m
  member_strips at bytes m h =
      let tail = h.behind ++ 58 ∷ h.item in
      record {
        blanks = h.before;
        body = h.quoted ++ tail;
        bytes_are = h.bytes_are;
        are_blanks = h.blanks_before;
        begins = (34, (h.name.body ++ 34 ∷ []) ++ tail, ap (λ (l : List ℕ). l ++ tail) h.name.bytes_are, quote_starts);
        is = record {
          before = [];
          quoted = h.quoted;
          behind = h.behind;
          item = h.item;
          bytes_are = refl;
          blanks_before = tt;
          blanks_behind = h.blanks_behind;
          name = h.name;
          value = subst (λ (n : ℕ). IsItem Is n h.item m.1) (omega arith) h.value;
        };
      }

  pub inner_again : InnerAgain value Is
  inner_again = record {
    items = list_again (item_at value) (IsItem Is) item_again item_strips 93 (inl refl);
    named = list_again (member_at value) (IsMember Is) member_again member_strips 125 (inr refl);
  }

-- ---- values and documents

pub value_again : (levels at : ℕ) (bytes : List ℕ) (t : Tree) (rest : List ℕ) → SpellsAt levels at bytes t → Ends rest → value_at levels at (bytes ++ rest) ≡ Ok (t, at + length bytes, rest)
unfolding value_at inner_at SpellsAt
value_again zero at bytes t rest h stop = tree_again ⊥ (λ _ _ _. ⊥) None (λ n. n) at bytes t rest h stop
value_again (suc levels) at bytes t rest h stop = tree_again (Unit {0}) (SpellsAt levels) (Some (value_at levels)) (inner_again (value_at levels) (SpellsAt levels) (value_again levels) (spells_begins levels)) at bytes t rest h stop

-- what is spelled so is read
pub document_again : (bytes : List ℕ) (t : Tree) → length bytes ≤ 33554432 → Spells 64 bytes t → document_at bytes ≡ Ok t
unfolding document_at Spells
document_again bytes t le h =
    let i = item_again (value_at 64) (SpellsAt 64) (value_again 64) (spells_begins 64) 0 bytes t [] h tt in
    let whole : item_at (value_at 64) 0 bytes ≡ Ok (t, length bytes, []) = ap (item_at (value_at 64) 0) (sym (append-nil bytes)) ∙ i ∙ ap (λ (n : ℕ). Ok (t, n, [])) (omega arith) in
    rw (le-ltb 33554432 (length bytes) le, whole) refl
