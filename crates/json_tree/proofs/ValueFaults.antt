-- Values: where their readers are stuck.
use Rattle.std.proofs.Common.{◌≡◌, ℕ, zero, suc, ◌+◌, Bool, true, false, cond, eqb, List, [], ◌∷◌, ◌++◌, length, Option, Some, None, Ok, Err, refl, sym, ap, subst, ◌∙◌, inl, inr, append_assoc, length-append, arith}
use Rattle.std.specs.Prelude.{codes}
use Rattle.std.proofs.lemmas.Bool.{eqb-true}
use Rattle.std.proofs.lemmas.List.{append-nil}
use Rattle.json_tokens.specs.declared.fault.JsonFault.TheVariants.{Syntax, Depth}
use Rattle.json_tokens.specs.Reading.{◌>>=◌, past_blanks, word_at}
use Rattle.json_tokens.specs.ReadingTexts.{text_at}
use Rattle.json_tokens.specs.ReadingNumerals.{numeral_of_digits, whole_at, spelling_at, numeral_at}
use Rattle.json_tree.specs.ReadingValues.{quoted_at, number_kind, number_at, scalar_at, list_at, item_at, name_at, member_at, items_at, members_at, kind_read, tree_read, inner_at, value_at}
use Rattle.json_tree.specs.Tree.{Tree, Kind, At, Null, Bool_of, Numeral_of, Wide, Text_of, List_of, Object_of, trees, members}
use Rattle.json_tokens.specs.Grammar.{AreBlanks, IsText, IsQuoted}
use Rattle.json_tree.specs.Grammar.{AreElements, IsItem, IsMember, IsKind, IsTree, SpellsAt}
use Rattle.json_tokens.proofs.Stuck.{BeginsText, BeginsNumber}
use Rattle.json_tree.proofs.Steady.{Reader, Steady, Behind, in_turn, steady_in_turn, changed, steady_changed, steady_in, steady_as, steady_end, steady_refuses, steady_done}
use Rattle.json_tree.proofs.ListFaults.{Begun, BeginsList, begins_none, steady_behind_byte, steady_behind_blanks, spelled_at, word_steady, list_steady}
use Rattle.json_tokens.proofs.TextFaults.{quoted_text_stuck, quoted_text_alike}
use Rattle.json_tokens.proofs.NumberFaults.{number_stuck, number_alike}
use Rattle.json_tokens.proofs.NumeralLaws.{numeral_is}
use Rattle.json_tokens.proofs.TextLaws.{text_took}
use Rattle.json_tokens.proofs.Tools.{Took}
use Rattle.json_tree.proofs.ValueLaws.{trees_back, members_back, number_is, item_absorbs, member_absorbs, item_took, name_took, member_took, value_took}

-- ---- texts and numbers

abbrev text_read : Reader (List ℕ)
text_read at bytes = text_at (length bytes) at bytes

text_steady : (Deeper : List ℕ → Type 0) (at : ℕ) (bytes : List ℕ) → Steady text_read BeginsText Deeper at bytes
text_steady Deeper at bytes = record { stuck = quoted_text_stuck Deeper at bytes; alike = quoted_text_alike at bytes }

numeral_steady : (Deeper : List ℕ → Type 0) (at : ℕ) (bytes : List ℕ) → Steady numeral_at BeginsNumber Deeper at bytes
numeral_steady Deeper at bytes = record { stuck = number_stuck Deeper at bytes; alike = number_alike at bytes }

number_steady : (Deeper : List ℕ → Type 0) (at : ℕ) (bytes : List ℕ) → Steady number_at BeginsNumber Deeper at bytes
unfolding number_at
number_steady Deeper at bytes = steady_changed number_kind numeral_at BeginsNumber Deeper at bytes (numeral_steady Deeper at bytes)

number_none : (at : ℕ) → number_at at [] ≡ Err (Syntax at)
unfolding number_at numeral_at spelling_at whole_at
number_none at = let n : at + 0 ≡ at = omega arith in ap (λ (k : ℕ). Err (Syntax k)) n

-- ---- what is spelled with so many levels is spelled with more

elements_more : {E : Type 0} (Is More : ℕ → List ℕ → E → Type 0) → ((at : ℕ) (bytes : List ℕ) (e : E) → Is at bytes e → More at bytes e) → (at : ℕ) (inner : List ℕ) (es : List E) → AreElements Is at inner es → AreElements More at inner es
elements_more Is More up at inner [] h = h
elements_more Is More up at inner (e ∷ []) h = up at inner e h
elements_more Is More up at inner (e ∷ f ∷ es) h = (h.0, h.1, h.2, up at h.0 e h.3, elements_more Is More up (at + length h.0 + 1) h.1 (f ∷ es) h.4)

module _ (Is More : ℕ → List ℕ → Tree → Type 0) (up : (at : ℕ) (bytes : List ℕ) (t : Tree) → Is at bytes t → More at bytes t) where
  item_more : (at : ℕ) (bytes : List ℕ) (t : Tree) → IsItem Is at bytes t → IsItem More at bytes t
  item_more at bytes t h = record { before = h.before; text = h.text; behind = h.behind; bytes_are = h.bytes_are; blanks_before = h.blanks_before; blanks_behind = h.blanks_behind; value = up (at + length h.before) h.text t h.value }

  member_more : (at : ℕ) (bytes : List ℕ) (m : List ℕ × Tree) → IsMember Is at bytes m → IsMember More at bytes m
  member_more at bytes m h = record {
    before = h.before;
    quoted = h.quoted;
    behind = h.behind;
    item = h.item;
    bytes_are = h.bytes_are;
    blanks_before = h.blanks_before;
    blanks_behind = h.blanks_behind;
    name = h.name;
    value = item_more (at + length h.before + length h.quoted + length h.behind + 1) h.item m.1 h.value;
  }

  module _ (Nested Allowed : Type 0) (allows : Nested → Allowed) where
    kind_more : (at : ℕ) (bytes : List ℕ) (k : Kind) → IsKind Nested Is at bytes k → IsKind Allowed More at bytes k
    kind_more at bytes Null h = h
    kind_more at bytes (Bool_of true) h = h
    kind_more at bytes (Bool_of false) h = h
    kind_more at bytes (Numeral_of m p) h = h
    kind_more at bytes Wide h = h
    kind_more at bytes (Text_of s) h = h
    kind_more at bytes (List_of ts) h = (allows h.0, (h.1.0, h.1.1, elements_more (IsItem Is) (IsItem More) item_more (at + 1) h.1.0 _ h.1.2))
    kind_more at bytes (Object_of ms) h = (allows h.0, (h.1.0, h.1.1, elements_more (IsMember Is) (IsMember More) member_more (at + 1) h.1.0 _ h.1.2))

    tree_more : (at : ℕ) (bytes : List ℕ) (t : Tree) → IsTree Nested Is at bytes t → IsTree Allowed More at bytes t
    tree_more at bytes (At place k) h = (h.0, kind_more at bytes k h.1)

pub spells_more : (levels at : ℕ) (bytes : List ℕ) (t : Tree) → SpellsAt levels at bytes t → SpellsAt (suc levels) at bytes t
unfolding SpellsAt
spells_more zero at bytes t h = tree_more (λ _ _ _. ⊥) (SpellsAt zero) (λ p bs u i. absurd i) ⊥ (Unit {0}) (λ n. tt) at bytes t h
spells_more (suc levels) at bytes t h = tree_more (SpellsAt levels) (SpellsAt (suc levels)) (spells_more levels) (Unit {0}) (Unit {0}) (λ n. n) at bytes t h

-- ---- what begins an item or a member

begun_front : {E : Type 0} (Is : ℕ → List ℕ → E → Type 0) (at : ℕ) (v w : List ℕ) → Begun Is at (v ++ w) → Begun Is at v
begun_front Is at v w h = (w ++ h.0, h.1, subst (λ (l : List ℕ). Is at l h.1) (append_assoc v w h.0) h.2)

empty_text : IsText [] []
empty_text = record { characters = []; each = tt; body_is = refl; text_is = refl }

module _ (Is : ℕ → List ℕ → Tree → Type 0) where
  pub item_begins : (at : ℕ) (ws : List ℕ) → AreBlanks ws → (w : List ℕ) → Begun Is (at + length ws) w → Begun (IsItem Is) at (ws ++ w)
  item_begins at ws b w h = (
    h.0,
    h.1,
    record {
      before = ws;
      text = w ++ h.0;
      behind = [];
      bytes_are = append_assoc ws w h.0 ∙ ap (λ (l : List ℕ). ws ++ l) (sym (append-nil (w ++ h.0)));
      blanks_before = b;
      blanks_behind = tt;
      value = h.2;
    },
  )

  pub member_begins : (at : ℕ) (ws quoted vs name : List ℕ) → AreBlanks ws → IsQuoted quoted name → AreBlanks vs → (w : List ℕ) → Begun (IsItem Is) (at + length ws + length quoted + length vs + 1) w
      → Begun (IsMember Is) at (ws ++ (quoted ++ (vs ++ 58 ∷ w)))
  member_begins at ws quoted vs name b q c w h = (
    h.0,
    (name, h.1),
    record {
      before = ws;
      quoted = quoted;
      behind = vs;
      item = w ++ h.0;
      bytes_are = append_assoc ws (quoted ++ (vs ++ 58 ∷ w)) h.0
          ∙ ap (λ (l : List ℕ). ws ++ l) (append_assoc quoted (vs ++ 58 ∷ w) h.0 ∙ ap (λ (l : List ℕ). quoted ++ l) (append_assoc vs (58 ∷ w) h.0));
      blanks_before = b;
      blanks_behind = c;
      name = q;
      value = h.2;
    },
  )

  module _ (begins : (at : ℕ) → Begun Is at []) where
    item_begins_none : (at : ℕ) → Begun (IsItem Is) at []
    item_begins_none at = item_begins at [] tt [] (begins (at + length {A = ℕ} []))

    -- the front of a name with its colon
    name_begins : (at : ℕ) (ws body vs name : List ℕ) → AreBlanks ws → IsText body name → AreBlanks vs → (u v : List ℕ) → u ++ v ≡ (34 ∷ (body ++ 34 ∷ [])) ++ (vs ++ 58 ∷ []) → Begun (IsMember Is) at (ws ++ u)
    name_begins at ws body vs name b i c u v e =
        let quoted = 34 ∷ (body ++ 34 ∷ []) in
        let all = member_begins at ws quoted vs name b (record { body = body; spelled = i; bytes_are = refl }) c [] (item_begins_none (at + length ws + length quoted + length vs + 1)) in
        begun_front (IsMember Is) at (ws ++ u) v (subst (Begun (IsMember Is) at) (ap (λ (l : List ℕ). ws ++ l) (sym e) ∙ sym (append_assoc ws u v)) all)

    name_opens : (at : ℕ) (ws : List ℕ) → AreBlanks ws → Begun (IsMember Is) at (ws ++ [])
    name_opens at ws b = name_begins at ws [] [] [] b empty_text tt [] (34 ∷ 34 ∷ 58 ∷ []) refl

    pub text_begins : (at : ℕ) (ws : List ℕ) → AreBlanks ws → (w : List ℕ) → BeginsText w → Begun (IsMember Is) at (ws ++ 34 ∷ w)
    text_begins at ws b w h = name_begins at ws h.1 [] h.2 b h.3 tt (34 ∷ w) (h.0 ++ 58 ∷ []) (ap (λ (l : List ℕ). 34 ∷ l) (sym (append_assoc w h.0 (58 ∷ [])) ∙ ap (λ (l : List ℕ). l ++ 58 ∷ []) h.4))

    member_begins_none : (at : ℕ) → Begun (IsMember Is) at []
    member_begins_none at = name_opens at [] tt

-- ---- items

abbrev closing : Tree → Reader Tree
closing t at bytes = Ok (t, (past_blanks at bytes).0, (past_blanks at bytes).1)

module _ (value : Reader Tree) (Is Deep : ℕ → List ℕ → Tree → Type 0)
    (sound : (at : ℕ) (bytes : List ℕ) (x : Tree × ℕ × List ℕ) → value at bytes ≡ Ok x → Took Is at bytes x.0 x.1 x.2)
    (none : (at : ℕ) → value at [] ≡ Err (Syntax at))
    (deepens : (at : ℕ) (bytes : List ℕ) (t : Tree) → Is at bytes t → Deep at bytes t)
    (begins : (at : ℕ) → Begun Is at [])
    (steady : (at : ℕ) (bytes : List ℕ) → Steady value (Begun Is at) (Begun Deep at) at bytes) where
  item_none : (at : ℕ) → item_at value at [] ≡ Err (Syntax at)
  unfolding item_at
  item_none at = rw (none at) refl

  begins_deep : (at : ℕ) → Begun Deep at []
  begins_deep at = let h = begins at in (h.0, h.1, deepens at ([] ++ h.0) h.1 h.2)

  closing_steady : (t : Tree) (Begin Deeper : List ℕ → Type 0) (at : ℕ) (bytes : List ℕ) → Steady (closing t) Begin Deeper at bytes
  closing_steady t Begin Deeper at bytes =
      steady_behind_blanks (λ place rest. Ok (t, place, rest)) Begin Deeper at bytes (λ ws rest b parts. steady_done (λ n l. Ok (t, n, l)) (Behind ws Begin) (Behind ws Deeper) (at + length ws) t rest (λ cs. refl))

  pub item_steady : (at : ℕ) (bytes : List ℕ) → Steady (item_at value) (Begun (IsItem Is) at) (Begun (IsItem Deep) at) at bytes
  unfolding item_at
  item_steady at bytes =
      steady_behind_blanks (in_turn value closing) (Begun (IsItem Is) at) (Begun (IsItem Deep) at) at bytes
      (λ ws rest b parts.
      let Begin = Behind ws (Begun (IsItem Is) at) in
      let Deeper = Behind ws (Begun (IsItem Deep) at) in
      let place = at + length ws in
      steady_in_turn value closing Begin Deeper place rest (steady_in value (Begun Is place) (Begun Deep place) Begin Deeper (item_begins Is at ws b) (item_begins Deep at ws b) place rest (steady place rest))
      (λ x e. let t = sound place rest x e in record { front = t.front; parts = t.parts; place = t.place; steady = closing_steady x.0 (Behind t.front Begin) (Behind t.front Deeper) x.1 x.2 }))

-- ---- names and members

-- a name behind its blanks, up to the colon, and the same behind its opening quote
abbrev colon_read : List ℕ → Reader (List ℕ)
colon_read name at bytes = spelled_at (58 ∷ []) name (past_blanks at bytes).0 (past_blanks at bytes).1

abbrev name_inside : Reader (List ℕ)
name_inside = in_turn text_read colon_read

abbrev name_read : Reader (List ℕ)
name_read at bytes = word_at (34 ∷ []) at bytes >>= λ quote. name_inside quote.0 quote.1

quote_if : (t : Bool) (at b : ℕ) (cs : List ℕ) → eqb b 34 ≡ t → name_read at (b ∷ cs) ≡ cond t (name_inside (at + 1) cs) (Err (Syntax at))
quote_if true at b cs e = rw e refl
quote_if false at b cs e = rw e refl

module _ (Is Deep : ℕ → List ℕ → Tree → Type 0) (begins : (at : ℕ) → Begun Is at []) (begins_deeper : (at : ℕ) → Begun Deep at []) where
  module _ (at : ℕ) (ws : List ℕ) (b : AreBlanks ws) where
    abbrev Named : List ℕ → Type 0
    Named = Behind ws (Begun (IsMember Is) at)

    abbrev NamedDeeper : List ℕ → Type 0
    NamedDeeper = Behind ws (Begun (IsMember Deep) at)

    colon_steady : (body name : List ℕ) → IsText body name → (place : ℕ) (rest : List ℕ)
        → Steady (colon_read name) (Behind (body ++ 34 ∷ []) (Behind (34 ∷ []) Named)) (Behind (body ++ 34 ∷ []) (Behind (34 ∷ []) NamedDeeper)) place rest
    colon_steady body name i place rest =
        let Begin = Behind (body ++ 34 ∷ []) (Behind (34 ∷ []) Named) in
        let Deeper = Behind (body ++ 34 ∷ []) (Behind (34 ∷ []) NamedDeeper) in
        steady_behind_blanks (spelled_at (58 ∷ []) name) Begin Deeper place rest
        (λ vs others c parts. word_steady (58 ∷ []) name (Behind vs Begin) (Behind vs Deeper) (place + length vs) others
        (λ front behind e.
        let quoted = 34 ∷ (body ++ 34 ∷ []) in
        name_begins Is begins at ws body vs name b i c (quoted ++ (vs ++ front)) behind (append_assoc quoted (vs ++ front) behind ∙ ap (λ (l : List ℕ). quoted ++ l) (append_assoc vs front behind ∙ ap (λ (l : List ℕ). vs ++ l) e))))

    name_inside_steady : (place : ℕ) (bytes : List ℕ) → Steady name_inside (Behind (34 ∷ []) Named) (Behind (34 ∷ []) NamedDeeper) place bytes
    name_inside_steady place bytes =
        let Begin = Behind (34 ∷ []) Named in
        let Deeper = Behind (34 ∷ []) NamedDeeper in
        steady_in_turn text_read colon_read Begin Deeper place bytes
        (steady_in text_read BeginsText Deeper Begin Deeper (text_begins Is begins at ws b) (λ w h. h) place bytes (text_steady Deeper place bytes))
        (λ x e.
        let t = text_took (length bytes) place bytes x e in
        record {
          front = t.body ++ 34 ∷ [];
          parts = t.parts ∙ sym (append_assoc t.body (34 ∷ []) x.2);
          place = omega (arith, t.place, length-append t.body (34 ∷ []));
          steady = colon_steady t.body x.0 t.is x.1 x.2;
        })

    name_read_steady : (place : ℕ) (bytes : List ℕ) → Steady name_read Named NamedDeeper place bytes
    name_read_steady place [] = steady_end name_read Named NamedDeeper place refl (name_opens Is begins at ws b)
    name_read_steady place (c ∷ cs) = by_quote (eqb c 34) refl
      where
        by_quote : (t : Bool) → eqb c 34 ≡ t → Steady name_read Named NamedDeeper place (c ∷ cs)
        by_quote true e = subst (λ (d : ℕ). Steady name_read Named NamedDeeper place (d ∷ cs)) (sym (eqb-true c 34 e))
            (steady_behind_byte name_read name_inside Named NamedDeeper place 34 (λ ds. refl) cs (name_inside_steady (place + 1) cs))
        by_quote false e = steady_refuses name_read Named NamedDeeper place c cs (Syntax place) (λ ds. quote_if false place c ds e) (name_opens Is begins at ws b) (inl (omega arith))

  name_steady : (at : ℕ) (bytes : List ℕ) → Steady name_at (Begun (IsMember Is) at) (Begun (IsMember Deep) at) at bytes
  unfolding name_at
  name_steady at bytes = steady_behind_blanks name_read (Begun (IsMember Is) at) (Begun (IsMember Deep) at) at bytes (λ ws rest b parts. name_read_steady at ws b (at + length ws) rest)

member_none : (value : Reader Tree) (at : ℕ) → member_at value at [] ≡ Err (Syntax at)
unfolding member_at name_at
member_none value at = refl

module _ (value : Reader Tree) (Is Deep : ℕ → List ℕ → Tree → Type 0)
    (sound : (at : ℕ) (bytes : List ℕ) (x : Tree × ℕ × List ℕ) → value at bytes ≡ Ok x → Took Is at bytes x.0 x.1 x.2)
    (none : (at : ℕ) → value at [] ≡ Err (Syntax at))
    (deepens : (at : ℕ) (bytes : List ℕ) (t : Tree) → Is at bytes t → Deep at bytes t)
    (begins : (at : ℕ) → Begun Is at [])
    (steady : (at : ℕ) (bytes : List ℕ) → Steady value (Begun Is at) (Begun Deep at) at bytes) where
  abbrev to_member : List ℕ → Tree → List ℕ × Tree
  to_member name t = (name, t)

  -- the value of a member, behind its name and the colon
  valued_steady : (at : ℕ) (ws quoted vs name : List ℕ) → AreBlanks ws → IsQuoted quoted name → AreBlanks vs → (place : ℕ) (rest : List ℕ) → place ≡ at + length ws + length quoted + length vs + 1
      → Steady (changed (to_member name) (item_at value)) (Behind (ws ++ (quoted ++ (vs ++ 58 ∷ []))) (Begun (IsMember Is) at)) (Behind (ws ++ (quoted ++ (vs ++ 58 ∷ []))) (Begun (IsMember Deep) at)) place rest
  valued_steady at ws quoted vs name b q c place rest p =
      let front = ws ++ (quoted ++ (vs ++ 58 ∷ [])) in
      let Begin = Behind front (Begun (IsMember Is) at) in
      let Deeper = Behind front (Begun (IsMember Deep) at) in
      let all : (w : List ℕ) → ws ++ (quoted ++ (vs ++ 58 ∷ w)) ≡ front ++ w = λ w. sym (append_assoc ws (quoted ++ (vs ++ 58 ∷ [])) w ∙ ap (λ (l : List ℕ). ws ++ l) (append_assoc quoted (vs ++ 58 ∷ []) w ∙ ap (λ (l : List ℕ). quoted ++ l) (append_assoc vs (58 ∷ []) w))) in
      steady_changed (to_member name) (item_at value) Begin Deeper place rest
      (steady_in (item_at value) (Begun (IsItem Is) place) (Begun (IsItem Deep) place) Begin Deeper
      (λ w h. subst (Begun (IsMember Is) at) (all w) (member_begins Is at ws quoted vs name b q c w (subst (λ (n : ℕ). Begun (IsItem Is) n w) p h)))
      (λ w h. subst (Begun (IsMember Deep) at) (all w) (member_begins Deep at ws quoted vs name b q c w (subst (λ (n : ℕ). Begun (IsItem Deep) n w) p h))) place rest
      (item_steady value Is Deep sound none deepens begins steady place rest))

  member_steady : (at : ℕ) (bytes : List ℕ) → Steady (member_at value) (Begun (IsMember Is) at) (Begun (IsMember Deep) at) at bytes
  unfolding member_at
  member_steady at bytes =
      steady_in_turn name_at (λ name. changed (to_member name) (item_at value)) (Begun (IsMember Is) at) (Begun (IsMember Deep) at) at bytes (name_steady Is Deep begins (begins_deep value Is Deep sound none deepens begins steady) at bytes)
      (λ x e.
      let n = name_took value Is sound at bytes x e in
      record {
        front = n.0 ++ (n.1 ++ (n.2 ++ 58 ∷ []));
        parts = n.6 ∙ sym (append_assoc n.0 (n.1 ++ (n.2 ++ 58 ∷ [])) x.2 ∙ ap (λ (l : List ℕ). n.0 ++ l) (append_assoc n.1 (n.2 ++ 58 ∷ []) x.2 ∙ ap (λ (l : List ℕ). n.1 ++ l) (append_assoc n.2 (58 ∷ []) x.2)));
        place = omega (arith, n.7, length-append n.0 (n.1 ++ (n.2 ++ 58 ∷ [])), length-append n.1 (n.2 ++ 58 ∷ []), length-append n.2 (58 ∷ []));
        steady = valued_steady at n.0 n.1 n.2 x.0 n.3 n.5 n.4 x.1 x.2 n.7;
      })

  -- what may stand in a list or an object is steady
  pub items_steady : (at : ℕ) (bytes : List ℕ) → Steady (list_at (item_at value) 93) (BeginsList (IsItem Is) 93 at) (BeginsList (IsItem Deep) 93 at) at bytes
  items_steady =
      list_steady (item_at value) 93 (IsItem Is) (IsItem Deep) (item_took value Is sound) (item_none value Is Deep sound none deepens begins steady) (item_more Is Deep deepens) (item_begins_none Is begins)
      (item_steady value Is Deep sound none deepens begins steady) (item_absorbs Is) (item_absorbs Deep)

  pub members_steady : (at : ℕ) (bytes : List ℕ) → Steady (list_at (member_at value) 125) (BeginsList (IsMember Is) 125 at) (BeginsList (IsMember Deep) 125 at) at bytes
  members_steady =
      list_steady (member_at value) 125 (IsMember Is) (IsMember Deep) (member_took value Is sound) (member_none value) (member_more Is Deep deepens) (member_begins_none Is begins)
      member_steady (member_absorbs Is) (member_absorbs Deep)

-- ---- kinds

module _ (Nested : Type 0) (Inner : ℕ → List ℕ → Tree → Type 0) where
  null_begins : (at : ℕ) → Begun (IsKind Nested Inner) at []
  null_begins at = (codes "null", Null, refl)

  pub quoted_begins : (at : ℕ) (w : List ℕ) → BeginsText w → Begun (IsKind Nested Inner) at (34 ∷ w)
  quoted_begins at w h = (h.0, Text_of h.2, record { body = h.1; spelled = h.3; bytes_are = ap (λ (l : List ℕ). 34 ∷ l) h.4 })

  number_begins : (at : ℕ) (w : List ℕ) → BeginsNumber w → Begun (IsKind Nested Inner) at w
  number_begins at w h = (h.0, number_kind (numeral_of_digits h.1), number_is Nested Inner at (w ++ h.0) (numeral_of_digits h.1) (h.1, h.2, numeral_is h.1))

  pub list_begins : Nested → (at : ℕ) (w : List ℕ) → BeginsList (IsItem Inner) 93 (at + 1) w → Begun (IsKind Nested Inner) at (91 ∷ w)
  list_begins n at w h = (h.0, List_of (trees h.2), (n, (h.1, ap (λ (l : List ℕ). 91 ∷ l) h.4, rw (trees_back h.2) h.3)))

  pub object_begins : Nested → (at : ℕ) (w : List ℕ) → BeginsList (IsMember Inner) 125 (at + 1) w → Begun (IsKind Nested Inner) at (123 ∷ w)
  object_begins n at w h = (h.0, Object_of (members h.2), (n, (h.1, ap (λ (l : List ℕ). 123 ∷ l) h.4, rw (members_back h.2) h.3)))

-- what is known of what may stand inside, spelled in one way and in one that has a level more
abbrev Insides : Option (Reader Tree) → Type 0 → Type 0 → (ℕ → List ℕ → Tree → Type 0) → (ℕ → List ℕ → Tree → Type 0) → Type 0
Insides None Nested Allowed Is Deep = Allowed
Insides (Some value) Nested Allowed Is Deep =
    Nested × Allowed
    × ((at : ℕ) (bytes : List ℕ) → Steady (list_at (item_at value) 93) (BeginsList (IsItem Is) 93 at) (BeginsList (IsItem Deep) 93 at) at bytes)
    × ((at : ℕ) (bytes : List ℕ) → Steady (list_at (member_at value) 125) (BeginsList (IsMember Is) 125 at) (BeginsList (IsMember Deep) 125 at) at bytes)

abbrev to_list : List Tree → Kind
to_list ts = List_of (trees ts)

abbrev to_object : List (List ℕ × Tree) → Kind
to_object ms = Object_of (members ms)

module _ (Nested Allowed : Type 0) (Is Deep : ℕ → List ℕ → Tree → Type 0) where
  module _ (at : ℕ) where
    abbrev Begin : List ℕ → Type 0
    Begin = Begun (IsKind Nested Is) at

    abbrev Deeper : List ℕ → Type 0
    Deeper = Begun (IsKind Allowed Deep) at

    quoted_steady : (bs : List ℕ) → Steady quoted_at (Behind (34 ∷ []) Begin) (Behind (34 ∷ []) Deeper) (at + 1) bs
    unfolding quoted_at
    quoted_steady bs =
        steady_changed Text_of text_read (Behind (34 ∷ []) Begin) (Behind (34 ∷ []) Deeper) (at + 1) bs
        (steady_in text_read BeginsText (Behind (34 ∷ []) Deeper) (Behind (34 ∷ []) Begin) (Behind (34 ∷ []) Deeper) (quoted_begins Nested Is at) (λ w h. h) (at + 1) bs (text_steady (Behind (34 ∷ []) Deeper) (at + 1) bs))

    scalar_steady : (b : ℕ) (bs : List ℕ) → Steady scalar_at Begin Deeper at (b ∷ bs)
    unfolding scalar_at
    scalar_steady b bs = by_quote (eqb b 34) refl
      where
        by_false : eqb b 34 ≡ false → eqb b 110 ≡ false → eqb b 116 ≡ false → (t : Bool) → eqb b 102 ≡ t → Steady scalar_at Begin Deeper at (b ∷ bs)
        by_false q n r true e = steady_as (spelled_at (codes "false") (Bool_of false)) scalar_at Begin Deeper at b (λ cs. rw (q, n, r, e) refl) bs (word_steady (codes "false") (Bool_of false) Begin Deeper at (b ∷ bs) (λ front rest h. (rest, Bool_of false, h)))
        by_false q n r false e = steady_as number_at scalar_at Begin Deeper at b (λ cs. rw (q, n, r, e) refl) bs (steady_in number_at BeginsNumber Deeper Begin Deeper (number_begins Nested Is at) (λ w h. h) at (b ∷ bs) (number_steady Deeper at (b ∷ bs)))

        by_true : eqb b 34 ≡ false → eqb b 110 ≡ false → (t : Bool) → eqb b 116 ≡ t → Steady scalar_at Begin Deeper at (b ∷ bs)
        by_true q n true e = steady_as (spelled_at (codes "true") (Bool_of true)) scalar_at Begin Deeper at b (λ cs. rw (q, n, e) refl) bs (word_steady (codes "true") (Bool_of true) Begin Deeper at (b ∷ bs) (λ front rest h. (rest, Bool_of true, h)))
        by_true q n false e = by_false q n e (eqb b 102) refl

        by_null : eqb b 34 ≡ false → (t : Bool) → eqb b 110 ≡ t → Steady scalar_at Begin Deeper at (b ∷ bs)
        by_null q true e = steady_as (spelled_at (codes "null") Null) scalar_at Begin Deeper at b (λ cs. rw (q, e) refl) bs (word_steady (codes "null") Null Begin Deeper at (b ∷ bs) (λ front rest h. (rest, Null, h)))
        by_null q false e = by_true q e (eqb b 116) refl

        by_quote : (t : Bool) → eqb b 34 ≡ t → Steady scalar_at Begin Deeper at (b ∷ bs)
        by_quote true e = subst (λ (c : ℕ). Steady scalar_at Begin Deeper at (c ∷ bs)) (sym (eqb-true b 34 e)) (steady_behind_byte scalar_at quoted_at Begin Deeper at 34 (λ cs. refl) bs (quoted_steady bs))
        by_quote false e = by_null e (eqb b 110) refl

    list_kind_steady : (inner : Option (Reader Tree)) → Insides inner Nested Allowed Is Deep → (bs : List ℕ) → Steady (kind_read inner) Begin Deeper at (91 ∷ bs)
    unfolding items_at
    list_kind_steady None s bs =
        steady_refuses (kind_read None) Begin Deeper at 91 bs (Depth at) (λ cs. refl) (null_begins Nested Is at)
        (omega arith, record { inside = omega arith; bracket = inl refl; deeper = list_begins Allowed Deep s at [] (begins_none (IsItem Deep) 93 (at + 1) [] tt) })
    list_kind_steady (Some value) s bs =
        steady_behind_byte (kind_read (Some value)) (changed to_list (list_at (item_at value) 93)) Begin Deeper at 91 (λ cs. refl) bs
        (steady_changed to_list (list_at (item_at value) 93) (Behind (91 ∷ []) Begin) (Behind (91 ∷ []) Deeper) (at + 1) bs
        (steady_in (list_at (item_at value) 93) (BeginsList (IsItem Is) 93 (at + 1)) (BeginsList (IsItem Deep) 93 (at + 1)) (Behind (91 ∷ []) Begin) (Behind (91 ∷ []) Deeper) (list_begins Nested Is s.0 at) (list_begins Allowed Deep s.1 at) (at + 1) bs (s.2 (at + 1) bs)))

    object_kind_steady : (inner : Option (Reader Tree)) → Insides inner Nested Allowed Is Deep → (bs : List ℕ) → Steady (kind_read inner) Begin Deeper at (123 ∷ bs)
    unfolding members_at
    object_kind_steady None s bs =
        steady_refuses (kind_read None) Begin Deeper at 123 bs (Depth at) (λ cs. refl) (null_begins Nested Is at)
        (omega arith, record { inside = omega arith; bracket = inr refl; deeper = object_begins Allowed Deep s at [] (begins_none (IsMember Deep) 125 (at + 1) [] tt) })
    object_kind_steady (Some value) s bs =
        steady_behind_byte (kind_read (Some value)) (changed to_object (list_at (member_at value) 125)) Begin Deeper at 123 (λ cs. refl) bs
        (steady_changed to_object (list_at (member_at value) 125) (Behind (123 ∷ []) Begin) (Behind (123 ∷ []) Deeper) (at + 1) bs
        (steady_in (list_at (member_at value) 125) (BeginsList (IsMember Is) 125 (at + 1)) (BeginsList (IsMember Deep) 125 (at + 1)) (Behind (123 ∷ []) Begin) (Behind (123 ∷ []) Deeper) (object_begins Nested Is s.0 at) (object_begins Allowed Deep s.1 at) (at + 1) bs (s.3 (at + 1) bs)))

    kind_steady : (inner : Option (Reader Tree)) → Insides inner Nested Allowed Is Deep → (b : ℕ) (bs : List ℕ) → Steady (kind_read inner) Begin Deeper at (b ∷ bs)
    kind_steady inner s b bs = by_left (eqb b 91) refl
      where
        by_right : eqb b 91 ≡ false → (t : Bool) → eqb b 123 ≡ t → Steady (kind_read inner) Begin Deeper at (b ∷ bs)
        by_right l true e = subst (λ (c : ℕ). Steady (kind_read inner) Begin Deeper at (c ∷ bs)) (sym (eqb-true b 123 e)) (object_kind_steady inner s bs)
        by_right l false e = steady_as scalar_at (kind_read inner) Begin Deeper at b (λ cs. rw (l, e) refl) bs (scalar_steady b bs)

        by_left : (t : Bool) → eqb b 91 ≡ t → Steady (kind_read inner) Begin Deeper at (b ∷ bs)
        by_left true e = subst (λ (c : ℕ). Steady (kind_read inner) Begin Deeper at (c ∷ bs)) (sym (eqb-true b 91 e)) (list_kind_steady inner s bs)
        by_left false e = by_right e (eqb b 123) refl

  -- ---- trees

  tree_begins : (at : ℕ) (w : List ℕ) → Begun (IsKind Nested Is) at w → Begun (IsTree Nested Is) at w
  tree_begins at w h = (h.0, At at h.1, (refl, h.2))

tree_none : (inner : Option (Reader Tree)) (at : ℕ) → tree_read inner at [] ≡ Err (Syntax at)
unfolding scalar_at
tree_none inner at = rw (number_none at) refl

module _ (Nested Allowed : Type 0) (Is Deep : ℕ → List ℕ → Tree → Type 0) (inner : Option (Reader Tree)) (s : Insides inner Nested Allowed Is Deep) where
  tree_steady : (at : ℕ) (bytes : List ℕ) → Steady (tree_read inner) (Begun (IsTree Nested Is) at) (Begun (IsTree Allowed Deep) at) at bytes
  tree_steady at [] = steady_end (tree_read inner) (Begun (IsTree Nested Is) at) (Begun (IsTree Allowed Deep) at) at (tree_none inner at) (tree_begins Nested Allowed Is Deep at [] (null_begins Nested Is at))
  tree_steady at (b ∷ bs) =
      let Begin = Begun (IsTree Nested Is) at in
      let Deeper = Begun (IsTree Allowed Deep) at in
      steady_as (changed (At at) (kind_read inner)) (tree_read inner) Begin Deeper at b (λ cs. refl) bs
      (steady_changed (At at) (kind_read inner) Begin Deeper at (b ∷ bs)
      (steady_in (kind_read inner) (Begun (IsKind Nested Is) at) (Begun (IsKind Allowed Deep) at) Begin Deeper (tree_begins Nested Allowed Is Deep at) (tree_begins Allowed Allowed Deep Deep at) at (b ∷ bs) (kind_steady Nested Allowed Is Deep at inner s b bs)))

pub value_begins : (levels at : ℕ) → Begun (SpellsAt levels) at []
unfolding SpellsAt
value_begins zero at = (codes "null", At at Null, (refl, refl))
value_begins (suc levels) at = (codes "null", At at Null, (refl, refl))

pub value_none : (levels at : ℕ) → value_at levels at [] ≡ Err (Syntax at)
unfolding value_at
value_none levels at = tree_none (inner_at levels) at

pub value_steady : (levels at : ℕ) (bytes : List ℕ) → Steady (value_at levels) (Begun (SpellsAt levels) at) (Begun (SpellsAt (suc levels)) at) at bytes
unfolding value_at inner_at SpellsAt
value_steady zero at bytes = tree_steady ⊥ (Unit {0}) (λ _ _ _. ⊥) (SpellsAt zero) None tt at bytes
value_steady (suc levels) at bytes =
    let value = value_at levels in
    let Is = SpellsAt levels in
    let Deep = SpellsAt (suc levels) in
    let items = items_steady value Is Deep (value_took levels) (value_none levels) (spells_more levels) (value_begins levels) (value_steady levels) in
    let named = members_steady value Is Deep (value_took levels) (value_none levels) (spells_more levels) (value_begins levels) (value_steady levels) in
    tree_steady (Unit {0}) (Unit {0}) Is Deep (Some value) (tt, tt, items, named) at bytes
