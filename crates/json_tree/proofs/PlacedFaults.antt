-- A fault of a whole text stands where the text stops being lawful, and bytes without one are read.
use Rattle.std.proofs.Common.{◌≡◌, ℕ, zero, suc, ◌+◌, ◌<◌, ◌≤◌, ltb, List, [], ◌∷◌, ◌++◌, length, take, drop, Result, Ok, Err, IfErr, refl, sym, ap, subst, ◌∙◌, inl, inr, append_assoc, length-append, arith}
use Rattle.std.proofs.Math.Nat.{lt_of_not-le}
use Rattle.std.proofs.Math.Seq.{take-append-add}
use Rattle.std.proofs.lemmas.Bool.{ltb-true, ltb-false, le-ltb, ne_eqb}
use Rattle.std.proofs.lemmas.List.{append-nil, take_at, take-append-drop, take-append-le, length-take, length-take-le}
use Rattle.json_tokens.specs.declared.fault.JsonFault.{JsonFault}
use Rattle.json_tokens.specs.declared.fault.JsonFault.TheVariants.{Syntax, Depth, NotUtf8, TooLarge, Memory}
use Rattle.json_tree.specs.declared.tree.Json.{Json}
use Rattle.json_tokens.specs.Reading.{◌>>=◌, Read, Gives}
use Rattle.json_tree.specs.ReadingValues.{item_at, value_at, ended, document_at}
use Rattle.json_tree.specs.Tree.{Tree}
use Rattle.json_tree.specs.View.{tree_of}
use Rattle.json_tree.specs.Grammar.{SpellsAt, Spells}
use Rattle.json_tokens.specs.Faults.{IsLawful, StopsAt, IsLoneHalf, IsBadSequence, IsTooDeep}
use Rattle.json_tree.specs.Faults.{Begins, IsPlain, IsPlaced}
use Rattle.json_tokens.proofs.Stuck.{IsToldAt, Stuck}
use Rattle.json_tree.proofs.Steady.{Steady, no_fault, fault_is, bind_err}
use Rattle.json_tree.proofs.ValueFaults.{spells_more, value_begins, value_none, value_steady, item_steady}
use Rattle.json_tokens.proofs.Tools.{Took, ok_is, chosen}
use Rattle.json_tree.proofs.ValueLaws.{value_took, item_took}
use Rattle.json_tree.proofs.AgainLaws.{value_again, spells_begins, item_again}
use Rattle.json_tree.proofs.LevelFaults.{IsCut, item_cut}
use Rattle.json_tree.proofs.OneStop.{stops_behind, lawful_fewer}
use Rattle.json_tree.proofs.QuotedValues.{bad_sequence_read, lone_half_read, unfinished_read}

-- ---- whole texts with so many levels

module _ (levels : ℕ) where
  whole_steady : (bytes : List ℕ) → Steady (item_at (value_at levels)) (Begins levels) (Begins (suc levels)) 0 bytes
  unfolding Spells
  whole_steady bytes = item_steady (value_at levels) (SpellsAt levels) (SpellsAt (suc levels)) (value_took levels) (value_none levels) (spells_more levels) (value_begins levels) (value_steady levels) 0 bytes

  whole_took : (bytes : List ℕ) (x : Tree × ℕ × List ℕ) → item_at (value_at levels) 0 bytes ≡ Ok x → Took (λ at text t. Spells levels text t) 0 bytes x.0 x.1 x.2
  unfolding Spells
  whole_took bytes x e = let t = item_took (value_at levels) (SpellsAt levels) (value_took levels) 0 bytes x e in record { front = t.front; parts = t.parts; place = t.place; is = t.is }

  -- what is spelled so is read, however long it is
  whole_again : (bytes : List ℕ) (t : Tree) → Spells levels bytes t → item_at (value_at levels) 0 bytes ≡ Ok (t, length bytes, [])
  unfolding Spells
  whole_again bytes t h =
      let i = item_again (value_at levels) (SpellsAt levels) (value_again levels) (spells_begins levels) 0 bytes t [] h tt in
      let n : 0 + length bytes ≡ length bytes = omega arith in
      ap (item_at (value_at levels) 0) (sym (append-nil bytes)) ∙ i ∙ ap (λ (k : ℕ). Ok (t, k, [])) n

-- ---- however many bytes there are

abbrev pub reading : List ℕ → Result Tree JsonFault
reading bytes = item_at (value_at 64) 0 bytes >>= ended

abbrev WholeStuck : List ℕ → JsonFault → Type 0
WholeStuck bytes e = Stuck (item_at (value_at 64)) (Begins 64) (Begins 65) 0 bytes e

pub fits_read : (bytes : List ℕ) → length bytes ≤ 33554432 → document_at bytes ≡ reading bytes
unfolding document_at
fits_read bytes le = rw (le-ltb 33554432 (length bytes) le) refl

pub spelled_read : (bytes : List ℕ) (t : Tree) → Spells 64 bytes t → reading bytes ≡ Ok t
spelled_read bytes t h = ap (λ (r : Read Tree). r >>= ended) (whole_again 64 bytes t h)

more_left : (t : Tree) (after b : ℕ) (rest : List ℕ) → ended (t, after, b ∷ rest) ≡ Err (Syntax after)
more_left t after b rest = rw (ne_eqb (suc (length rest)) 0 (λ q. omega (arith, q))) refl

-- ---- faults that differ

syntax_is : (p q : ℕ) → Syntax p ≡ Syntax q → p ≡ q
syntax_is p q h = cc

no_syntax : (p q : ℕ) → Syntax p ≡ NotUtf8 q → ⊥
no_syntax p q h = cc

no_depth : (p q : ℕ) → Syntax p ≡ Depth q → ⊥
no_depth p q h = cc

-- ---- where a half stands

dropped_two : (n : ℕ) (bytes : List ℕ) (a b : ℕ) (cs : List ℕ) → drop n bytes ≡ a ∷ b ∷ cs → n + 2 ≤ length bytes
dropped_two zero bytes a b cs e = omega (arith, ap length e)
dropped_two (suc n) [] a b cs e = absurd cc
dropped_two (suc n) (c ∷ bytes) a b cs e = let l = dropped_two n bytes a b cs e in omega (arith, l)

-- an escape begins before the byte that shows it to be alone
half_start : (bytes : List ℕ) (start stop : ℕ) → IsLoneHalf (Begins 64) bytes start stop → start < stop
half_start bytes start stop h =
    let l = dropped_two start (take (stop + 1) bytes) 92 117 (h.digits ++ h.behind) h.escape in
    omega (arith, l, length-take (stop + 1) bytes)

told_within : (bytes : List ℕ) (stop place : ℕ) → stop < place → IsToldAt (Begins 64) (Begins 65) 0 bytes stop (Syntax place) → ⊥
told_within bytes stop place lt (inl q) = omega (arith, lt, q)
told_within bytes stop place lt (inr q) = let s = half_start bytes q.0 stop q.2 in omega (arith, lt, q.1, s)

-- ---- a reader that is stuck

stuck_more : (bytes : List ℕ) (e : JsonFault) (s : WholeStuck bytes e) → s.stop < length bytes → IsLawful (Begins 64) (take (s.stop + 1) bytes) → ⊥
stuck_more bytes e s lt (inl h) = no_fault (h.1, length (take (s.stop + 1) bytes ++ h.0), []) e (sym (whole_again 64 (take (s.stop + 1) bytes ++ h.0) h.1 h.2) ∙ s.alike lt h.0)
stuck_more bytes e s lt (inr u) =
    let front = take (s.stop + 1) bytes in
    let fails : item_at (value_at 64) 0 front ≡ Err e = ap (item_at (value_at 64) 0) (sym (append-nil front)) ∙ s.alike lt [] in
    let same : Syntax (length front) ≡ e = fault_is {X = Tree} (Syntax (length front)) e (sym (unfinished_read front u) ∙ ap (λ (r : Read Tree). r >>= ended) fails) in
    let long : length front ≡ s.stop + 1 = length-take-le (s.stop + 1) bytes (omega (arith, lt)) in
    told_within bytes s.stop (length front) (omega (arith, long)) (subst (IsToldAt (Begins 64) (Begins 65) 0 bytes s.stop) (sym same) s.told)

stuck_stops : (bytes : List ℕ) (e : JsonFault) (s : WholeStuck bytes e) → StopsAt (Begins 64) bytes s.stop
stuck_stops bytes e s = record { within = s.within; lawful = s.lawful; no_more = stuck_more bytes e s }

-- ---- bytes behind the value

none_left : (x y : Tree × ℕ × List ℕ) → x ≡ y → x.2 ≡ [] → (c : ℕ) (cs : List ℕ) → y.2 ≡ c ∷ cs → ⊥
none_left x y p empty c cs is = no_list c cs (sym empty ∙ ap (λ (z : Tree × ℕ × List ℕ). z.2) p ∙ is)
  where
    no_list : (c : ℕ) (cs : List ℕ) → ◌≡◌ {A = List ℕ} [] (c ∷ cs) → ⊥
    no_list c cs h = cc

-- with the byte behind the value, and any others
left_more : (front : List ℕ) (t : Tree) (after b : ℕ) → after ≡ length front → ((more : List ℕ) → item_at (value_at 64) 0 (front ++ b ∷ more) ≡ Ok (t, after, b ∷ more)) → IsLawful (Begins 64) (front ++ b ∷ []) → ⊥
left_more front t after b place same (inl h) =
    let text = front ++ b ∷ h.0 in
    let spelled : Spells 64 text h.1 = subst (λ (l : List ℕ). Spells 64 l h.1) (append_assoc front (b ∷ []) h.0) h.2 in
    none_left (h.1, length text, []) (t, after, b ∷ h.0) (ok_is (h.1, length text, []) (t, after, b ∷ h.0) (sym (whole_again 64 text h.1 spelled) ∙ same h.0)) refl b h.0 refl
left_more front t after b place same (inr u) =
    let text = front ++ b ∷ [] in
    let fails : reading text ≡ Err (Syntax after) = ap (λ (r : Read Tree). r >>= ended) (same []) ∙ more_left t after b [] in
    let n : after ≡ length text = syntax_is after (length text) (fault_is {X = Tree} (Syntax after) (Syntax (length text)) (sym fails ∙ unfinished_read text u)) in
    omega (arith, n, place, length-append front (b ∷ []))

-- the value and the blanks behind it were read, and another byte stands there
left_stops : (bytes : List ℕ) (t : Tree) (after b : ℕ) (rest : List ℕ) → item_at (value_at 64) 0 bytes ≡ Ok (t, after, b ∷ rest) → StopsAt (Begins 64) bytes after
left_stops bytes t after b rest e =
    let w = whole_took 64 bytes (t, after, b ∷ rest) e in
    let a = (whole_steady 64 bytes).alike t after b rest e in
    let all : length bytes ≡ length w.front + length (b ∷ rest) = ap length w.parts ∙ length-append w.front (b ∷ rest) in
    let front : take after bytes ≡ w.front = ap (take after) w.parts ∙ take_at w.front (b ∷ rest) after (omega (arith, w.place)) in
    let place : after + 1 ≡ length a.front + 1 = omega (arith, a.place) in
    let more : take (after + 1) bytes ≡ a.front ++ b ∷ [] = ap (λ (l : List ℕ). take (after + 1) l) a.parts ∙ ap (λ (k : ℕ). take k (a.front ++ b ∷ rest)) place ∙ take-append-add a.front (b ∷ rest) 1 in
    record {
      within = omega (arith, w.place, all);
      lawful = inl (subst (Begins 64) (sym front) ([], t, subst (λ (l : List ℕ). Spells 64 l t) (sym (append-nil w.front)) w.is));
      no_more = λ lt h. left_more a.front t after b (omega (arith, a.place)) a.same (subst (IsLawful (Begins 64)) more h);
    }

-- ---- a bracket that is too deep

-- what the texts with a level more say of those with fewer
deep_stuck : (bytes rest : List ℕ) (stop p : ℕ) → StopsAt (Begins 64) bytes stop → stop < length bytes → WholeStuck (take (stop + 1) bytes ++ rest) (Depth p) → item_at (value_at 64) 0 bytes ≡ Err (Depth stop)
deep_stuck bytes rest stop p s lt k =
    let front = take (stop + 1) bytes in
    let text = front ++ rest in
    let r = stuck_stops text (Depth p) k in
    let long : length front ≡ stop + 1 = length-take-le (stop + 1) bytes (omega (arith, lt)) in
    let all : length text ≡ stop + 1 + length rest = omega (arith, long, length-append front rest) in
    let again : take (stop + 1) text ≡ front = take_at front rest (stop + 1) long in
    let parts : front ++ drop (stop + 1) bytes ≡ bytes = take-append-drop (stop + 1) bytes in
    let before : take stop bytes ≡ take stop text = ap (take stop) (sym parts) ∙ take-append-le stop front (drop (stop + 1) bytes) (omega (arith, long)) ∙ sym (take-append-le stop front rest (omega (arith, long))) in
    let least : stop ≤ k.stop = stops_behind text k.stop stop r (omega (arith, all)) (subst (IsLawful (Begins 64)) before s.lawful) in
    let below : k.stop < stop + 1 = lt_of_not-le (λ l. s.no_more lt (subst (IsLawful (Begins 64)) again (lawful_fewer (stop + 1) k.stop text l k.lawful))) in
    let same : k.stop + 1 ≡ stop + 1 = omega (arith, least, below) in
    let place : p ≡ stop = omega (arith, least, below, k.told.0) in
    let shown : take (k.stop + 1) text ++ drop (stop + 1) bytes ≡ bytes = ap (λ (n : ℕ). take n text ++ drop (stop + 1) bytes) same ∙ ap (λ (l : List ℕ). l ++ drop (stop + 1) bytes) again ∙ parts in
    ap (item_at (value_at 64) 0) (sym shown) ∙ k.alike (omega (arith, all, least, below)) (drop (stop + 1) bytes) ∙ ap (λ (n : ℕ). Err (Depth n)) place

pub too_deep_read : (bytes : List ℕ) (stop : ℕ) → StopsAt (Begins 64) bytes stop → IsTooDeep (Begins 65) bytes stop → reading bytes ≡ Err (Depth stop)
too_deep_read bytes stop s d = ap (λ (r : Read Tree). r >>= ended) (by_cut (item_cut 64 0 text (t, length text, []) (whole_again 65 text t d.deeper.2)))
  where
    rest : List ℕ
    rest = d.deeper.0

    t : Tree
    t = d.deeper.1

    text : List ℕ
    text = take (stop + 1) bytes ++ rest

    by_cut : IsCut (item_at (value_at 64) 0 text) (t, length text, []) → item_at (value_at 64) 0 bytes ≡ Err (Depth stop)
    by_cut (inl h) =
        let w = whole_took 64 text (t, length text, []) h in
        absurd (s.no_more d.inside (inl (rest, t, subst (λ (l : List ℕ). Spells 64 l t) (sym (w.parts ∙ append-nil w.front)) w.is)))
    by_cut (inr h) = deep_stuck bytes rest stop h.0 s d.inside ((whole_steady 64 text).stuck (Depth h.0) h.1)

-- ---- faults of a document

plain_at : (bytes : List ℕ) (at : ℕ) → StopsAt (Begins 64) bytes at → reading bytes ≡ Err (Syntax at) → IsPlain bytes at
plain_at bytes at s h = record {
  no_half = λ start i. let n = syntax_is at start (differ (Syntax start) (lone_half_read bytes start at i)) in let lt = half_start bytes start at i in omega (arith, n, lt);
  no_sequence = λ start i. no_syntax at start (differ (NotUtf8 start) (bad_sequence_read bytes start at i));
  not_deep = λ i. no_depth at at (differ (Depth at) (too_deep_read bytes at s i));
  no_text = λ t i. no_fault t (Syntax at) (sym (spelled_read bytes t i) ∙ h);
}
  where
    differ : (e : JsonFault) → reading bytes ≡ Err e → Syntax at ≡ e
    differ e i = fault_is {X = Tree} (Syntax at) e (sym h ∙ i)

placed_stuck : (bytes : List ℕ) (e : JsonFault) → length bytes ≤ 33554432 → reading bytes ≡ Err e → WholeStuck bytes e → IsPlaced bytes e
placed_stuck bytes e le h s = by_fault e s.stop h (stuck_stops bytes e s) s.told
  where
    by_fault : (d : JsonFault) (stop : ℕ) → reading bytes ≡ Err d → StopsAt (Begins 64) bytes stop → IsToldAt (Begins 64) (Begins 65) 0 bytes stop d → IsPlaced bytes d
    by_fault (Syntax p) stop g i (inl q) = let n : stop ≡ p = omega (arith, q) in let j = subst (StopsAt (Begins 64) bytes) n i in (le, inl (j, plain_at bytes p j g))
    by_fault (Syntax p) stop g i (inr q) = let n : q.0 ≡ p = omega (arith, q.1) in (le, inr (stop, i, subst (λ (k : ℕ). IsLoneHalf (Begins 64) bytes k stop) n q.2))
    by_fault (NotUtf8 p) stop g i q = let n : q.0 ≡ p = omega (arith, q.1) in (le, (stop, i, subst (λ (k : ℕ). IsBadSequence (Begins 64) bytes k stop) n q.2))
    by_fault (Depth p) stop g i q = let n : stop ≡ p = omega (arith, q.0) in (le, subst (StopsAt (Begins 64) bytes) n i, subst (IsTooDeep (Begins 65) bytes) n q.1)
    by_fault TooLarge stop g i q = absurd q
    by_fault Memory stop g i q = tt

placed_left : (bytes : List ℕ) (t : Tree) (after : ℕ) (rest : List ℕ) (e : JsonFault) → length bytes ≤ 33554432 → item_at (value_at 64) 0 bytes ≡ Ok (t, after, rest) → ended (t, after, rest) ≡ Err e → IsPlaced bytes e
placed_left bytes t after [] e le h k = absurd (no_fault t e k)
placed_left bytes t after (b ∷ rest) e le h k =
    let s = left_stops bytes t after b rest h in
    let read : reading bytes ≡ Err (Syntax after) = ap (λ (r : Read Tree). r >>= ended) h ∙ more_left t after b rest in
    subst (IsPlaced bytes) (fault_is {X = Tree} (Syntax after) e (sym (more_left t after b rest) ∙ k)) (le, inl (s, plain_at bytes after s read))

pub reading_placed : (bytes : List ℕ) (e : JsonFault) → length bytes ≤ 33554432 → reading bytes ≡ Err e → IsPlaced bytes e
reading_placed bytes e le h =
    elim (bind_err (item_at (value_at 64) 0 bytes) ended e h) [
      | inl q ↦ placed_stuck bytes e le h ((whole_steady 64 bytes).stuck e q)
      | inr q ↦ placed_left bytes q.0.0 q.0.1 q.0.2 e le q.1 q.2
    ]

pub never_memory : (bytes : List ℕ) → reading bytes ≡ Err Memory → ⊥
never_memory bytes h =
    elim (bind_err (item_at (value_at 64) 0 bytes) ended Memory h) [
      | inl q ↦ ((whole_steady 64 bytes).stuck Memory q).told
      | inr q ↦ not_left q.0.0 q.0.1 q.0.2 q.2
    ]
  where
    no_memory : (p : ℕ) → Syntax p ≡ Memory → ⊥
    no_memory p e = cc

    not_left : (t : Tree) (after : ℕ) (rest : List ℕ) → ended (t, after, rest) ≡ Err Memory → ⊥
    not_left t after [] k = no_fault t Memory k
    not_left t after (b ∷ rest) k = no_memory after (fault_is {X = Tree} (Syntax after) Memory (sym (more_left t after b rest) ∙ k))

pub document_placed : (bytes : List ℕ) (e : JsonFault) → document_at bytes ≡ Err e → IsPlaced bytes e
unfolding document_at
document_placed bytes e h =
    elim (chosen (ltb 33554432 (length bytes)) _ _ _ h) [
      | inl p ↦ subst (IsPlaced bytes) (fault_is {X = Tree} TooLarge e p.1) (ltb-true 33554432 (length bytes) p.0)
      | inr p ↦ reading_placed bytes e (ltb-false 33554432 (length bytes) p.0) p.1
    ]

pub fault_placed : (bytes : List ℕ) (r : Result Json JsonFault) → Gives tree_of r (document_at bytes) → IfErr r (λ fault. IsPlaced bytes fault)
fault_placed bytes (Ok j) g = tt
fault_placed bytes (Err (Syntax at)) g = document_placed bytes (Syntax at) g
fault_placed bytes (Err (NotUtf8 at)) g = document_placed bytes (NotUtf8 at) g
fault_placed bytes (Err (Depth at)) g = document_placed bytes (Depth at) g
fault_placed bytes (Err TooLarge) g = document_placed bytes TooLarge g
fault_placed bytes (Err Memory) g = tt
