-- The part that a question is about.
use Rattle.std.proofs.Common.{◌≡◌, ℕ, zero, suc, ◌+◌, ◌<◌, List, [], ◌∷◌, Option, Some, None, Result, Ok, Err, length}
use Rattle.std.proofs.Common.{slice_get, slice_index_or, refl, sym, ap, ◌∙◌, subst, arith}
use Rattle.out_of_memory.specs.Answers.{Tells}
use Rattle.out_of_memory.specs.declared.fault.Fault.{Fault}
use Rattle.room_core.specs.Parts.{AreGood, numbers}
use Rattle.cut_mirror.specs.Walks.{IsSeen, seen_by}
use Rattle.cut_mirror.proofs.Named.{get-index}

good_at : {P : Type 0} (good : ℕ → P → Type 0) (from count : ℕ) (ps : List P) (n : ℕ) (d : P) → AreGood good (numbers from count) ps → n < count
    → (n < length ps) × good (from + n) (slice_index_or ps n d)
good_at good from zero ps n d h less = absurd (omega (arith, less))
good_at good from (suc count) [] n d h less = absurd h
good_at good from (suc count) (p ∷ ps) zero d h less =
    let same : from ≡ from + 0 = omega arith in
    (omega arith, subst (λ (k : ℕ). good k p) same h.0)
good_at good from (suc count) (p ∷ ps) (suc n) d h less =
    let rest = good_at good (from + 1) count ps n d h.1 (omega (arith, less)) in
    let same : from + 1 + n ≡ from + suc n = omega arith in
    (omega (arith, rest.0), subst (λ (k : ℕ). good k (slice_index_or ps n d)) same rest.1)

pub part_below : {P : Type 0} (good : ℕ → P → Type 0) (from count : ℕ) (ps : List P) (n : ℕ) → AreGood good (numbers from count) ps → n < count → n < length ps
part_below good from zero ps n h less = absurd (omega (arith, less))
part_below good from (suc count) [] n h less = absurd h
part_below good from (suc count) (p ∷ ps) zero h less = omega arith
part_below good from (suc count) (p ∷ ps) (suc n) h less = omega (arith, part_below good (from + 1) count ps n h.1 (omega (arith, less)))

pub part_there : {P : Type 0} (good : ℕ → P → Type 0) (count : ℕ) (ps : List P) (n : ℕ) (d : P) → AreGood good (numbers 0 count) ps → n < count
    → (n < length ps) × good n (slice_index_or ps n d)
part_there good count ps n d h less =
    let found = good_at good 0 count ps n d h less in
    let same : 0 + n ≡ n = omega arith in
    (found.0, subst (λ (k : ℕ). good k (slice_index_or ps n d)) same found.1)

pub seen_there_is : {P Q X Y : Type 0} (asked : Result ℕ Y) (seen : P → Q → Result X Y) (ps : List P) (q : Q) (n : ℕ) (p : P) (result : Result X (Fault Y))
    → asked ≡ Ok n → n < length ps → p ≡ slice_index_or ps n p → Tells (seen p q) result → IsSeen (seen_by asked seen ps q) result
seen_there_is asked seen ps q n p result is less at tells =
    let found : slice_get ps n ≡ Some p = get-index ps n p less ∙ ap Some (sym at) in
    rw (is, found) tells
