-- The passes of a new journal but the last one, whose station adds no entry.
use Rattle.std.proofs.Common.{◌≡◌, ℕ, zero, suc, ◌+◌, ◌-◌, ◌<◌, ◌≤◌, ◌==◌, List, [], ◌∷◌, ◌++◌, length, Bool, true, false, cond, Option, Some, All, get_or, map, refl, sym, ap, ◌∙◌, arith, subst}
use Rattle.std.proofs.lemmas.Bool.Decides.{nat_tests}
use Rattle.std.proofs.lemmas.List.{length-append, map-append}
use Rattle.std.proofs.lemmas.List.Elements.{All-cons, All-head, All-nil, All-tail}
use Rattle.room_core.specs.declared.entry.Entry.{Entry}
use Rattle.room_core.specs.Parts.{numbers}
use Rattle.room_core.specs.Projection.{of_station}
use Rattle.edit_journal.specs.Seats.{Opening}
use Rattle.edit_journal.specs.Turns.{AreFresh, Known}
use Rattle.edit_journal.proofs.Fresh.{numbers-snoc}

all_but_last : {A : Type 0} (P : A → Type 0) (xs : List A) (x : A) → All P (xs ++ x ∷ []) → All P xs
all_but_last P [] x h = All-nil P
all_but_last P (y ∷ ys) x h = All-cons P y ys (All-head P y (ys ++ x ∷ []) h) (all_but_last P ys x (All-tail P y (ys ++ x ∷ []) h))

all_last : {A : Type 0} (P : A → Type 0) (xs : List A) (x : A) → All P (xs ++ x ∷ []) → P x
all_last P [] x h = All-head P x [] h
all_last P (y ∷ ys) x h = all_last P ys x (All-tail P y (ys ++ x ∷ []) h)

-- two lists with a last element are the same where they and it are
same_ends : (xs ys : List ℕ) (x y : ℕ) → xs ++ x ∷ [] ≡ ys ++ y ∷ [] → (xs ≡ ys) × (x ≡ y)
same_ends [] [] x y e = (refl, Prim.grind (arith, e))
same_ends [] (b ∷ ys) x y e = let n = ap length e in absurd (omega (arith, n, length-append ys (y ∷ [])))
same_ends (a ∷ xs) [] x y e = let n = ap length e in absurd (omega (arith, n, length-append xs (x ∷ [])))
same_ends (a ∷ xs) (b ∷ ys) x y e =
    let first : a ≡ b = Prim.grind (arith, e) in
    let then_so : xs ++ x ∷ [] ≡ ys ++ y ∷ [] = Prim.grind (arith, e) in
    let rest = same_ends xs ys x y then_so in
    ((λ i. first i ∷ rest.0 i), rest.1)

pub length-numbers : (from n : ℕ) → length (numbers from n) ≡ n
length-numbers from zero = refl
length-numbers from (suc n) = ap suc (length-numbers (from + 1) n)

-- the passes without the last one
pub fresh_fewer : {O P C : Type 0} (o : Option (Opening O P)) (n : ℕ) (all ts : List (Known O P C)) (t : Known O P C) → AreFresh o n all → 0 < n → all ≡ ts ++ t ∷ []
    → AreFresh o (n - 1) ts × (t.number + 1 ≡ n) × (t.entries ≡ [])
fresh_fewer {O} {P} {C} o n all ts t h some is =
    let F : Known O P C → Type 0 = λ t. (t.opening ≡ o) × (t.entries ≡ []) in
    let each : All F (ts ++ t ∷ []) = subst (λ (l : List (Known O P C)). All F l) is h.1 in
    let more : n - 1 + 1 ≡ n = omega (arith, some) in
    let names : map (λ (t : Known O P C). t.number) ts ++ t.number ∷ [] ≡ numbers 0 (n - 1) ++ (0 + (n - 1)) ∷ [] =
    sym (map-append (λ (t : Known O P C). t.number) ts (t ∷ []))
    ∙ (ap (λ (l : List (Known O P C)). map (λ (t : Known O P C). t.number) l) (sym is)
    ∙ (h.0 ∙ (ap (λ k. numbers 0 k) (sym more) ∙ sym (numbers-snoc 0 (n - 1))))) in
    let ends = same_ends (map (λ (t : Known O P C). t.number) ts) (numbers 0 (n - 1)) t.number (0 + (n - 1)) names in
    ((ends.0, all_but_last F ts t each), omega (arith, ends.1, some), (all_last F ts t each).1)

rest_of : (b : Bool) {C : Type 0} (e : Entry C) (es : List (Entry C)) → cond b (e ∷ es) es ≡ [] → (b ≡ false) × (es ≡ [])
rest_of true e es none = let n = ap length none in absurd (omega (arith, n))
rest_of false e es none = (refl, none)

-- a station without an entry has none of the entries
pub none_of : {C : Type 0} (s : ℕ) (es : List (Entry C)) (k : ℕ) (d : Entry C) → of_station s es ≡ [] → k < length es → (get_or es k d).station ≡ s → ⊥
none_of s [] k d none lt is = omega (arith, lt)
none_of s (e ∷ es) zero d none lt is = let other = (rest_of (e.station == s) e (of_station s es) none).0 in Prim.grind (arith, nat_tests, other, is)
none_of s (e ∷ es) (suc k) d none lt is = none_of s es k d (rest_of (e.station == s) e (of_station s es) none).1 (omega (arith, lt)) is

pub below_last : (s last stations all : ℕ) → s < all → all ≡ stations + 1 → last + 1 ≡ all → (s ≡ last → ⊥) → s < stations
below_last s last stations all below count is other = Prim.grind (arith, below, count, is, other)
