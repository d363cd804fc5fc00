-- The numbers of the parts that a call names.
use Rattle.std.proofs.Common.{◌≡◌, ℕ, zero, suc, ◌+◌, ◌<◌, ◌≤◌, Bool, true, false, IsTrue, List, [], ◌∷◌, length}
use Rattle.std.proofs.Common.{Option, Some, None, Result, Ok, Err, IsErrAnd, IfOk, IsOk, All, Vec, Global, refl, sym}
use Rattle.std.proofs.Common.{ap, subst, ◌∙◌, arith}
use Rattle.std.proofs.lemmas.List.Elements.{All-nil, All-cons}
use Rattle.out_of_memory.specs.declared.fault.Memory.{Memory as Lost}
use Rattle.part_sets.specs.Members.{members}
use Rattle.part_sets.specs.MemberLaws.{higher, members-set}
use Rattle.room_core.specs.Parts.{AreGood, AscendBetween, numbers}
use Rattle.room_core.specs.Whole.{set_of}

-- the numbers of a call's set are those that it names
pub named_members : (v : Result (Vec ℕ Global) Lost) (set count : ℕ) (names : List ℕ)
    → IfOk v (λ numbers. numbers.items ≡ members set)
    → set ≡ set_of names → count ≤ 32 → AscendBetween 0 count names → IfOk v (λ numbers. numbers.items ≡ names)
named_members (Ok numbers) set count names is same few a = is
    ∙ (ap members same ∙ members-set names (higher 0 count 32 names few a))
named_members (Err e) set count names is same few a = tt

good-length : {P : Type 0} (good : ℕ → P → Type 0) (ns : List ℕ) (ps : List P) → AreGood good ns ps
    → length ps ≡ length ns
good-length good [] [] h = refl
good-length good [] (p ∷ ps) h = absurd h
good-length good (n ∷ ns) [] h = absurd h
good-length good (n ∷ ns) (p ∷ ps) h = ap suc (good-length good ns ps h.1)

length-numbers : (from count : ℕ) → length (numbers from count) ≡ count
length-numbers from zero = refl
length-numbers from (suc count) = ap suc (length-numbers (from + 1) count)

-- as many good parts as the object has, and as a call names
good-count : {P : Type 0} (good : ℕ → P → Type 0) (count : ℕ) (ps : List P) → AreGood good (numbers 0 count) ps
    → length ps ≡ count
good-count good count ps h = good-length good (numbers 0 count) ps h ∙ length-numbers 0 count

pub as_many : {P : Type 0} (good : ℕ → P → Type 0) (names called : List ℕ) (ps : List P) → names ≡ called
    → AreGood good called ps → length ps ≡ length names
as_many good names called ps same h = good-length good called ps h ∙ ap length (sym same)

all_below : (least count : ℕ) (names : List ℕ) → AscendBetween least count names → All (λ n. n < count) names
all_below least count [] a = All-nil (λ n. n < count)
all_below least count (n ∷ ns) a = All-cons (λ n. n < count) n ns a.1 (all_below (n + 1) count ns a.2)

pub all_there : {P : Type 0} (good : ℕ → P → Type 0) (count : ℕ) (names called : List ℕ) (ps : List P) → names ≡ called
    → AscendBetween 0 count called
    → AreGood good (numbers 0 count) ps → All (λ n. n < length ps) names
all_there good count names called ps same a h =
    subst (λ ns. All (λ n. n < length ps) ns) (sym same) (subst (λ (k : ℕ). All (λ n. n < k) called)
    (sym (good-count good count ps h)) (all_below 0 count called a))
