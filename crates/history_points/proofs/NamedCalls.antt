-- A call on the parts that it names, as a call on all parts.
use Rattle.std.proofs.Common.{◌≡◌, ℕ, zero, suc, ◌+◌, ◌<◌, Bool, List, [], ◌∷◌, length, Option, Some, None, Result, Ok, Err, refl, sym, ap, ◌∙◌, All, map}
use Rattle.std.proofs.Math.ListN.{length-set}
use Rattle.std.proofs.lemmas.List.{length-map}
use Rattle.std.proofs.lemmas.List.Elements.{All-nil, All-cons}
use Rattle.room_core.specs.Calls.{AnswersCall}
use Rattle.room_core.specs.Parts.{AreGood, AscendBetween, numbers}
use Rattle.room_core.specs.Whole.{Meaning, picked, put_back, on_whole, unless_refused, whole}
use Rattle.out_of_memory.specs.declared.fault.Fault.{Fault}
use Rattle.out_of_memory.specs.declared.fault.Fault.TheVariants.{Refused, Memory}
use Rattle.history_points.specs.InPlace.{AnswersInPlace}
use Rattle.history_points.specs.Slots.{present, emptied, IsWhole}
use Rattle.history_points.proofs.Slotted.{present-map, whole-map, refilled, put_same}

pub good-length : {P : Type 0} (good : ℕ → P → Type 0) (ns : List ℕ) (ps : List P) → AreGood good ns ps → length ps ≡ length ns
good-length good [] [] h = refl
good-length good [] (p ∷ ps) h = absurd h
good-length good (n ∷ ns) [] h = absurd h
good-length good (n ∷ ns) (p ∷ ps) h = ap suc (good-length good ns ps h.1)

length-numbers : (from count : ℕ) → length (numbers from count) ≡ count
length-numbers from zero = refl
length-numbers from (suc count) = ap suc (length-numbers (from + 1) count)

-- as many good parts as the object has
pub good-count : {P : Type 0} (good : ℕ → P → Type 0) (count : ℕ) (ps : List P) → AreGood good (numbers 0 count) ps → length ps ≡ count
good-count good count ps h = good-length good (numbers 0 count) ps h ∙ length-numbers 0 count

pub whole-length : {P : Type 0} (slots : List (Option P)) → IsWhole slots → length slots ≡ length (present slots)
whole-length slots whole = sym (sym (length-map (present slots) Some) ∙ ap length whole)

pub all_below : (least count : ℕ) (names : List ℕ) → AscendBetween least count names → All (λ n. n < count) names
all_below least count [] a = All-nil (λ n. n < count)
all_below least count (n ∷ ns) a = All-cons (λ n. n < count) n ns a.1 (all_below (n + 1) count ns a.2)

pub length-emptied : {P : Type 0} (slots : List (Option P)) (names : List ℕ) → length (emptied slots names) ≡ length slots
length-emptied slots [] = refl
length-emptied slots (n ∷ ns) = length-emptied _ ns ∙ length-set slots n None

unrefused : {P C D R : Type 0} (m : Meaning P C D R) (ps : List P) (c : C) → m.refuses c ≡ None
    → whole m ps c ≡ on_whole ps (m.names c) (m.applied (picked ps (m.names c)) c)
unrefused m ps c none = ap (λ r. unless_refused r (on_whole ps (m.names c) (m.applied (picked ps (m.names c)) c))) none

-- what a call answers on its parts it answers on all
pub answers_whole : {P C D R : Type 0} (first : Bool) (m : Meaning P C D R) (ps ts : List P) (c : C) (least : ℕ) (result : Result D (Fault R))
    → m.refuses c ≡ None → AscendBetween least (length ps) (m.names c)
    → AnswersCall first (m.applied (picked ps (m.names c)) c) (picked ps (m.names c)) ts result
    → AnswersInPlace (whole m ps c) ps (put_back ps (m.names c) ts) result
answers_whole first m ps ts c least (Ok d) none a h = unrefused m ps c none ∙ ap (on_whole ps (m.names c)) h
answers_whole first m ps ts c least (Err (Refused r)) none a h =
    (unrefused m ps c none ∙ ap (on_whole ps (m.names c)) h.0, ap (put_back ps (m.names c)) h.1 ∙ put_same ps least (m.names c) a)
answers_whole first m ps ts c least (Err Memory) none a h = ap (put_back ps (m.names c)) h.1 ∙ put_same ps least (m.names c) a

-- the places after the named parts were put back
pub now_filled : {P : Type 0} (before after : List (Option P)) (least count : ℕ) (names : List ℕ) (ts : List P) → IsWhole before
    → AscendBetween least count names → length ts ≡ length names → after ≡ put_back (emptied before names) names (map Some ts)
    → after ≡ map Some (put_back (present before) names ts)
now_filled before after least count names ts whole a e is =
    is ∙ (ap (λ xs. put_back (emptied xs names) names (map Some ts)) (sym whole) ∙ refilled (present before) least count names ts a e)

pub filled-whole : {P : Type 0} (after : List (Option P)) (ps : List P) → after ≡ map Some ps → IsWhole after
filled-whole after ps is = rw is (whole-map ps)

pub filled-present : {P : Type 0} (after : List (Option P)) (ps : List P) → after ≡ map Some ps → present after ≡ ps
filled-present after ps is = ap present is ∙ present-map ps
