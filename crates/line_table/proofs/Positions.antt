-- The place at which a test passes, where it passes at one place at most.
use Rattle.std.proofs.Common.{◌≡◌, ℕ, ◌<◌, Bool, true, false, List, Some, None, inl, inr, length, get_or, refl, arith}
use Rattle.std.specs.Prelude.{slice_get}
use Rattle.std.specs.List.{position}
use Rattle.std.proofs.lemmas.Bool.{lt-ltb, le-ltb}
use Rattle.std.proofs.lemmas.List.Sums.{position_or_len_is}
use Rattle.std.proofs.lemmas.Option.{slice_get-get_or, get_or_from_slice_get, slice_get_cases}

fails : (b : Bool) → (b ≡ true → ⊥) → b ≡ false
fails true never = absurd (never refl)
fails false never = refl

within : {A : Type 0} (xs : List A) (i : ℕ) (x : A) → slice_get xs i ≡ Some x → i < length xs
within xs i x h = elim ((slice_get_cases xs i).1) [
  | inl found ↦ found.1
  | inr past ↦ absurd cc
]

pub position_one : {A : Type 0} (p : A → Bool) (xs : List A) (i : ℕ) (x : A) → slice_get xs i ≡ Some x → p x ≡ true
    → ((j : ℕ) (y : A) → slice_get xs j ≡ Some y → p y ≡ true → j ≡ i) → position p xs ≡ Some i
position_one p xs i x h passes only =
    let inside = within xs i x h in
    let before : (k : ℕ) → k < i → p (get_or xs k x) ≡ false = λ k low.
    fails (p (get_or xs k x)) (λ yes. let same = only k (get_or xs k x) (slice_get-get_or xs k x (omega arith)) yes in omega arith) in
    let here : p (get_or xs i x) ≡ true = rw (get_or_from_slice_get xs i x x h) passes in
    let first = position_or_len_is p xs i x (omega arith) before (λ _. here) in
    let test = lt-ltb i (length xs) inside in
    rw (first, test) refl

pub position_none : {A : Type 0} (p : A → Bool) (xs : List A) (d : A) → ((j : ℕ) (y : A) → slice_get xs j ≡ Some y → p y ≡ true → ⊥) → position p xs ≡ None
position_none p xs d never =
    let before : (k : ℕ) → k < length xs → p (get_or xs k d) ≡ false = λ k low.
    fails (p (get_or xs k d)) (λ yes. never k (get_or xs k d) (slice_get-get_or xs k d low) yes) in
    let first = position_or_len_is p xs (length xs) d (omega arith) before (λ h. absurd (omega arith)) in
    let test = le-ltb (length xs) (length xs) (omega arith) in
    rw (first, test) refl
