-- Lists that change at one place, and lists that grow by what stands for nothing.
use Rattle.std.proofs.Common.{◌≡◌, ◌≢◌, ℕ, ◌<◌, List, Some, length, sym, ap, ◌∙◌, arith, inl, inr, get_or-set_same, get_or-set_other}
use Rattle.std.specs.Prelude.{slice_get, slice_set}
use Rattle.std.proofs.lemmas.Option.{slice_get-get_or, slice_get_past}
use Rattle.std.proofs.lemmas.List.{length-set}
use Rattle.std.proofs.lemmas.Bool.Decides.{leb_tells}

pub get-same : {X : Type 0} (xs : List X) (i : ℕ) (x : X) → i < length xs → slice_get (slice_set xs i x) i ≡ Some x
get-same xs i x lt =
    slice_get-get_or (slice_set xs i x) i x (omega (arith, length-set xs i x)) ∙ ap Some (get_or-set_same xs i x x lt)

pub get-other : {X : Type 0} (xs : List X) (i j : ℕ) (x : X) → j ≢ i → slice_get (slice_set xs i x) j ≡ slice_get xs j
get-other xs i j x ne = elim (leb_tells (length xs) j) [
  | inl h ↦ slice_get_past (slice_set xs i x) j (omega (arith, length-set xs i x, h.1)) ∙ sym (slice_get_past xs j h.1)
  | inr h ↦ slice_get-get_or (slice_set xs i x) j x (omega (arith, length-set xs i x, h.1))
      ∙ (ap Some (get_or-set_other xs i j x x ne) ∙ sym (slice_get-get_or xs j x h.1))
]
