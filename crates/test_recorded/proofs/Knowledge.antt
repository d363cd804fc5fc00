-- What is known of replies that are explained by what is known of them.
use Rattle.std.proofs.Common.{◌≡◌, ◌+◌, ◌-◌, ℕ, ◌<◌, ◌≤◌, inl, inr, List, Option, Some, IsSomeAnd, length, slice_get, get_or, refl, sym, ap, ◌∙◌, subst, arith}
use Rattle.std.proofs.lemmas.Bool.{cases_lt}
use Rattle.std.proofs.lemmas.Option.{get_or_from_slice_get, slice_get_within}
use Rattle.recorded_sessions.specs.Sessions.{AreOwn, IsAt}
use Rattle.recorded_sessions.specs.Telling.{AreKnown, IsKnown, own_points, told_after}
use Rattle.recorded_sessions.specs.declared.telling.Told.{Told}
use Rattle.recorded_sessions.specs.declared.telling.Told.TheVariants.{Own}
use Rattle.room_core.specs.declared.entry.Entry.{Entry}
use Rattle.test_recorded.specs.Knowing.{IsExplained, IsOwn}

at_line : (tells : List Told) (index : ℕ) (t : Told) → slice_get tells index ≡ Some t → slice_get tells (index + 1 - 1) ≡ Some t
at_line tells index t at =
    let line : index + 1 - 1 ≡ index = omega arith in
    ap (slice_get tells) line ∙ at

pub are_known : (tells : List Told) → AreKnown (λ number told after points. IsExplained tells number told after points) tells
are_known tells index t at = record {
  right = λ told after e. subst (λ o. IsSomeAnd o (λ u. (told_after u told ≡ Some after) × (own_points t ≡ own_points u))) (sym (at_line tells index t at)) (e, refl);
  only = λ told after points h. subst (λ o. IsSomeAnd o (λ u. (told_after u told ≡ Some after) × (points ≡ own_points u))) (at_line tells index t at) h;
}

-- those before a place, and the one there
pub own_more : {C : Type 0} (entries : List (Entry C)) (station : ℕ) (tells : List Told) (place : ℕ) (d : Told)
    → ((index point : ℕ) → index < place → slice_get tells index ≡ Some (Own point) → IsAt entries station point)
    → IsOwn entries station (get_or tells place d)
    → (index point : ℕ) → index < place + 1 → slice_get tells index ≡ Some (Own point) → IsAt entries station point
own_more entries station tells place d before here index point within at = elim (cases_lt index place) [
  | inl less ↦ before index point less at
  | inr more ↦
      let same : index ≡ place = omega (arith, within, more) in
      here point (sym (ap (λ k. get_or tells k d) same) ∙ get_or_from_slice_get tells index (Own point) d at)
]

pub all_own : {C : Type 0} (entries : List (Entry C)) (station : ℕ) (tells : List Told) (place : ℕ) → length tells ≤ place
    → ((index point : ℕ) → index < place → slice_get tells index ≡ Some (Own point) → IsAt entries station point)
    → AreOwn entries station tells
all_own entries station tells place all before index point at =
    before index point (omega (arith, slice_get_within tells index (Own point) at, all)) at
