-- An edit by a delta. Where the delta used is 0 the track is unchanged, and the edit is done all the same.
use Rattle.std.specs.Prelude.{◌≡◌, zero, suc, ◌<◌, neg_ℤ, ℤ, pos, negsuc, Result, Ok}
use Rattle.edit_delta.specs.declared.deltas.Used.{Used}
use Rattle.edit_delta.specs.declared.deltas.Way.{Way}
use Rattle.edit_delta.specs.declared.deltas.Way.TheVariants.{Still, Later, Earlier}
use Rattle.composables.specs.declared.refusals.Done.{Done}
use Rattle.composables.specs.declared.refusals.Done.TheVariants.{By}
use Rattle.composables.specs.declared.refusals.Refusal.{Refusal}
use Rattle.composables.specs.Limits.{track_within_limits}
use Rattle.composables.specs.TrackState.{TrackState}

-- what is left and answered by the delta used, of the state before it: 0 leaves that, the others what is meant by them
abbrev pub used_from : {S : Type 0} → S → (Done → ℤ → Result (S × Done) Refusal) → ℤ → Result (S × Done) Refusal
used_from before meant (pos zero) = Ok (before, By (pos zero))
used_from before meant (pos (suc n)) = meant (By (pos (suc n))) (pos (suc n))
used_from before meant (negsuc n) = meant (By (negsuc n)) (negsuc n)

-- the same on one track, where this is what the others leave
abbrev pub used_on : TrackState → (ℤ → TrackState) → ℤ → Result (TrackState × Done) Refusal
used_on t moved d = used_from t (λ done by. track_within_limits (moved by) done) d

-- a delta by its way and its frames
abbrev pub IsWayOf : ℤ → Way → Type 0
IsWayOf d Still = d ≡ pos 0
IsWayOf d (Later n) = (0 < n) × (d ≡ pos n)
IsWayOf d (Earlier n) = (0 < n) × (d ≡ neg_ℤ (pos n))

-- the delta that is used, by its way, and the answer
pub record IsUsed (d : ℤ) (u : Used) : Type 0 where
  pub way : IsWayOf d u.way
  pub done : u.done ≡ By d
