-- What an edit leaves and answers, where its meaning is either the new state with the answer or the refusal.
use Rattle.std.specs.Prelude.{List, Option, Some, None, Result, Err}
use Rattle.composables.specs.declared.refusals.Done.{Done}
use Rattle.composables.specs.declared.refusals.Refusal.{Refusal}
use Rattle.composables.specs.TrackState.{TrackState}

-- what a call means on the tracks that it names, in order: the tracks after it with the answer, or the first refusal
-- that holds
abbrev pub Applied : Type 0
Applied = Result (List TrackState × Done) Refusal

-- the refusal, if there is one, in place of what is meant
abbrev pub unless : {A : Type 0} → Option Refusal → Result A Refusal → Result A Refusal
unless (Some why) meant = Err why
unless None meant = meant
