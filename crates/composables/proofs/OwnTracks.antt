-- A call on the own track is done where it is on that track alone.
use Rattle.std.proofs.Common.{List, Result, Ok, Err, IsOk, refl}
use Rattle.composables.specs.declared.refusals.Done.{Done}
use Rattle.composables.specs.declared.refusals.Refusal.{Refusal}
use Rattle.composables.specs.OwnTracks.{among_named}
use Rattle.composables.specs.TrackState.{TrackState}

pub among-ok : (ts : List TrackState) (r : Result (TrackState × Done) Refusal) → IsOk r → IsOk (among_named ts r)
among-ok ts (Ok (u, done)) h = refl
among-ok ts (Err why) h = h
