-- The own track of a call among the tracks that it names.
use Rattle.std.specs.Prelude.{ℕ, List, [], ◌∷◌, Option, Some, None, Result, Ok, Err, map, nat_eq, slice_get, if◌then◌else◌}
use Rattle.composables.specs.declared.refusals.Done.{Done}
use Rattle.composables.specs.declared.refusals.Refusal.{Refusal}
use Rattle.composables.specs.declared.refusals.Refusal.TheVariants.{NoTrack}
use Rattle.composables.specs.TrackState.{TrackState}
use Rattle.composables.specs.Answers.{Applied}

-- the numbers of these tracks, in order
abbrev pub numbers_of : List TrackState → List ℕ
numbers_of tracks = map (λ (t : TrackState). t.number) tracks

-- the track with this number
abbrev pub track_numbered : ℕ → List TrackState → Option TrackState
track_numbered n [] = None
track_numbered n (t ∷ ts) = if nat_eq t.number n then Some t else track_numbered n ts

-- the track at an index that was found
abbrev pub found_at : List TrackState → Option ℕ → Option TrackState
found_at tracks None = None
found_at tracks (Some i) = slice_get tracks i

-- the tracks with this one in place of that with its number
abbrev pub with_track : List TrackState → TrackState → List TrackState
with_track [] u = []
with_track (t ∷ ts) u = if nat_eq t.number u.number then u ∷ ts else t ∷ with_track ts u

-- what is meant by a call for the track with this number, which must be among the named
abbrev pub for_own : ℕ → (TrackState → Applied) → List TrackState → Applied
for_own n meant named = for_found (track_numbered n named) where
  for_found : Option TrackState → Applied
  for_found None = Err (NoTrack n)
  for_found (Some t) = meant t

-- what it leaves and answers on that track alone, as on all the named
abbrev pub among_named : List TrackState → Result (TrackState × Done) Refusal → Applied
among_named named (Ok (u, done)) = Ok (with_track named u, done)
among_named named (Err why) = Err why

-- a call on the track with this number, which leaves the others as they are
abbrev pub on_own : ℕ → (TrackState → Result (TrackState × Done) Refusal) → List TrackState → Applied
on_own n meant named = for_own n (λ t. among_named named (meant t)) named
