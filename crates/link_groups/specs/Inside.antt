-- Tracks that are all named.
use Rattle.std.specs.Prelude.{◌≡◌, ℕ, List, Option, None, IfSome}
use Rattle.composables.specs.Links.{first_unnamed}
use Rattle.composables.specs.TrackSets.{tracks_in}
use Rattle.composables.specs.TrackState.{TrackState}

-- each track of a set, if there is one, is named
abbrev pub AreInside : List TrackState → Option ℕ → Type 0
AreInside named tracks = IfSome tracks (λ s. first_unnamed named (tracks_in s) ≡ None)
