-- A track as the code keeps it.
use Rattle.std.specs.Prelude.{◌≡◌, false}
use Rattle.composables.specs.declared.tracks.Track.TheInside.{Inside}
use Rattle.composables.specs.Good.{AllUnlinked}
use Rattle.composables.specs.Items.{cells_of}
use Rattle.composables.specs.TrackState.{TrackState}
use Rattle.composables.specs.TrackFacts.{IsKept}
use Rattle.composables.specs.Joined.{IsTight, AllFilled}

abbrev pub state_of : Inside → TrackState
state_of t = record { number = t.number; cells = cells_of t.items; next_item = t.next_item; next_link = t.next_link }

pub record IsTrack (t : Inside) : Type 0 where
  pub tight : IsTight t.items
  pub filled : AllFilled t.items
  pub kept : IsKept (state_of t)
  pub links : t.linked ≡ false → AllUnlinked t.items
