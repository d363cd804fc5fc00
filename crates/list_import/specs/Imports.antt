-- The opening of a room that an edit decision list is. This project's own.
use Rattle.std.specs.Prelude.{◌≡◌, ℕ, List, [], ◌∷◌, min}
use Rattle.timecode12.specs.Numbers.{Counted}
use Rattle.edl_events.specs.declared.event.Event.{Event}
use Rattle.otio_json.specs.declared.opening.Opening.{Opening}
use Rattle.list_import.specs.ListReels.{shots_of, table_of}
use Rattle.list_import.specs.TrackItems.{AreTracksOf}

-- the least of a record frame and of the record ins of events
abbrev pub least_from : ℕ → List Event → ℕ
least_from least [] = least
least_from least (e ∷ es) = least_from (min least e.place) es

-- the least record in of events, and 0 where there are none
abbrev pub start_of : List Event → ℕ
start_of [] = 0
start_of (e ∷ es) = least_from e.place es

-- The room starts where the first event does, and counts as it is told. Its tracks are the picture and the two channels of
-- sound: the events of each, in order of their record ins, with dark frames between them. It has the reels of the events,
-- and no nests.
pub record Imports (events : List Event) (counted : Counted) (o : Opening) : Type 0 where
  pub start : o.start ≡ start_of events
  pub counting : o.counting ≡ counted
  pub table : o.table ≡ table_of events
  pub tracks : AreTracksOf (start_of events) (shots_of events) o.tracks
