-- What a closed room's journal is to what a station knew.
use Rattle.std.specs.Prelude.{◌≡◌, ℕ, List, Some, ◌++◌, length, slice_get}
use Rattle.cut_steps.specs.CutSteps.{stepping}
use Rattle.edit_apply.specs.RoomTracks.{IsOpening}
use Rattle.edit_journal.specs.Seats.{Agrees}
use Rattle.edit_journal.specs.declared.name.Name.TheVariants.{Station}
use Rattle.room_core.specs.Projection.{of_station}
use Rattle.otio_json.specs.declared.opening.Opening.{Opening}
use Rattle.station_sessions.specs.Rooms.{History, IsLegalIn}
use Rattle.station_sessions.specs.SessionInside.{IsLegalThere, TrackRoom}
use Rattle.served_rooms.specs.Seated.{LeftState}
use Rattle.served_rooms.specs.Stations.{AreOfStations}

-- The journal is a legal history of an opening that a room can begin with, by these stations; what the station knew begins
-- it, and it has no further entry of the station.
pub record Closes (o : Opening) (stations station : ℕ) (known h : History) : Type 0 where
  pub opens : IsOpening o.table o.tracks
  pub legal : IsLegalIn o h
  pub seated : AreOfStations stations h
  pub more : History
  pub journal : h ≡ known ++ more
  pub own : of_station station h ≡ of_station station known

-- The journal is a legal history of the room, by the stations of which this is left alone; what each of them knew begins it,
-- and it has no further entry of that station.
pub record IsClosedBy (room : TrackRoom) (left : List LeftState) (h : History) : Type 0 where
  pub legal : IsLegalThere room h
  pub agree : (k : ℕ) (l : LeftState) → slice_get left k ≡ Some l → Agrees (stepping room.object.object.table).names h (Station k) l.pass.entries
  pub seated : AreOfStations (length left) h
