-- A station's session as the code keeps it: the room, the station's pass, and the number of its next line.
use Rattle.std.specs.Prelude.{◌≡◌, ℕ, ◌<◌, ◌≤◌, List, [], Option, Some, None, length, drop}
use Rattle.cut_steps.specs.CutSteps.{CutObject, CutStep, KeptTrack, stepping}
use Rattle.timecode12.specs.Numbers.{Counted}
use Rattle.cut_room.specs.Opened.{Opened}
use Rattle.edit_journal.specs.Seats.{Opening as RoomOpening}
use Rattle.edit_journal.specs.Turns.{Known, last_of}
use Rattle.room_core.specs.History.{IsLegal, replay}
use Rattle.room_core.specs.Projection.{of_station}
use Rattle.room_core.specs.Whole.{whole}
use Rattle.station_sessions.specs.Rooms.{AreWritten, History, Setting}
use Rattle.station_sessions.specs.Transcript.{Origin}
use Rattle.station_sessions.specs.Session.{Course, StationState}

-- the opening of a journal of tracks, a room of tracks, and what a station's pass knows
abbrev pub TrackOpening : Type 0
TrackOpening = RoomOpening CutObject KeptTrack

abbrev pub TrackRoom : Type 0
TrackRoom = Opened CutObject KeptTrack

abbrev pub TrackPass : Type 0
TrackPass = Known CutObject KeptTrack CutStep

abbrev pub known_by : Option TrackPass → History
known_by None = []
known_by (Some pass) = pass.entries

abbrev pub station_of : Option TrackPass → ℕ
station_of None = 0
station_of (Some pass) = pass.number

abbrev pub or_opening : List KeptTrack → Option (List KeptTrack) → List KeptTrack
or_opening opening None = opening
or_opening opening (Some tracks) = tracks

-- a room that opened so, with so many stations
abbrev pub opened_with : TrackOpening → ℕ → TrackRoom
opened_with opening stations = record { object = opening.0; parts = opening.1; stations = stations }

-- the tracks that these entries come to
abbrev pub tracks_at : TrackRoom → History → List KeptTrack
tracks_at room h = or_opening room.parts (replay (whole (stepping room.object.object.table)) room.parts h)

-- how far a station has come that knows these entries, so many of which are kept
abbrev pub course_at : TrackRoom → History → ℕ → ℕ → Course (List KeptTrack) CutStep
course_at room h held line = record { opening = room.parts; state = tracks_at room h; journal = h; held = held; line = line }

abbrev pub setting_at : TrackRoom → Counted → ℕ → Setting
setting_at room counting start = record { table = room.object.object.table; counting = counting; start = start }

-- what a session knows of what keeps its room's journal: how many entries are kept, and how many failures were counted
pub record Holding : Type 0 where
  pub held : ℕ
  pub failures : ℕ

-- a session in a room, with the number of its next line
abbrev pub session_at : TrackRoom → Option TrackPass → Counted → ℕ → Holding → ℕ → StationState
session_at room pass counting start holding line = record {
  setting = setting_at room counting start;
  station = station_of pass;
  course = course_at room (known_by pass) holding.held line;
  failures = holding.failures;
}

-- a legal history of the room's opening
abbrev pub IsLegalThere : TrackRoom → History → Type 0
IsLegalThere room h = IsLegal (whole (stepping room.object.object.table)) room.parts h

-- A pass with which a session can begin there: it knows the entries that were kept, its station has none behind them, the
-- base is the last number of the station, and the station's entries can be written.
pub record IsOrigin (from : Origin) (pass : TrackPass) : Type 0 where
  pub kept : from.kept ≤ length pass.entries
  pub none : of_station pass.number (drop from.kept pass.entries) ≡ []
  pub base : from.base ≡ last_of pass.number pass.entries
  pub written : AreWritten (of_station pass.number pass.entries)

-- the entries that the pass knows are legal, and its own are of lines before the next
pub record IsSeated (room : TrackRoom) (line : ℕ) (pass : TrackPass) : Type 0 where
  pub legal : IsLegalThere room pass.entries
  pub before : last_of pass.number pass.entries < line

-- the session has its pass
abbrev pub IsSession : TrackRoom → ℕ → Option TrackPass → Type 0
IsSession room line None = ⊥
IsSession room line (Some pass) = IsSeated room line pass
