-- How a reply is explained that was recorded, and where a walk must stand for that to be known.
use Rattle.std.specs.Prelude.{◌≡◌, ℕ, ◌≤◌, List, Some, length}
use Rattle.cut_mirror.specs.Walks.{Walked}
use Rattle.cut_steps.specs.CutSteps.{CutObject, CutStep, KeptTrack}
use Rattle.edit_calls.specs.declared.asks.Ask.{Ask}
use Rattle.line_words.specs.Lines.{Line as InputLine}
use Rattle.recorded_sessions.specs.Naming.{point_named}
use Rattle.recorded_sessions.specs.Telling.{Explained}
use Rattle.station_sessions.specs.Rooms.{History, Setting, room_of}
use Rattle.station_sessions.specs.Transcript.{Answered, Row, Wish}
use Rattle.reply_audits.specs.declared.judging.RecordedRoom.{RecordedRoom}

-- what stays as it is in the room
abbrev pub setting_in : RecordedRoom → Setting
setting_in room = record { table = room.object.now.object.table; counting = room.counting; start = room.start }

-- a walk along its journal
pub record IsIn (room : RecordedRoom) (walk : Walked CutObject KeptTrack CutStep) : Type 0 where
  pub object : walk.object ≡ room.object.now
  pub entries : walk.entries ≡ room.entries.now

-- it stands at the point that the reply names, where there are so many entries
abbrev pub StandsAt : {O P C : Type 0} → Walked O P C → List ℕ → Type 0
StandsAt walk reply = (n : ℕ) → point_named reply ≡ Some n → n ≤ length walk.entries → walk.point ≡ n

-- a room with this opening, the entries of its journal, and a station's line of this number
module _ (setting : Setting) (opening : List KeptTrack) (h : History) (station number : ℕ) where
  -- how a reply to the line is explained
  abbrev pub explained_by : InputLine → List ℕ → Explained
  explained_by line reply = λ told after points. Row (room_of setting) opening h station number told reply after points line

  -- how it is as an answer to what a line asks for
  abbrev pub answered_by : Wish CutStep Ask → List ℕ → Explained
  answered_by wish reply = λ told after points. Answered (room_of setting) opening h station number told reply after points wish
