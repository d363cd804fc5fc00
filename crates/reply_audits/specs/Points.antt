-- A reply to a line at the point that it names.
use Rattle.std.specs.Prelude.{◌≡◌, ℕ, List, Result, IsTrue, codes}
use Rattle.cut_mirror.specs.Walks.{Walked}
use Rattle.cut_steps.specs.CutSteps.{CutObject, CutStep, KeptTrack}
use Rattle.edit_calls.specs.declared.asks.Ask.{Ask}
use Rattle.line_table.specs.declared.lines.Line.{Line}
use Rattle.protocol_parts.specs.declared.line_fault.LineFault.{LineFault}
use Rattle.recorded_sessions.specs.Recordings.{line_seen}
use Rattle.recorded_sessions.specs.Telling.{Explained}
use Rattle.station_sessions.specs.Rooms.{meaning_of, room_of}
use Rattle.station_sessions.specs.Transcript.{BearsNone, Wish}
use Rattle.reply_audits.specs.Judging.{IsIn, answered_by, setting_in}
use Rattle.reply_audits.specs.Naming.{IsThere}
use Rattle.reply_audits.specs.declared.judging.RecordedReply.{RecordedReply}
use Rattle.reply_audits.specs.declared.judging.RecordedRoom.{RecordedRoom}

-- the reply names this point, and a walk along the room's journal stands there
pub record IsAt (room : RecordedRoom) (walk : Walked CutObject KeptTrack CutStep) (row : RecordedReply) (n : ℕ) : Type 0 where
  pub walk_in : IsIn room walk
  pub there : IsThere room.entries.now row.reply.now n
  pub point : walk.point ≡ n

-- how the reply is explained as an answer to what its line asks for, in the room that began with this opening
abbrev pub answered_in : RecordedRoom → List KeptTrack → RecordedReply → Wish CutStep Ask → Explained
answered_in room opening row wish = answered_by (setting_in room) opening room.entries.now row.station row.number wish row.reply.now

-- the reply says that there was no memory, which the line may find
abbrev pub IsMemoryTold : RecordedRoom → RecordedReply → Type 0
IsMemoryTold room row =
    (row.reply.now ≡ codes "memory") × IsTrue ((room_of (setting_in room)).takes_memory (line_seen row.line))
    × BearsNone room.entries.now row.station row.number

-- what the line says was read
abbrev pub IsMeaning : RecordedRoom → RecordedReply → Result Line LineFault → Type 0
IsMeaning room row read = read ≡ meaning_of (setting_in room) (line_seen row.line)
