-- What was recorded of stations as the code has it, and what its steps find out.
use Rattle.std.specs.Prelude.{◌≡◌, ℕ, ◌+◌, ◌<◌, ◌≤◌, ◌⊎◌, Bool, List, Option, Some, None, All, map, min, length, take, slice_get}
use Rattle.command_files.specs.Ports.{Change, OutputTold}
use Rattle.command_files.specs.Texts.{PutsWith}
use Rattle.command_files.specs.declared.status.Status.{Status}
use Rattle.command_files.specs.declared.status.Status.TheVariants as ended
use Rattle.command_words.specs.Records.{Named}
use Rattle.cut_mirror.specs.Walks.{Walked}
use Rattle.cut_steps.specs.CutSteps.{CutObject, CutStep, KeptTrack, stepping}
use Rattle.recorded_sessions.specs.Places.{Says}
use Rattle.recorded_sessions.specs.Recordings.{line_seen}
use Rattle.recorded_sessions.specs.Sessions.{IsSession}
use Rattle.recorded_sessions.specs.Telling.{AreKnown, IsKnown}
use Rattle.recorded_sessions.specs.declared.session.Stop.{Stop}
use Rattle.recorded_sessions.specs.declared.session.Stop.TheVariants as session_stop
use Rattle.recorded_sessions.specs.declared.telling.Told.{Told}
use Rattle.reply_audits.specs.Judging.{IsIn, setting_in}
use Rattle.reply_audits.specs.Sessions.{IsLeft, explaining, heard_of}
use Rattle.reply_audits.specs.declared.judging.RecordedReply.{RecordedReply}
use Rattle.reply_audits.specs.declared.judging.RecordedRoom.{RecordedRoom}
use Rattle.room_core.specs.History.{IsLegal}
use Rattle.room_core.specs.Whole.{whole}
use Rattle.room_core.specs.declared.entry.Entry.{Entry}
use Rattle.room_files.specs.Files.{FilesTold}
use Rattle.room_ports.specs.Counts.{HasRisen}
use Rattle.station_sessions.specs.Rooms.{History, Setting}
use Rattle.station_sessions.specs.Transcript.{BearsNone}
use Rattle.audit_command.specs.Explained.{Each}
use Rattle.audit_command.specs.Reads.{HasFitting, HasLong, Reads}
use Rattle.audit_command.specs.Recordings.{Recording, recording_of, replies_in}
use Rattle.audit_command.specs.RefusalLines.{audit_line, legal_line}
use Rattle.audit_command.specs.Refused.{RefusesAt, RefusesBy, RefusesStation}
use Rattle.audit_command.specs.declared.refusal.AuditCode.TheVariants.{A5}
use Rattle.audit_command.specs.declared.refusal.AuditRefusal.{AuditRefusal}
use Rattle.audit_command.specs.declared.refusal.AuditStop.{AuditStop}
use Rattle.audit_command.specs.declared.refusal.AuditStop.TheVariants as stop
use Rattle.audit_command.specs.declared.records.RecordTexts.{RecordTexts}
use Rattle.audit_command.specs.declared.records.Station.{Station}
use Rattle.audit_command.specs.declared.tells.Noted.{Noted}

-- what was recorded, by its texts, and by its lines and replies
abbrev pub recording_told : RecordTexts → Recording
recording_told t = recording_of t.sent.items t.got.items t.is_cut

abbrev pub recording_in : Station → Recording
recording_in s = record { lines = map line_seen s.lines.items; replies = map (λ reply. reply.now) s.replies.items; cut = s.is_cut }

-- each sign says whether no entry of the station bears the number of its line, the first of which is line 1
abbrev pub AreSigned : History → ℕ → List Bool → Type 0
AreSigned h station signs = (index : ℕ) (sign : Bool) → slice_get signs index ≡ Some sign → Says sign (BearsNone h station (index + 1))

-- the row is that of a line of the station, behind so many, and its reply
pub record IsRowOf (s : Station) (index : ℕ) (row : RecordedReply) : Type 0 where
  pub station_is : row.station ≡ s.station
  pub number_is : row.number ≡ index + 1
  pub line_is : slice_get (recording_in s).lines index ≡ Some (line_seen row.line)
  pub reply_is : slice_get (recording_in s).replies index ≡ Some row.reply.now
  pub sign_is : slice_get s.has_no_entry.items index ≡ Some row.has_no_entry

-- stations that are numbered from 0 on, each beside the journal
abbrev pub AreReady : History → List Station → Type 0
AreReady h stations = (at : ℕ) (s : Station) → slice_get stations at ≡ Some s → (s.station ≡ at) × AreSigned h s.station s.has_no_entry.items

-- the walk is along the journal, which is a legal history of what the walk begins with
pub record IsAudited (room : RecordedRoom) (walk : Walked CutObject KeptTrack CutStep) : Type 0 where
  pub along : IsIn room walk
  pub legal : IsLegal (whole (stepping room.object.now.object.table)) walk.opening room.entries.now

module _ (room : RecordedRoom) (opening : List KeptTrack) where
  -- what a reply tells, by its station and by how many lines stand before its line
  abbrev pub IsTelling : Station → ℕ → Told → Type 0
  IsTelling s index tell =
      IsKnown (explaining (setting_in room) opening room.entries.now s.station (recording_in s).lines (recording_in s).replies (index + 1)) tell

  -- what all of them tell
  abbrev pub AreTelling : Station → List Told → Type 0
  AreTelling s tells =
      AreKnown (explaining (setting_in room) opening room.entries.now s.station (recording_in s).lines (recording_in s).replies) tells

  -- what was noted of a reply is what it tells
  abbrev pub IsNoted : List Station → Option Noted → Type 0
  IsNoted stations None = Unit {0}
  IsNoted stations (Some n) = (s : Station) → slice_get stations n.at ≡ Some s → IsTelling s n.index n.tell

-- of a journal in a room with this setting and these tracks at its beginning
module _ (room : Setting) (opening : List KeptTrack) (h : History) where
  -- it explains what was recorded of a station
  abbrev pub IsExplainedIn : ℕ → Recording → Type 0
  IsExplainedIn station r =
      IsSession (explaining room opening h station r.lines r.replies) (IsLeft room h station r.lines r.replies)
      (heard_of station r.lines r.replies r.cut) h

  -- what stops the audit of a station is its refusal, or there was no memory
  abbrev pub StopsStation : ℕ → Recording → AuditStop → Type 0
  StopsStation station r (stop.Refused refusal) =
      (refusal.station ≡ station) × RefusesStation room opening h IsExplainedIn station r refusal.code refusal.number
  StopsStation station r stop.Memory = Unit {0}

  -- the same of all stations, whose recordings these are
  abbrev pub StopsStations : List Recording → AuditStop → Type 0
  StopsStations rs (stop.Refused refusal) = RefusesAt room opening h IsExplainedIn rs refusal
  StopsStations rs stop.Memory = Unit {0}

  -- and of the whole audit
  abbrev pub StopsAudit : List Recording → AuditStop → Type 0
  StopsAudit rs (stop.Refused refusal) = RefusesBy room opening h IsExplainedIn rs refusal
  StopsAudit rs stop.Memory = Unit {0}

  -- it explains all of them, and each of its entries is of one of these stations
  abbrev pub IsWellIn : List Recording → Type 0
  IsWellIn rs = Each IsExplainedIn 0 rs × All (λ e. e.station < length rs) h

  -- the line of what comes of these recordings is put, or there was no memory
  abbrev pub LineEnds : List Recording → Change OutputTold → Status → Type 0
  LineEnds rs output status =
      (IsWellIn rs × PutsWith ended.Done (legal_line (length h) (replies_in rs)) output.before output.after status)
      ⊎ (((refusal : AuditRefusal) × RefusesBy room opening h IsExplainedIn rs refusal
      × PutsWith ended.Refused (audit_line refusal) output.before output.after status)
      ⊎ ((status ≡ ended.OutOfMemory) × output.Untouched))

  -- what the files told before those of the stations were read, and tell after
  module _ (names : List Named) (old new : FilesTold) (output : Change OutputTold) (status : Status) where
    -- they are read, and the line is put; or one was not read
    abbrev pub ReadsEnd : Type 0
    ReadsEnd =
        ((rs : List Recording) × Reads old names rs new × LineEnds rs output status)
        ⊎ (((status ≡ ended.ReadFault) × HasRisen old.reads new.reads × output.Untouched)
        ⊎ (((status ≡ ended.TooMuchInput) × (new.reads ≡ old.reads) × output.Untouched × HasLong old names new)
        ⊎ ((status ≡ ended.OutOfMemory) × (new.reads ≡ old.reads) × output.Untouched × ((new ≡ old) ⊎ HasFitting old names new))))

-- the first entry that is of none of so many stations, as its refusal
pub record IsUnseated (h : History) (count : ℕ) (refusal : AuditRefusal) : Type 0 where
  pub place : ℕ
  pub entry : Entry CutStep
  pub code_is : refusal.code ≡ A5
  pub seated : All (λ e. e.station < count) (take place h)
  pub entry_is : slice_get h place ≡ Some entry
  pub station_is : refusal.station ≡ entry.station
  pub number_is : refusal.number ≡ entry.number
  pub unseated : count ≤ entry.station

-- the number that is told has a line, a reply or an entry
abbrev pub IsNumbered : Station → History → Stop → Type 0
IsNumbered s h (session_stop.Reply number told) = (0 < number) × (number ≤ min (length s.lines.items) (length s.replies.items))
IsNumbered s h (session_stop.Unpaired number) = number ≤ min (length s.lines.items) (length s.replies.items) + 1
IsNumbered s h (session_stop.Untold place) = place < length h
IsNumbered s h session_stop.Memory = Unit {0}
