-- A room of several stations, each over its line of a hall, and what is kept of its journal.
use Rattle.std.specs.Prelude.{◌≡◌, ℕ, ◌≤◌, ◌⊎◌, List, [], ◌∷◌, Some, length, map, slice_get}
use Rattle.line_words.specs.Lines.{Line as InputLine}
use Rattle.room_files.specs.Files.{FilesTold, IsWhole, OthersUnchanged}
use Rattle.room_halls.specs.Stations.{HallTold, LineTold, OpensAt}
use Rattle.room_ports.specs.Counts.{HasRisen}
use Rattle.otio_json.specs.declared.opening.Opening.{Opening}
use Rattle.journal_text.specs.Journals.{journal_text_of}
use Rattle.station_sessions.specs.declared.serve.End.{End}
use Rattle.station_sessions.specs.declared.serve.End.TheVariants as end
use Rattle.command_files.specs.declared.status.Status.{Status}
use Rattle.command_files.specs.declared.status.Status.TheVariants.{Done, ReadFault, WriteFault, NotSeated, OutOfMemory, TooMuchInput, DiskFault}
use Rattle.edit_journal.specs.Seats.{Begins}
use Rattle.room_keepers.specs.declared.fault.KeepFault.{KeepFault}
use Rattle.station_sessions.specs.Outside.{Outside, outside}
use Rattle.station_sessions.specs.Rooms.{History, RoomTranscriptTo, RoomTranscriptBut}
use Rattle.station_sessions.specs.Serving.{SessionEnds}
use Rattle.served_rooms.specs.Origins.{origin_of}
use Rattle.served_rooms.specs.Journals.{IsJournalOf}

-- what a line tells
abbrev pub line_of : LineTold → Outside
line_of l = outside l.left l.read_faults l.taken l.write_faults

-- what a hall tells of the line of a station
abbrev pub line_at : HallTold → ℕ → Outside
line_at hall station = line_of (hall.station station).line

-- no line was read or written
abbrev pub Unheard : HallTold → HallTold → Type 0
Unheard before after = (station : ℕ) → line_at after station ≡ line_at before station

-- this journal, which goes on from the entries that were kept, tells the replies of a station to these lines, of which
-- this holds; they tell of no more entries than so many
abbrev pub TellsStation : Opening → History → History → ℕ → ℕ → List InputLine → (List (List ℕ) → Type 0) → Type 0
TellsStation o kept h held station lines Taken =
    (replies : List (List ℕ)) × (told : ℕ) × RoomTranscriptTo o h (origin_of kept station) station lines replies told × (told ≤ held) × Taken replies

-- the same, and one line more, whose reply was not sent
abbrev pub TellsStationBut : Opening → History → History → ℕ → ℕ → List InputLine → InputLine → (List (List ℕ) → Type 0) → Type 0
TellsStationBut o kept h held station lines line Taken =
    (replies : List (List ℕ)) × (told : ℕ) × RoomTranscriptBut o h (origin_of kept station) station lines replies told line × (told ≤ held)
    × Taken replies

-- One journal, which goes on from the entries that were kept, tells what each of these stations was answered over its line,
-- whatever the others sent meanwhile; the session of each ended so, and was told of no more than so many entries; and no
-- other line was read or written. `Fails` says what is known where the journal could not be kept.
pub record AreServed (o : Opening) (kept : History) (stations : ℕ) (h : History) (held : ℕ) (Fails : KeepFault → Type 0) (before after : HallTold) (ends : List End) : Type 0 where
  pub journal : IsJournalOf o stations h
  pub begins : Begins h kept
  pub count : length ends ≡ stations
  pub each : (s : ℕ) (e : End) → slice_get ends s ≡ Some e
      → SessionEnds (TellsStation o kept h held s) (TellsStationBut o kept h held s) Fails (line_at before s) (line_at after s) e
  pub others : (s : ℕ) → stations ≤ s → line_at after s ≡ line_at before s

-- the status that a session's end comes to
abbrev pub status_of : End → Status
status_of end.Ended = Done
status_of end.ReadFault = ReadFault
status_of end.WriteFault = WriteFault
status_of end.TooMuchInput = TooMuchInput
status_of end.DiskFault = DiskFault
status_of end.KeepMemory = OutOfMemory

-- this status, or the next where this one is 0
abbrev pub or_next : Status → Status → Status
or_next Done next = next
or_next fault next = fault

-- the first of these that is not 0
abbrev pub first_fault : List Status → Status
first_fault [] = Done
first_fault (s ∷ ss) = or_next s (first_fault ss)

-- The sessions of so many stations have ended, and the room is closed. The status of them all is that of the lowest station
-- whose status is not 0.
pub record SessionsEnd (o : Opening) (kept : History) (stations : ℕ) (h : History) (held : ℕ) (Fails : KeepFault → Type 0) (before after : HallTold) (status : Status) : Type 0 where
  pub ends : List End
  pub served : AreServed o kept stations h held Fails before after ends
  pub status_is : status ≡ first_fault (map status_of ends)
  pub quiet : after.faults ≡ before.faults

-- The journal's text is put into the file of this name, whole, or the write failed. There is no third case: its memory was
-- taken before the hall was opened.
module _ (name : List ℕ) (before after : FilesTold) (h : History) where
  abbrev pub FileEnds : Status → Type 0
  FileEnds Done = IsWhole (after.file name) (journal_text_of h) × OthersUnchanged name before.file after.file
      × (after.reads ≡ before.reads) × (after.writes ≡ before.writes)
  FileEnds WriteFault = OthersUnchanged name before.file after.file × (after.reads ≡ before.reads) × HasRisen before.writes after.writes
  FileEnds other = ⊥

-- No line was read or written; the hall may have been opened, at this address alone.
pub record IsUnserved (address : List ℕ) (old new : HallTold) : Type 0 where
  pub opened : (new.opened ≡ old.opened) ⊎ OpensAt old.opened new.opened address
  pub unheard : Unheard old new

-- no session was begun
abbrev pub EndsUnserved : List ℕ → HallTold → HallTold → Status → Type 0
-- the hall was not opened, or a station not seated
EndsUnserved address old new NotSeated = HasRisen old.faults new.faults × IsUnserved address old new
EndsUnserved address old new OutOfMemory = (new.faults ≡ old.faults) × IsUnserved address old new
EndsUnserved address old new other = ⊥

-- So many stations are served in a room that goes on from the entries that were kept, over the lines of a hall that is
-- opened at one address. `Fails` says what is known where the journal could not be kept while they were served; `Keeps` how
-- keeping it ends by its status, where replies told of so many of its entries; and `Unkept` that nothing was kept.
module _ (o : Opening) (kept : History) (stations : ℕ) (address : List ℕ) (Fails : KeepFault → Type 0) (Keeps : History → ℕ → Status → Type 0)
    (Unkept : Type 0) (old new : HallTold) where
  -- Each session has ended, and one journal tells them all and is kept, whatever the status of the sessions is: `keeps`
  -- holds for each of them. Where that status is not 0 it hides the status of keeping the journal.
  pub record HasServed (status : Status) : Type 0 where
    pub journal : History
    pub held : ℕ
    pub of_sessions : Status
    pub of_keeping : Status
    pub opened : OpensAt old.opened new.opened address
    pub sessions : SessionsEnd o kept stations journal held Fails old new of_sessions
    pub keeps : Keeps journal held of_keeping
    pub status_is : status ≡ or_next of_sessions of_keeping

  abbrev pub HallEnds : Status → Type 0
  HallEnds status = HasServed status ⊎ (Unkept × EndsUnserved address old new status)

-- nothing is kept while stations are served, so that does not fail
abbrev pub NeverFails : KeepFault → Type 0
NeverFails fault = ⊥
