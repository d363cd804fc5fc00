-- How a run of the program ends, by its status: what was read and what stands on the output, and that one legal history
-- tells the replies. Each relation by status has a case for each status with which it may end, and holds at no other.
use Rattle.std.specs.Prelude.{◌≡◌, ℕ, ◌⊎◌, List, [], ◌++◌, Option, Some, None, codes}
use Rattle.room_files.specs.Files.{FilesTold, FitsIn}
use Rattle.room_halls.specs.Stations.{HallTold}
use Rattle.room_ports.specs.Bytes.{Takes, TakesFront}
use Rattle.line_words.specs.Lines.{Line as InputLine}
use Rattle.otio_json.specs.Openings.{plain_opening}
use Rattle.otio_json.specs.declared.opening.Opening.{Opening}
use Rattle.journal_text.specs.Journals.{journal_text_of}
use Rattle.timecode12.specs.Numbers.{Counted}
use Rattle.command_words.specs.Commands.{Asked, RunPlain, RunDocument, Serve, Store, ListCut, PlayList, Import, Follow, Audit, Make}
use Rattle.command_files.specs.Ports.{Change, DiskTold, InputTold, OutputTold}
use Rattle.command_files.specs.Texts.{PutsWith}
use Rattle.command_files.specs.declared.documents.TheConstants.{MAX_DOCUMENT}
use Rattle.command_files.specs.Unopened.{AreQuiet, EndsUnopened, OnlyRead}
use Rattle.command_files.specs.Documents.{Describes, IsDocumentRefused, document_line}
use Rattle.list_commands.specs.Cuts.{NamerTold}
use Rattle.list_commands.specs.Imports.{ImportEnds}
use Rattle.list_commands.specs.Points.{ListEnds}
use Rattle.list_commands.specs.Tapes.{TapeEnds}
use Rattle.audit_command.specs.Audits.{AuditEnds}
use Rattle.follow_command.specs.Follows.{FollowEnds}
use Rattle.made_sessions.specs.Sessions.{MakeEnds}
use Rattle.station_sessions.specs.declared.serve.End.TheVariants as end
use Rattle.command_files.specs.declared.status.Status.{Status}
use Rattle.command_files.specs.declared.status.Status.TheVariants.{Done, ReadFault, WriteFault, NoCommand, OutOfMemory, TooMuchInput}
use Rattle.served_rooms.specs.Journals.{IsJournalOf}
use Rattle.served_rooms.specs.Halls.{FileEnds, HallEnds, NeverFails}
use Rattle.stored_rooms.specs.Stored.{StoredEnds}
use Rattle.station_sessions.specs.Outside.{Outside, outside, NoFault, WriteFailed, AtEnd, TakesThenFront}
use Rattle.station_sessions.specs.Rooms.{History, RoomTranscript}
use Rattle.station_sessions.specs.Serving.{SessionEnds}
use Rattle.command_files.specs.Statuses.{number_of}
use Rattle.station_sessions.specs.Transcript.{new_room, sent}

-- what an input and an output tell together
abbrev pub both : InputTold → OutputTold → Outside
both input output = outside input.left input.faults output.taken output.faults

-- the journal of a room with so many stations tells the replies to the lines of one of them
pub record IsTold (o : Opening) (stations : ℕ) (h : History) (station : ℕ) (lines : List InputLine) (replies : List (List ℕ)) : Type 0 where
  pub journal : IsJournalOf o stations h
  pub transcript : RoomTranscript o h new_room station lines replies

-- there are a journal of one station and replies to these lines that it tells, of which this holds
abbrev pub TellsOne : Opening → List InputLine → (History → List (List ℕ) → Type 0) → Type 0
TellsOne o lines Holds = (h : History) × (replies : List (List ℕ)) × IsTold o 1 h 0 lines replies × Holds h replies

-- the same, where it holds of the replies
abbrev pub Tells : Opening → List InputLine → (List (List ℕ) → Type 0) → Type 0
Tells o lines Holds = TellsOne o lines (λ h replies. Holds replies)

-- No reply of a run waits for its journal to be kept, so each line that was read whole has its reply.
abbrev pub NoneBreaks : List InputLine → InputLine → (List (List ℕ) → Type 0) → Type 0
NoneBreaks lines line Holds = ⊥

-- the replies, and then the journal's text
abbrev pub IsWhole : Option (List ℕ) → Option (List ℕ) → History → List (List ℕ) → Type 0
IsWhole before after h replies = Takes before after (sent replies ++ journal_text_of h)

-- the replies, and then a front of the journal's text
abbrev pub JournalIsCut : Option (List ℕ) → Option (List ℕ) → History → List (List ℕ) → Type 0
JournalIsCut before after h replies = TakesThenFront before after (sent replies) (journal_text_of h)

-- the journal's text is put behind the replies
module _ (h : History) (old new : Outside) where
  abbrev pub JournalEnds : Status → Type 0
  JournalEnds Done = NoFault old new × (new.left ≡ old.left) × Takes old.taken new.taken (journal_text_of h)
  JournalEnds WriteFault = WriteFailed old new × (new.left ≡ old.left) × TakesFront old.taken new.taken (journal_text_of h)
  JournalEnds other = ⊥

-- a run of one station from this opening, where `Untouched` says that input and output are as they were
module _ (o : Opening) (old new : Outside) (Untouched : Type 0) where
  abbrev pub RunEnds : Status → Type 0
  -- the input was read to its end, each line was answered, and all was written
  RunEnds Done = NoFault old new × AtEnd old new (λ lines. TellsOne o lines (IsWhole old.taken new.taken))
  -- the lines that ended among the bytes got are answered
  RunEnds ReadFault = SessionEnds (Tells o) NoneBreaks NeverFails old new end.ReadFault
  -- a reply is cut, or the journal's text behind all replies
  RunEnds WriteFault = SessionEnds (Tells o) NoneBreaks NeverFails old new end.WriteFault
      ⊎ (WriteFailed old new × AtEnd old new (λ lines. TellsOne o lines (JournalIsCut old.taken new.taken)))
  -- nothing was begun
  RunEnds OutOfMemory = Untouched
  -- the lines that ended among the first 64 MiB are answered
  RunEnds TooMuchInput = SessionEnds (Tells o) NoneBreaks NeverFails old new end.TooMuchInput
  RunEnds other = ⊥

-- the same over the program's input and output
abbrev pub RunsOver : Opening → Change InputTold → Change OutputTold → Status → Type 0
RunsOver o input output =
    RunEnds o (both input.before output.before) (both input.after output.after) (input.Untouched × output.Untouched)

-- a command over the document in the file of this name, whose frames are counted so
module _ (name : List ℕ) (counting : Counted) (files : Change FilesTold) (output : Change OutputTold) where
  -- the document is refused, or its file was not read, or there was no memory: no room was opened
  abbrev pub OpensNoRoom : Status → Type 0
  OpensNoRoom status = EndsUnopened files.before files.after output (IsDocumentRefused counting (files.before.file name)) document_line (FitsIn (files.before.file name) MAX_DOCUMENT) status

  -- the document describes an opening, of which the run is
  pub record RunsDocument (input : Change InputTold) (status : Status) : Type 0 where
    pub opening : Opening
    pub described : Describes counting (files.before.file name) opening
    pub quiet : files.after.reads ≡ files.before.reads
    pub ends : RunsOver opening input output status

  abbrev pub DocumentEnds : Change InputTold → Status → Type 0
  DocumentEnds input status = OnlyRead files.before files.after × (RunsDocument input status ⊎ (input.Untouched × OpensNoRoom status))

  -- So many stations are served over the lines of a hall at this address, and the journal is kept in a file.
  module _ (stations : ℕ) (address journal : List ℕ) (hall : Change HallTold) where
    -- the document describes an opening, in whose room they are served
    pub record ServesDocument (status : Status) : Type 0 where
      pub opening : Opening
      pub described : Describes counting (files.before.file name) opening
      pub unwritten : output.Untouched
      pub ends : HallEnds opening [] stations address NeverFails (λ h held status. FileEnds journal files.before files.after h status)
          (AreQuiet files.before files.after) hall.before hall.after status

    -- else no station is seated
    abbrev pub ServeEnds : Status → Type 0
    ServeEnds status = ServesDocument status ⊎ (hall.Untouched × OnlyRead files.before files.after × OpensNoRoom status)

    -- So many stations are served over the lines of a hall at this address, and the journal is kept on the disk, in the file
    -- of that name, as it grows.
    module _ (disk : Change DiskTold) where
      -- the document describes an opening, in whose room they are served
      pub record StoresDocument (status : Status) : Type 0 where
        pub opening : Opening
        pub described : Describes counting (files.before.file name) opening
        pub quiet : files.after.reads ≡ files.before.reads
        pub ends : StoredEnds opening stations address journal output hall disk.before disk.after status

      -- else the disk is as it was, and no station is seated
      abbrev pub StoreEnds : Status → Type 0
      StoreEnds status = OnlyRead files.before files.after × (StoresDocument status ⊎ (hall.Untouched × disk.Untouched × OpensNoRoom status))

-- how the program ends, by what it was asked for: what its files, its disk, its input, its output and its hall told before
-- and tell after, and by the namer that it was handed
module _ (files : Change FilesTold) (disk : Change DiskTold) (input : Change InputTold) (output : Change OutputTold) (hall : Change HallTold) (namer : NamerTold) where
  abbrev pub CommandEnds : Option Asked → Status → Type 0
  CommandEnds None status = files.Untouched × disk.Untouched × input.Untouched × hall.Untouched
      × PutsWith NoCommand (codes "refused words\n") output.before output.after status
  CommandEnds (Some (RunPlain tracks reels)) status =
      files.Untouched × disk.Untouched × hall.Untouched × RunsOver (plain_opening tracks reels) input output status
  CommandEnds (Some (RunDocument name counting)) status = disk.Untouched × hall.Untouched × DocumentEnds name counting files output input status
  CommandEnds (Some (Serve name counting stations address journal)) status =
      disk.Untouched × input.Untouched × ServeEnds name counting files output stations address journal hall status
  CommandEnds (Some (Store name counting stations address journal)) status =
      input.Untouched × StoreEnds name counting files output stations address journal hall disk status
  CommandEnds (Some (ListCut document counting journal point)) status =
      disk.Untouched × input.Untouched × hall.Untouched × ListEnds document counting journal point namer files output status
  CommandEnds (Some (PlayList name rate)) status = disk.Untouched × input.Untouched × hall.Untouched × TapeEnds name rate files output status
  CommandEnds (Some (Import name counting)) status = disk.Untouched × input.Untouched × hall.Untouched × ImportEnds name counting files output status
  CommandEnds (Some (Follow document counting)) status =
      disk.Untouched × hall.Untouched × FollowEnds document counting files input output status
  CommandEnds (Some (Audit document counting journal records)) status =
      disk.Untouched × input.Untouched × hall.Untouched × AuditEnds document counting journal records files output status
  CommandEnds (Some (Make number count)) status =
      files.Untouched × disk.Untouched × input.Untouched × hall.Untouched × MakeEnds number count output status

-- it ends with the number of a status that it may have
abbrev pub EndsWith : ℕ → (Status → Type 0) → Type 0
EndsWith number Ends = (status : Status) × (number ≡ number_of status) × Ends status
