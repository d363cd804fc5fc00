-- How the command ends: the recorded sessions are explained, or the first refusal, or neither.
use Rattle.std.specs.Prelude.{◌≡◌, ℕ, ◌⊎◌, List, codes, length}
use Rattle.command_files.specs.Documents.{Describes, IsDocumentRefused, document_line}
use Rattle.command_files.specs.Journals.{HoldsJournal, IsJournalRefused, journal_line}
use Rattle.command_files.specs.Ports.{Change, OutputTold}
use Rattle.command_files.specs.Texts.{PutsWith, refusal_text}
use Rattle.command_files.specs.Unopened.{AreQuiet, EndsUnopened, OnlyRead}
use Rattle.command_files.specs.declared.documents.TheConstants.{MAX_DOCUMENT}
use Rattle.command_files.specs.declared.status.Status.{Status}
use Rattle.command_files.specs.declared.status.Status.TheVariants as ended
use Rattle.command_words.specs.Records.{Named}
use Rattle.cut_mirror.specs.Walks.{IsUnfit}
use Rattle.cut_steps.specs.CutSteps.{fresh_tracks, stepping}
use Rattle.journal_text.specs.declared.journal_reading.TheConstants.{MAX_JOURNAL}
use Rattle.otio_json.specs.declared.opening.Opening.{Opening}
use Rattle.room_files.specs.Files.{FilesTold, FitsIn}
use Rattle.room_ports.specs.Counts.{HasRisen}
use Rattle.station_sessions.specs.Rooms.{History, IsLegalIn}
use Rattle.timecode12.specs.Numbers.{Counted}
use Rattle.audit_command.specs.Explained.{AreLegal}
use Rattle.audit_command.specs.Reads.{HasFitting, HasLong, Reads}
use Rattle.audit_command.specs.Recordings.{Recording, replies_in}
use Rattle.audit_command.specs.RefusalLines.{audit_line, legal_line}
use Rattle.audit_command.specs.Refused.{RefusesAudit}
use Rattle.audit_command.specs.declared.refusal.AuditRefusal.{AuditRefusal}

-- the room that is opened so, its journal, and what the files told before the stations' files are read, and tell after
module _ (o : Opening) (h : History) (names : List Named) (old new : FilesTold) (output : Change OutputTold) (status : Status) where
  -- What was recorded is explained, and the line says of how many entries and replies.
  pub record AuditsWell (rs : List Recording) : Type 0 where
    pub legal : AreLegal o h rs
    pub put : PutsWith ended.Done (legal_line (length h) (replies_in rs)) output.before output.after status

  -- It is refused, and the line says why.
  pub record RefusesRecords (rs : List Recording) : Type 0 where
    pub refusal : AuditRefusal
    pub legal : IsLegalIn o h
    pub refused : RefusesAudit o h rs refusal
    pub put : PutsWith ended.Refused (audit_line refusal) output.before output.after status

  -- An entry of the journal does not apply, and the line says which is the first. No file of a station was read.
  pub record RefusesHistory : Type 0 where
    pub place : ℕ
    pub unfit : IsUnfit (stepping o.table) (fresh_tracks o.tracks) h place
    pub same : new ≡ old
    pub put : PutsWith ended.Refused (refusal_text (codes "H3") place) output.before output.after status

  -- all files of the stations are read
  pub record OpensRecords : Type 0 where
    pub recordings : List Recording
    pub reads : Reads old names recordings new
    pub ends : AuditsWell recordings ⊎ RefusesRecords recordings

  -- a read of one of them failed
  abbrev pub IsUnread : Type 0
  IsUnread = IsLegalIn o h × (status ≡ ended.ReadFault) × HasRisen old.reads new.reads × output.Untouched

  -- one of them has too many bytes
  abbrev pub HasTooMuch : Type 0
  HasTooMuch = IsLegalIn o h × (status ≡ ended.TooMuchInput) × (new.reads ≡ old.reads) × output.Untouched × HasLong old names new

  -- there was no memory before a file of a station was read, for one of them that has not too many bytes, or once all were read
  abbrev pub IsShort : Type 0
  IsShort = (new ≡ old) ⊎ (IsLegalIn o h × (HasFitting old names new ⊎ ((rs : List Recording) × Reads old names rs new)))

  abbrev pub HasNoMemory : Type 0
  HasNoMemory = (status ≡ ended.OutOfMemory) × (new.reads ≡ old.reads) × output.Untouched × IsShort

  abbrev pub RecordsEnd : Type 0
  RecordsEnd = OnlyRead old new × (RefusesHistory ⊎ (OpensRecords ⊎ (IsUnread ⊎ (HasTooMuch ⊎ HasNoMemory))))

-- the room that is opened so, and the journal in the file of this name
module _ (o : Opening) (journal : List ℕ) (names : List Named) (old new : FilesTold) (output : Change OutputTold) (status : Status) where
  -- The file holds a journal. Before the stations' files are read the files tell this.
  pub record OpensJournal : Type 0 where
    pub entries : History
    pub holds : HoldsJournal (old.file journal) entries
    pub between : FilesTold
    pub quiet : AreQuiet old between
    pub ends : RecordsEnd o entries names between new output status

  abbrev pub JournalEnds : Type 0
  JournalEnds = OnlyRead old new
      × (OpensJournal ⊎ EndsUnopened old new output (IsJournalRefused (old.file journal)) journal_line (FitsIn (old.file journal) MAX_JOURNAL) status)

-- the document in the file of this name, whose frames are counted so, the journal of its room, and its stations
module _ (document : List ℕ) (counting : Counted) (journal : List ℕ) (names : List Named) (files : Change FilesTold)
    (output : Change OutputTold) (status : Status) where
  -- The document describes a room, and then the journal is read. Between the two the files tell this.
  pub record OpensDocument : Type 0 where
    pub opening : Opening
    pub described : Describes counting (files.before.file document) opening
    pub between : FilesTold
    pub quiet : AreQuiet files.before between
    pub ends : JournalEnds opening journal names between files.after output status

  abbrev pub AuditEnds : Type 0
  AuditEnds = OnlyRead files.before files.after
      × (OpensDocument ⊎ EndsUnopened files.before files.after output (IsDocumentRefused counting (files.before.file document)) document_line (FitsIn (files.before.file document) MAX_DOCUMENT) status)

-- ---- sessions that are explained

-- no recorded sessions that are explained are refused
abbrev pub LegalSessionsAreNotRefused : Type 0
LegalSessionsAreNotRefused =
    (o : Opening) (h : History) (rs : List Recording)
    → AreLegal o h rs → ((place : ℕ) → IsUnfit (stepping o.table) (fresh_tracks o.tracks) h place → ⊥) × ((refusal : AuditRefusal) → RefusesAudit o h rs refusal → ⊥)
