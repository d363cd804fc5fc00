-- The list of the cut at a point of a journal: the document and the journal are read, the entries before the point are
-- done, and the list of what they come to is put on the output.
use Rattle.std.specs.Prelude.{◌≡◌, ℕ, ◌<◌, ◌≤◌, ◌⊎◌, List, Some, length, take, codes}
use Rattle.cut_steps.specs.CutSteps.{CutStep, KeptTrack, stepping, fresh_tracks}
use Rattle.composables.specs.TrackState.{TrackState}
use Rattle.take_back.specs.Parts.{nows}
use Rattle.timecode12.specs.Numbers.{Counted}
use Rattle.room_files.specs.Files.{FilesTold, FitsIn}
use Rattle.room_core.specs.declared.entry.Entry.{Entry}
use Rattle.room_core.specs.History.{replay}
use Rattle.room_core.specs.Whole.{whole}
use Rattle.history_points.specs.Replays.{IsFirstRefused}
use Rattle.otio_json.specs.declared.opening.Opening.{Opening}
use Rattle.command_files.specs.declared.status.Status.{Status}
use Rattle.command_files.specs.declared.status.Status.TheVariants.{Refused, OutOfMemory}
use Rattle.command_files.specs.Ports.{Change, OutputTold}
use Rattle.command_files.specs.Texts.{PutsWith, refusal_text}
use Rattle.command_files.specs.declared.documents.TheConstants.{MAX_DOCUMENT}
use Rattle.journal_text.specs.declared.journal_reading.TheConstants.{MAX_JOURNAL}
use Rattle.command_files.specs.Unopened.{AreQuiet, EndsUnopened, OnlyRead}
use Rattle.command_files.specs.Documents.{Describes, IsDocumentRefused, document_line}
use Rattle.command_files.specs.Journals.{HoldsJournal, IsJournalRefused, journal_line}
use Rattle.list_commands.specs.Cuts.{CutEnds, NamerTold}

-- these are the tracks after the first entries of a room's journal
pub record IsCutAt (o : Opening) (entries : List (Entry CutStep)) (point : ℕ) (tracks : List TrackState) : Type 0 where
  pub within : point ≤ length entries
  pub kept : List KeptTrack
  pub comes : replay (whole (stepping o.table)) (fresh_tracks o.tracks) (take point entries) ≡ Some kept
  pub tracks_are : tracks ≡ nows kept

-- Why a room's journal has no cut at a point, with the code and the number that are told: it has fewer entries, or one of
-- those before the point does not apply where it stands.
abbrev pub HasFewer : List (Entry CutStep) → ℕ → List ℕ → ℕ → Type 0
HasFewer entries point code number = (length entries < point) × (code ≡ codes "H5") × (number ≡ length entries)

abbrev pub DoesNotApply : Opening → List (Entry CutStep) → ℕ → List ℕ → ℕ → Type 0
DoesNotApply o entries point code number =
    (point ≤ length entries) × IsFirstRefused (stepping o.table) (fresh_tracks o.tracks) entries point number × (code ≡ codes "H3")

-- the journal of a room that is opened so, and the namer that the reels are named by
module _ (o : Opening) (entries : List (Entry CutStep)) (point : ℕ) (namer : NamerTold) (output : Change OutputTold) (status : Status) where
  -- it has a cut at the point
  pub record CutsAt : Type 0 where
    pub tracks : List TrackState
    pub cut : IsCutAt o entries point tracks
    pub ends : CutEnds o.table tracks o.counting o.start namer output status

  -- it has none, and the line says why
  pub record RefusesPoint : Type 0 where
    pub code : List ℕ
    pub number : ℕ
    pub why : HasFewer entries point code number ⊎ DoesNotApply o entries point code number
    pub put : PutsWith Refused (refusal_text code number) output.before output.after status

  abbrev pub PointEnds : Type 0
  PointEnds = CutsAt ⊎ (RefusesPoint ⊎ ((status ≡ OutOfMemory) × output.Untouched))

-- the journal in the file of this name, where the files told this before, and tell that after
module _ (o : Opening) (journal : List ℕ) (point : ℕ) (namer : NamerTold)
    (old new : FilesTold) (output : Change OutputTold) (status : Status) where
  pub record OpensJournal : Type 0 where
    pub entries : List (Entry CutStep)
    pub holds : HoldsJournal (old.file journal) entries
    pub quiet : new.reads ≡ old.reads
    pub ends : PointEnds o entries point namer output status

  abbrev pub JournalEnds : Type 0
  JournalEnds = OnlyRead old new
      × (OpensJournal ⊎ EndsUnopened old new output (IsJournalRefused (old.file journal)) journal_line (FitsIn (old.file journal) MAX_JOURNAL) status)

-- the document in the file of this name, whose frames are counted so, and the journal of its room
module _ (document : List ℕ) (counting : Counted) (journal : List ℕ) (point : ℕ) (namer : NamerTold)
    (files : Change FilesTold) (output : Change OutputTold) (status : Status) where
  -- The document describes a room, and then the journal is read. Between the two the files tell this.
  pub record OpensDocument : Type 0 where
    pub opening : Opening
    pub described : Describes counting (files.before.file document) opening
    pub between : FilesTold
    pub quiet : AreQuiet files.before between
    pub ends : JournalEnds opening journal point namer between files.after output status

  abbrev pub ListEnds : Type 0
  ListEnds = OnlyRead files.before files.after
      × (OpensDocument ⊎ EndsUnopened files.before files.after output (IsDocumentRefused counting (files.before.file document)) document_line (FitsIn (files.before.file document) MAX_DOCUMENT) status)
