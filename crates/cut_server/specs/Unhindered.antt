-- When nothing hinders a command: its words are a command's, what it reads of files is told and accepted, no input has
-- more than 64 MiB, and no count of faults rises. It then ends with 0, or with 6 where memory ran out.
use Rattle.std.specs.Prelude.{◌≡◌, ◌≢◌, ℕ, ◌<◌, ◌≤◌, List, [], ◌∷◌, Option, Some, None, length}
use Rattle.std.specs.Option.{IsSomeAnd}
use Rattle.composables.specs.TrackState.{TrackState}
use Rattle.cut_steps.specs.CutSteps.{CutStep}
use Rattle.timecode12.specs.Numbers.{Counted}
use Rattle.timecode12.specs.declared.rate.SequenceRate.{SequenceRate}
use Rattle.room_core.specs.declared.entry.Entry.{Entry}
use Rattle.room_files.specs.Files.{Content, Untold, FilesTold}
use Rattle.room_halls.specs.Stations.{HallTold}
use Rattle.room_ports.specs.Counts.{HasRisen}
use Rattle.edl_events.specs.declared.event.Event.{Event}
use Rattle.edl_write.specs.declared.fault.ListFault.{ListFault}
use Rattle.edl_write.specs.declared.fault.ListFault.TheVariants.{Memory}
use Rattle.edl_write.specs.Refusals.{IsRefused}
use Rattle.otio_json.specs.declared.opening.Opening.{Opening}
use Rattle.command_words.specs.Commands.{Asked, RunPlain, RunDocument, Serve, Store, ListCut, PlayList, Import, Follow, Audit, Make}
use Rattle.command_files.specs.Ports.{Change, DiskTold, InputTold, OutputTold}
use Rattle.command_files.specs.Documents.{Describes}
use Rattle.command_files.specs.Journals.{HoldsJournal}
use Rattle.command_files.specs.Lists.{HoldsList}
use Rattle.list_commands.specs.Cuts.{NamerTold}
use Rattle.list_commands.specs.Imports.{HasNoDocument}
use Rattle.list_commands.specs.Points.{IsCutAt}
use Rattle.audit_command.specs.Explained.{AreLegal}
use Rattle.audit_command.specs.Reads.{HoldsText}
use Rattle.audit_command.specs.Recordings.{Recording, recording_of}
use Rattle.audit_command.specs.declared.record_names.TheConstants.{MAX_LINES, MAX_REPLIES}
use Rattle.command_words.specs.Records.{Named}
use Rattle.follow_command.specs.Accepted.{AcceptsStream}
use Rattle.station_sessions.specs.Outside.{Outside, most_input}
use Rattle.served_rooms.specs.Halls.{line_at}
use Rattle.stored_rooms.specs.KeptFiles.{IsAcceptedFile}
use Rattle.cut_server.specs.Runs.{both}

-- ---- inputs

-- its bytes are told, and are at most 64 MiB
abbrev pub IsWithin : Option (List ℕ) → Type 0
IsWithin left = IsSomeAnd left (λ bytes. length bytes ≤ most_input)

-- so are those of the line of each of these stations
abbrev pub AreWithin : ℕ → HallTold → Type 0
AreWithin stations hall = (station : ℕ) → station < stations → IsWithin (line_at hall station).left

-- ---- counts of faults

-- the count has not risen
abbrev pub IsStill : ℕ → ℕ → Type 0
IsStill before after = HasRisen before after → ⊥

-- neither the count of reads nor that of writes has
abbrev pub AreStill : Outside → Outside → Type 0
AreStill old new = IsStill old.reads new.reads × IsStill old.writes new.writes

-- ---- files

-- its bytes are told, and describe an opening
abbrev pub TellsDocument : Counted → Content → Type 0
TellsDocument counting content = (content ≢ Untold) × (o : Opening) × Describes counting content o

-- its bytes are told, and are a list
abbrev pub TellsList : SequenceRate → Content → Type 0
TellsList rate content = (content ≢ Untold) × (events : List Event) × HoldsList rate content events

-- its bytes are told, and are a list which has a document
abbrev pub TellsImport : Counted → Content → Type 0
TellsImport counting content = (content ≢ Untold)
    × (events : List Event) × HoldsList counting.rate content events × ((line : List ℕ) → HasNoDocument events counting line → ⊥)

-- for no reason have these tracks of a room no list; want of memory is none of theirs
abbrev pub FitOnList : Opening → List TrackState → NamerTold → Type 0
FitOnList o tracks namer =
    (fault : ListFault) → IsRefused o.table tracks o.counting o.start namer.rule namer.given fault → fault ≡ Memory

-- The document describes a room, the journal has a cut of it at the point, and the cut fits on a list. The journal is
-- told before the call and after it, and so when it was read.
pub record TellsCut (document : List ℕ) (counting : Counted) (journal : List ℕ) (point : ℕ) (namer : NamerTold)
    (files : Change FilesTold) : Type 0 where
  pub opening : Opening
  pub told : files.before.file document ≢ Untold
  pub described : Describes counting (files.before.file document) opening
  pub entries : List (Entry CutStep)
  pub holds : HoldsJournal (files.before.file journal) entries
  pub still_told : files.after.file journal ≢ Untold
  pub tracks : List TrackState
  pub cut : IsCutAt opening entries point tracks
  pub fits : FitOnList opening tracks namer

-- The document describes a room, and the kept file is one that goes on in it.
pub record TellsStore (document : List ℕ) (counting : Counted) (stations : ℕ) (journal : List ℕ) (files : Change FilesTold)
    (disk : Change DiskTold) : Type 0 where
  pub opening : Opening
  pub told : files.before.file document ≢ Untold
  pub described : Describes counting (files.before.file document) opening
  pub file : IsAcceptedFile opening stations journal disk.before disk.after

-- The document describes a room, and the input is a stream of replies that comes to a cut of it.
pub record TellsStream (document : List ℕ) (counting : Counted) (files : Change FilesTold) (input : Change InputTold) : Type 0 where
  pub opening : Opening
  pub told : files.before.file document ≢ Untold
  pub described : Describes counting (files.before.file document) opening
  pub accepted : AcceptsStream opening input.before.left

-- Two files hold what was recorded of a station, before the call and after it, and none is too long.
pub record HoldsRecord (n : Named) (r : Recording) (files : Change FilesTold) : Type 0 where
  pub sent : List ℕ
  pub got : List ℕ
  pub lines : HoldsText (files.before.file n.lines) MAX_LINES sent
  pub replies : HoldsText (files.before.file n.replies) MAX_REPLIES got
  pub lines_told : files.after.file n.lines ≢ Untold
  pub replies_told : files.after.file n.replies ≢ Untold
  pub recording_is : r ≡ recording_of sent got n.cut

abbrev pub HoldRecords : List Named → List Recording → Change FilesTold → Type 0
HoldRecords [] [] files = Unit {0}
HoldRecords [] (r ∷ rs) files = ⊥
HoldRecords (n ∷ ns) [] files = ⊥
HoldRecords (n ∷ ns) (r ∷ rs) files = HoldsRecord n r files × HoldRecords ns rs files

-- The document describes a room, the journal is one of it, and explains what was recorded of its stations.
pub record TellsAudit (document : List ℕ) (counting : Counted) (journal : List ℕ) (names : List Named) (files : Change FilesTold) : Type 0 where
  pub opening : Opening
  pub told : files.before.file document ≢ Untold
  pub described : Describes counting (files.before.file document) opening
  pub entries : List (Entry CutStep)
  pub holds : HoldsJournal (files.before.file journal) entries
  pub still_told : files.after.file journal ≢ Untold
  pub recordings : List Recording
  pub recorded : HoldRecords names recordings files
  pub legal : AreLegal opening entries recordings

-- ---- a command

-- by what its files, its disk, its input, its output and its hall told before and tell after, and by the namer that it was
-- handed
module _ (files : Change FilesTold) (disk : Change DiskTold) (input : Change InputTold) (output : Change OutputTold) (hall : Change HallTold)
    (namer : NamerTold) where
  -- no count of faults has risen
  pub record NothingFails : Type 0 where
    pub reads : IsStill files.before.reads files.after.reads
    pub writes : IsStill files.before.writes files.after.writes
    pub disks : IsStill disk.before.faults disk.after.faults
    pub streams : AreStill (both input.before output.before) (both input.after output.after)
    pub calls : IsStill hall.before.faults hall.after.faults
    pub lines : (station : ℕ) → AreStill (line_at hall.before station) (line_at hall.after station)

  -- what the command reads is accepted, and not too long
  abbrev pub IsAccepted : Option Asked → Type 0
  IsAccepted None = ⊥
  IsAccepted (Some (RunPlain tracks reels)) = IsWithin input.before.left
  IsAccepted (Some (RunDocument name counting)) =
      TellsDocument counting (files.before.file name) × IsWithin input.before.left
  IsAccepted (Some (Serve name counting stations address journal)) =
      TellsDocument counting (files.before.file name) × AreWithin stations hall.before
  IsAccepted (Some (Store name counting stations address journal)) =
      TellsStore name counting stations journal files disk × AreWithin stations hall.before
  IsAccepted (Some (ListCut document counting journal point)) =
      TellsCut document counting journal point namer files
  IsAccepted (Some (PlayList name rate)) = TellsList rate (files.before.file name)
  IsAccepted (Some (Import name counting)) = TellsImport counting (files.before.file name)
  IsAccepted (Some (Follow document counting)) = TellsStream document counting files input
  IsAccepted (Some (Audit document counting journal records)) = TellsAudit document counting journal records files
  -- it reads nothing
  IsAccepted (Some (Make number count)) = Unit {0}

  abbrev pub IsUnhindered : Option Asked → Type 0
  IsUnhindered asked = IsAccepted asked × NothingFails
