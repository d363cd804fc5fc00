-- The files that were recorded, read one after another.
use Rattle.std.specs.Prelude.{◌≡◌, ℕ, ◌≤◌, ◌⊎◌, List, [], ◌∷◌, Some, length, take, slice_get}
use Rattle.command_files.specs.Unopened.{AreQuiet, OnlyRead}
use Rattle.command_words.specs.Records.{Named}
use Rattle.room_files.specs.Files.{Content, FilesTold, FitsIn, IsLonger, IsWhole}
use Rattle.room_files.specs.declared.files.FileFault.{FileFault}
use Rattle.room_files.specs.declared.files.FileFault.TheVariants.{Failed, TooLarge, Memory}
use Rattle.room_ports.specs.Counts.{HasRisen}
use Rattle.audit_command.specs.Recordings.{Recording, recording_of}
use Rattle.audit_command.specs.declared.record_names.TheConstants.{MAX_LINES, MAX_REPLIES}

-- a file of these contents holds this text, which is not too long
abbrev pub HoldsText : Content → ℕ → List ℕ → Type 0
HoldsText content most text = IsWhole content text × (length text ≤ most)

-- The two files of a station are read. Between the two the files tell this.
pub record ReadsRecording (old : FilesTold) (n : Named) (r : Recording) (new : FilesTold) : Type 0 where
  pub sent : List ℕ
  pub got : List ℕ
  pub between : FilesTold
  pub lines : HoldsText (old.file n.lines) MAX_LINES sent
  pub first : AreQuiet old between
  pub replies : HoldsText (between.file n.replies) MAX_REPLIES got
  pub second : AreQuiet between new
  pub recording_is : r ≡ recording_of sent got n.cut

-- and those of all stations
abbrev pub Reads : FilesTold → List Named → List Recording → FilesTold → Type 0
Reads old [] [] new = new ≡ old
Reads old [] (r ∷ rs) new = ⊥
Reads old (n ∷ ns) [] new = ⊥
Reads old (n ∷ ns) (r ∷ rs) new = (between : FilesTold) × ReadsRecording old n r between × Reads between ns rs new

-- the replies of a station are so, beside the most bytes that are read of them, and its lines were read before
pub record StopsAtReplies (So : Content → ℕ → Type 0) (old : FilesTold) (n : Named) (new : FilesTold) : Type 0 where
  pub sent : List ℕ
  pub between : FilesTold
  pub lines : HoldsText (old.file n.lines) MAX_LINES sent
  pub first : AreQuiet old between
  pub replies : So (between.file n.replies) MAX_REPLIES
  pub rest : OnlyRead between new

-- one of the two files of a station is so; the last of these is what the files tell after it was read
abbrev pub StopsAtOne : (Content → ℕ → Type 0) → FilesTold → Named → FilesTold → Type 0
StopsAtOne So old n new = So (old.file n.lines) MAX_LINES ⊎ StopsAtReplies So old n new

-- one of the files is so, and those before it were read
pub record StopsAt (So : Content → ℕ → Type 0) (old : FilesTold) (ns : List Named) (new : FilesTold) : Type 0 where
  pub count : ℕ
  pub rs : List Recording
  pub there : FilesTold
  pub n : Named
  pub read : Reads old (take count ns) rs there
  pub at : slice_get ns count ≡ Some n
  pub stop : StopsAtOne So there n new
  pub rest : OnlyRead there new

-- one of them has too many bytes
abbrev pub HasLong : FilesTold → List Named → FilesTold → Type 0
HasLong = StopsAt IsLonger

-- one of them is there and has no more bytes than that
abbrev pub HasFitting : FilesTold → List Named → FilesTold → Type 0
HasFitting = StopsAt FitsIn

-- ---- the steps of the code

-- why the two files of a station are not read
abbrev pub StopsRecording : FilesTold → Named → FileFault → FilesTold → Type 0
StopsRecording old n Failed new = HasRisen old.reads new.reads
StopsRecording old n TooLarge new = (new.reads ≡ old.reads) × StopsAtOne IsLonger old n new
StopsRecording old n Memory new = (new.reads ≡ old.reads) × StopsAtOne FitsIn old n new

-- why those of all stations are not; memory is short for one of them, or before any was read
abbrev pub StopsReads : FilesTold → List Named → FileFault → FilesTold → Type 0
StopsReads old ns Failed new = HasRisen old.reads new.reads
StopsReads old ns TooLarge new = (new.reads ≡ old.reads) × HasLong old ns new
StopsReads old ns Memory new = (new.reads ≡ old.reads) × ((new ≡ old) ⊎ HasFitting old ns new)
