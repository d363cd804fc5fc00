-- How the command ends: the mirror of a stream is written, or the first line that is refused, or neither.
use Rattle.std.specs.Prelude.{◌≡◌, ℕ, ◌≤◌, ◌⊎◌, List, [], Some, length}
use Rattle.command_files.specs.Documents.{Describes, IsDocumentRefused, document_line}
use Rattle.command_files.specs.Ports.{Change, InputTold, OutputTold}
use Rattle.command_files.specs.Texts.{PutsWith}
use Rattle.command_files.specs.Unopened.{EndsUnopened, OnlyRead}
use Rattle.command_files.specs.declared.documents.TheConstants.{MAX_DOCUMENT}
use Rattle.command_files.specs.declared.status.Status.{Status}
use Rattle.command_files.specs.declared.status.Status.TheVariants as ended
use Rattle.cut_mirror.specs.Following.{Follows as FollowsFrom}
use Rattle.cut_steps.specs.CutSteps.{CutStep, KeptTrack, fresh_tracks, stepping}
use Rattle.line_words.specs.Lines.{last_line, lines_of}
use Rattle.line_words.specs.Pieces.{pending_after}
use Rattle.otio_json.specs.declared.opening.Opening.{Opening}
use Rattle.room_core.specs.History.{IsLegal, replay}
use Rattle.room_core.specs.Whole.{whole}
use Rattle.room_core.specs.declared.entry.Entry.{Entry}
use Rattle.room_files.specs.Files.{FilesTold, FitsIn}
use Rattle.room_ports.specs.Counts.{HasRisen}
use Rattle.take_back.specs.Parts.{nows}
use Rattle.timecode12.specs.Numbers.{Counted}
use Rattle.input_lines.specs.Inputs.{GivesAll, StopsAtEnd, StopsInPiece, TakenInPart, most_input}
use Rattle.input_lines.specs.declared.taking.InputStop.{InputStop}
use Rattle.input_lines.specs.declared.taking.InputStop.TheVariants as input_stop
use Rattle.follow_command.specs.Goes.{CutMirror, Goes, first_mirror}
use Rattle.follow_command.specs.MirrorTexts.{mirror_text}
use Rattle.follow_command.specs.NewsLines.{AreNoNews, Item, NewsOf}
use Rattle.follow_command.specs.Refusals.{StopsAtCut, StopsAtLine, stream_line}
use Rattle.follow_command.specs.declared.refusal.StreamRefusal.{StreamRefusal}
use Rattle.follow_command.specs.declared.refusal.Stop.{Stop}
use Rattle.follow_command.specs.declared.refusal.Stop.TheVariants as stop

-- the text is a stream of replies, and what its lines tell comes to these entries
pub record IsStreamOf (text : List ℕ) (entries : List (Entry CutStep)) : Type 0 where
  pub items : List Item
  pub told : NewsOf (lines_of text) items
  pub follows : FollowsFrom [] items entries
  pub whole : AreNoNews (last_line (pending_after (Some []) text))

-- the entries are a legal history of the room's opening, and its parts are what they come to
pub record ComesTo (o : Opening) (entries : List (Entry CutStep)) (kept : List KeptTrack) : Type 0 where
  pub legal : IsLegal (whole (stepping o.table)) (fresh_tracks o.tracks) entries
  pub comes : replay (whole (stepping o.table)) (fresh_tracks o.tracks) entries ≡ Some kept

-- no read has failed
abbrev pub IsQuiet : InputTold → InputTold → Type 0
IsQuiet before after = after.faults ≡ before.faults

-- The first line that is refused ended in the last piece that was read, or it is the last line and has no line feed. The
-- mirror has gone on by the lines before it.
abbrev pub FirstRefused : CutMirror → StreamRefusal → InputTold → InputTold → Type 0
FirstRefused m refusal before after =
    StopsInPiece Goes StopsAtLine m (stop.Refused refusal) before.left after.left
    ⊎ StopsAtEnd Goes StopsAtCut m (stop.Refused refusal) before.left after.left

-- the room that is opened so, what the input told before and tells after, and the output
module _ (o : Opening) (input : Change InputTold) (output : Change OutputTold) (status : Status) where
  -- All of the input is a stream, and what its entries come to is put on the output.
  pub record WritesCut : Type 0 where
    pub entries : List (Entry CutStep)
    pub kept : List KeptTrack
    pub quiet : IsQuiet input.before input.after
    pub text : List ℕ
    pub gives : GivesAll input.before.left input.after.left text
    pub within : length text ≤ most_input
    pub stream : IsStreamOf text entries
    pub comes : ComesTo o entries kept
    pub put : PutsWith ended.Done (mirror_text (length entries) (nows kept)) output.before output.after status

  -- A line is refused, and none before it, and the line of the refusal is put on the output.
  pub record RefusesStream : Type 0 where
    pub refusal : StreamRefusal
    pub quiet : IsQuiet input.before input.after
    pub first : FirstRefused (first_mirror o) refusal input.before input.after
    pub put : PutsWith ended.Refused (stream_line refusal) output.before output.after status

  -- The input has more than 64 MiB, and no line that ends in these is refused.
  pub record HasTooMuch : Type 0 where
    pub quiet : IsQuiet input.before input.after
    pub there : CutMirror
    pub goes : TakenInPart Goes (first_mirror o) there input.before.left input.after.left
    pub untouched : output.Untouched
    pub is : status ≡ ended.TooMuchInput

  -- A read failed.
  abbrev pub IsUnread : Type 0
  IsUnread = (status ≡ ended.ReadFault) × HasRisen input.before.faults input.after.faults × output.Untouched

  abbrev pub HasNoMemory : Type 0
  HasNoMemory = (status ≡ ended.OutOfMemory) × IsQuiet input.before input.after × output.Untouched

  abbrev pub MirrorEnds : Type 0
  MirrorEnds = WritesCut ⊎ (RefusesStream ⊎ (HasTooMuch ⊎ (IsUnread ⊎ HasNoMemory)))

-- the document in the file of this name, whose frames are counted so
module _ (document : List ℕ) (counting : Counted) (files : Change FilesTold) (input : Change InputTold)
    (output : Change OutputTold) (status : Status) where
  -- it describes a room, and then the input is followed
  pub record OpensDocument : Type 0 where
    pub opening : Opening
    pub described : Describes counting (files.before.file document) opening
    pub quiet : files.after.reads ≡ files.before.reads
    pub ends : MirrorEnds opening input output status

  abbrev pub FollowEnds : Type 0
  FollowEnds = OnlyRead files.before files.after
      × (OpensDocument ⊎ (input.Untouched × EndsUnopened files.before files.after output (IsDocumentRefused counting (files.before.file document)) document_line (FitsIn (files.before.file document) MAX_DOCUMENT) status))

-- ---- the steps of the code

-- a mirror is put on the output
abbrev pub WritesMirror : CutMirror → Change OutputTold → Status → Type 0
WritesMirror m output status =
    PutsWith ended.Done (mirror_text (length m.entries) (nows m.parts)) output.before output.after status
    ⊎ ((status ≡ ended.OutOfMemory) × output.Untouched)

-- the command whose stream was not followed to its end
abbrev pub StopEnds : InputStop Stop → Change OutputTold → Status → Type 0
StopEnds input_stop.ReadFault output status = (status ≡ ended.ReadFault) × output.Untouched
StopEnds input_stop.TooMuch output status = (status ≡ ended.TooMuchInput) × output.Untouched
StopEnds (input_stop.Stopped (stop.Refused refusal)) output status =
    PutsWith ended.Refused (stream_line refusal) output.before output.after status
StopEnds (input_stop.Stopped stop.Memory) output status = (status ≡ ended.OutOfMemory) × output.Untouched
