-- A mirror of a room of cuts that goes on by lines of a stream.
use Rattle.std.specs.Prelude.{◌≡◌, ℕ, List, []}
use Rattle.composables.specs.declared.media.Table.{Table}
use Rattle.cut_mirror.specs.Following.{Follows}
use Rattle.cut_mirror.specs.Mirrors.{IsMirrorOf, Mirrored}
use Rattle.cut_steps.specs.CutSteps.{CutObject, CutStep, KeptTrack, StepDone, StepRefusal, fresh_tracks, stepping}
use Rattle.edit_apply.specs.RoomTracks.{IsOpening}
use Rattle.line_words.specs.Lines.{Line as InputLine}
use Rattle.otio_json.specs.declared.opening.Opening.{Opening}
use Rattle.room_core.specs.Whole.{Meaning}
use Rattle.take_back.specs.Parts.{CanOpen}
use Rattle.follow_command.specs.NewsLines.{Item, NewsOf}

-- what a mirror of a room of cuts has
abbrev pub CutMirror : Type 0
CutMirror = Mirrored CutObject KeptTrack CutStep

abbrev pub cut_meaning : CutObject → Meaning KeptTrack CutStep StepDone StepRefusal
cut_meaning o = stepping o.object.table

abbrev pub cut_opens : CutObject → List KeptTrack → Type 0
cut_opens o tracks = CanOpen (IsOpening o.object.table) tracks

-- a mirror of a room that is opened so, which has taken no entry yet
abbrev pub first_mirror : Opening → CutMirror
first_mirror o =
    record { object = record { object = record { table = o.table } }; entries = []; parts = fresh_tracks o.tracks }

-- a mirror that has gone on by these entries, each with its place; a mirror of an opening stays one
pub record GoesBy (before after : CutMirror) (items : List Item) : Type 0 where
  pub follows : Follows before.entries items after.entries
  pub object : after.object ≡ before.object
  pub mirror : (opening : List KeptTrack) → IsMirrorOf cut_meaning cut_opens opening before → IsMirrorOf cut_meaning cut_opens opening after

-- and by what these lines tell
abbrev pub Goes : CutMirror → CutMirror → List InputLine → Type 0
Goes before after lines = (items : List Item) × NewsOf lines items × GoesBy before after items
