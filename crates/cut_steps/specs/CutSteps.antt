-- What a room of cuts keeps, and what the steps of its stations mean.
use Rattle.std.specs.Prelude.{ℕ, List, map}
use Rattle.composables.specs.declared.media.Table.{Table}
use Rattle.composables.specs.declared.refusals.Done.{Done}
use Rattle.composables.specs.declared.refusals.Refusal.{Refusal}
use Rattle.composables.specs.TrackState.{TrackState}
use Rattle.edit_calls.specs.declared.asks.Call.{Call}
use Rattle.edit_apply.specs.Apply.{editing, names_of, track_count}
use Rattle.edit_apply.specs.declared.editor.Editor.{Editor}
use Rattle.room_core.specs.declared.entry.Entry.{Entry}
use Rattle.room_core.specs.Whole.{Meaning}
use Rattle.take_back.specs.Left.{left}
use Rattle.take_back.specs.Parts.{fresh}
use Rattle.take_back.specs.Steps.{backed}
use Rattle.take_back.specs.declared.answers.BackDone.{BackDone}
use Rattle.take_back.specs.declared.answers.BackRefusal.{BackRefusal}
use Rattle.take_back.specs.declared.backed.Backed.{Backed}
use Rattle.take_back.specs.declared.kept.Kept.{Kept}
use Rattle.take_back.specs.declared.step.Step.{Step}

-- what a room keeps: an object with its table
abbrev pub CutObject : Type 0
CutObject = Backed Editor

-- a track, and what it was before its last edit
abbrev pub KeptTrack : Type 0
KeptTrack = Kept TrackState

-- an edit, or the taking back of one, and the station that asks for it
abbrev pub CutStep : Type 0
CutStep = Step Call

-- what a step answers, and why it is refused
abbrev pub StepDone : Type 0
StepDone = BackDone Done

abbrev pub StepRefusal : Type 0
StepRefusal = BackRefusal Refusal

-- what the steps of a room with this table mean
abbrev pub stepping : Table → Meaning KeptTrack CutStep StepDone StepRefusal
stepping table = backed (track_count table) (editing table)

-- the tracks of an opening, of which nothing can be taken back
abbrev pub fresh_tracks : List TrackState → List KeptTrack
fresh_tracks tracks = map fresh tracks

-- the edits of these steps that were not taken back
abbrev pub left_edits : List (Entry CutStep) → List (Entry Call)
left_edits entries = left names_of entries
