-- What the texts of steps that are done are, and of entries of legal histories.
use Rattle.std.specs.Prelude.{◌≡◌, ℕ, ◌≤◌, List, ◌∷◌, ◌++◌, Ok, length}
use Rattle.composables.specs.declared.media.Table.{Table}
use Rattle.cut_steps.specs.CutSteps.{CutStep, KeptTrack, StepDone, stepping}
use Rattle.room_core.specs.declared.entry.Entry.{Entry}
use Rattle.room_core.specs.History.{IsLegal}
use Rattle.room_core.specs.Whole.{whole}
use Rattle.journal_file.specs.Layout.{IsLine}
use Rattle.line_table.specs.CallTexts.{step_text_of}
use Rattle.journal_text.specs.JournalFaults.{HasNoLineFeed}
use Rattle.journal_text.specs.Journals.{entry_text}
use Rattle.kept_lines.specs.Widths.{DeedHasWidths, IsNarrow}

-- a text that is short, and has no line feed
pub record IsShort (text : List ℕ) : Type 0 where
  pub most : length text ≤ 454
  pub one : HasNoLineFeed text

-- that of each step that is done on tracks of a room is
abbrev pub DoneStepsFit : Type 0
DoneStepsFit =
    (table : Table) (tracks : List KeptTrack) (step : CutStep) (after : List KeptTrack) (done : StepDone)
    → whole (stepping table) tracks step ≡ Ok (after, done) → DeedHasWidths step.act → IsShort (step_text_of step)

-- that of each entry in a legal history of a room, whatever tracks it begins with, is a line
abbrev pub EnteredLinesFit : Type 0
EnteredLinesFit =
    (table : Table) (opening : List KeptTrack) (before after : List (Entry CutStep)) (entry : Entry CutStep)
    → IsLegal (whole (stepping table)) opening (before ++ entry ∷ after) → IsNarrow entry → IsLine (entry_text entry)
