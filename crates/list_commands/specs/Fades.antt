-- Which fades hide a picture in the cut at a point of a journal: what its list shows otherwise than an editing system.
use Rattle.std.specs.Prelude.{◌≡◌, ℕ, List}
use Rattle.cut_steps.specs.CutSteps.{CutStep}
use Rattle.composables.specs.TrackState.{TrackState}
use Rattle.timecode12.specs.Numbers.{Counted}
use Rattle.room_files.specs.Files.{FilesTold}
use Rattle.room_core.specs.declared.entry.Entry.{Entry}
use Rattle.flatten.specs.Hiding.{AreHiding}
use Rattle.otio_json.specs.declared.opening.Opening.{Opening}
use Rattle.command_files.specs.Unopened.{AreQuiet}
use Rattle.command_files.specs.Documents.{Describes}
use Rattle.command_files.specs.Journals.{HoldsJournal}
use Rattle.list_commands.specs.declared.fades.HidingFades.{HidingFades}
use Rattle.list_commands.specs.Points.{IsCutAt}

-- of the room of an opening, after the first entries of its journal
pub record HideAt (o : Opening) (entries : List (Entry CutStep)) (point : ℕ) (found : HidingFades) : Type 0 where
  pub tracks : List TrackState
  pub cut : IsCutAt o entries point tracks
  pub start : found.start ≡ o.start
  pub fades : AreHiding found.fades o.table tracks

-- of the journal in the file of this name
pub record HideIn (o : Opening) (journal : List ℕ) (point : ℕ) (files : FilesTold) (found : HidingFades) : Type 0 where
  pub entries : List (Entry CutStep)
  pub holds : HoldsJournal (files.file journal) entries
  pub fades : HideAt o entries point found

-- of the document in the file of this name, whose frames are counted so. Between the reading of the two files they tell this.
pub record AreFound (document : List ℕ) (counting : Counted) (journal : List ℕ) (point : ℕ) (files : FilesTold) (found : HidingFades) : Type 0 where
  pub opening : Opening
  pub described : Describes counting (files.file document) opening
  pub between : FilesTold
  pub quiet : AreQuiet files between
  pub fades : HideIn opening journal point between found
