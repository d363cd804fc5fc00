-- How the tape of a list is put on the output.
use Rattle.std.specs.Prelude.{◌≡◌, ℕ, ◌⊎◌, List}
use Rattle.room_files.specs.Files.{FilesTold, FitsIn}
use Rattle.timecode12.specs.declared.rate.SequenceRate.{SequenceRate}
use Rattle.edl_events.specs.declared.event.Event.{Event}
use Rattle.edl_read.specs.TapeText.{tape_text}
use Rattle.edl_read.specs.declared.list.TheConstants.{MAX_LIST}
use Rattle.command_files.specs.declared.status.Status.{Status}
use Rattle.command_files.specs.declared.status.Status.TheVariants.{Done}
use Rattle.command_files.specs.Ports.{Change, OutputTold}
use Rattle.command_files.specs.Texts.{PutsWith}
use Rattle.command_files.specs.Unopened.{EndsUnopened, OnlyRead}
use Rattle.command_files.specs.Lists.{HoldsList, IsListRefused, list_line}

-- the list in the file of this name, at a rate
module _ (name : List ℕ) (rate : SequenceRate) (files : Change FilesTold) (output : Change OutputTold) (status : Status) where
  -- it is played, and its tape is put
  pub record PlaysList : Type 0 where
    pub events : List Event
    pub holds : HoldsList rate (files.before.file name) events
    pub quiet : files.after.reads ≡ files.before.reads
    pub put : PutsWith Done (tape_text events) output.before output.after status

  abbrev pub TapeEnds : Type 0
  TapeEnds = OnlyRead files.before files.after
      × (PlaysList ⊎ EndsUnopened files.before files.after output (IsListRefused rate (files.before.file name)) list_line (FitsIn (files.before.file name) MAX_LIST) status)
