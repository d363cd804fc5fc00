-- What comes of opening something out of a file, and how a command ends that has opened nothing.
use Rattle.std.specs.Prelude.{◌≡◌, ℕ, ◌⊎◌, List, Result, Ok, Err}
use Rattle.room_files.specs.Files.{FilesTold, NoneChanged}
use Rattle.room_ports.specs.Counts.{HasRisen}
use Rattle.command_files.specs.declared.status.Status.{Status}
use Rattle.command_files.specs.declared.status.Status.TheVariants as ended
use Rattle.command_files.specs.Ports.{Change, OutputTold}
use Rattle.command_files.specs.Texts.{PutsWith}
use Rattle.command_files.specs.declared.faults.InputFault.{InputFault}
use Rattle.command_files.specs.declared.faults.InputFault.TheVariants as fault

-- what is opened is what the file holds, and what is refused has its fault; out of memory is told only of a file that is
-- there and not too long
abbrev pub OpensAs : {A R : Type 0} → (A → Type 0) → (R → Type 0) → Type 0 → Result A (InputFault R) → Type 0
OpensAs Holds HasFault Fits (Ok a) = Holds a
OpensAs Holds HasFault Fits (Err fault.ReadFault) = Unit {0}
OpensAs Holds HasFault Fits (Err (fault.Refused r)) = HasFault r
OpensAs Holds HasFault Fits (Err fault.Memory) = Fits

-- a read that failed is counted, and no other
abbrev pub CountsOpening : {A R : Type 0} → Result A (InputFault R) → ℕ → ℕ → Type 0
CountsOpening (Ok a) before after = after ≡ before
CountsOpening (Err fault.ReadFault) before after = HasRisen before after
CountsOpening (Err (fault.Refused r)) before after = after ≡ before
CountsOpening (Err fault.Memory) before after = after ≡ before

-- files were read: none has changed, and no write has failed
abbrev pub OnlyRead : FilesTold → FilesTold → Type 0
OnlyRead before after = NoneChanged before.file after.file × (after.writes ≡ before.writes)

-- and no read has failed either
abbrev pub AreQuiet : FilesTold → FilesTold → Type 0
AreQuiet before after = OnlyRead before after × (after.reads ≡ before.reads)

-- how a command ends with such a fault, whose line is this
abbrev pub FaultEnds : {R : Type 0} → (R → List ℕ) → InputFault R → Change OutputTold → Status → Type 0
FaultEnds line fault.ReadFault output status = (status ≡ ended.ReadFault) × output.Untouched
FaultEnds line (fault.Refused r) output status = PutsWith ended.Refused (line r) output.before output.after status
FaultEnds line fault.Memory output status = (status ≡ ended.OutOfMemory) × output.Untouched

-- what the files told before, and tell after
module _ (old new : FilesTold) (output : Change OutputTold) where
  -- a file was not read, or there was no memory for one that is not too long
  abbrev pub IsUnread : Type 0 → Status → Type 0
  IsUnread Fits ended.ReadFault = HasRisen old.reads new.reads × output.Untouched
  IsUnread Fits ended.OutOfMemory = (new.reads ≡ old.reads) × output.Untouched × Fits
  IsUnread Fits other = ⊥

  module _ {R : Type 0} (HasFault : R → Type 0) (line : R → List ℕ) (Fits : Type 0) where
    -- what the file holds is refused, and the line says why
    pub record RefusesInput (status : Status) : Type 0 where
      pub refusal : R
      pub refused : HasFault refusal
      pub quiet : new.reads ≡ old.reads
      pub put : PutsWith ended.Refused (line refusal) output.before output.after status

    -- nothing was opened
    abbrev pub EndsUnopened : Status → Type 0
    EndsUnopened status = RefusesInput status ⊎ IsUnread Fits status
