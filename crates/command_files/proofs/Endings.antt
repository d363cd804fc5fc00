-- How a command ends that has opened nothing.
use Rattle.std.proofs.Common.{ℕ, ◌≤◌, List, Err, length, inl, inr, sym, subst}
use Rattle.room_files.specs.Files.{Content, Untold, Missing, Bytes, FilesTold, IsWhole, FitsIn}
use Rattle.command_files.specs.declared.status.Status.{Status}
use Rattle.command_files.specs.Ports.{Change, OutputTold}
use Rattle.command_files.specs.declared.faults.InputFault.{InputFault}
use Rattle.command_files.specs.declared.faults.InputFault.TheVariants as fault
use Rattle.command_files.specs.Unopened.{CountsOpening, EndsUnopened, FaultEnds, IsUnread, OpensAs}

-- what was not opened is refused or was not read, and the command ends so
pub unopened : {A R : Type 0} (Holds : A → Type 0) (HasFault : R → Type 0) (Fits : Type 0) (line : R → List ℕ) (old new : FilesTold) (output : Change OutputTold)
    (e : InputFault R) (status : Status) → OpensAs Holds HasFault Fits (Err e) → CountsOpening {A = A} (Err e) old.reads new.reads
    → FaultEnds line e output status → EndsUnopened old new output HasFault line Fits status
unopened Holds HasFault Fits line old new output fault.ReadFault status opens counts ends =
    inr (subst (λ (s : Status). IsUnread old new output Fits s) (sym ends.0) (counts, ends.1))
unopened Holds HasFault Fits line old new output (fault.Refused r) status opens counts ends =
    inl (record { refusal = r; refused = opens; quiet = counts; put = ends })
unopened Holds HasFault Fits line old new output fault.Memory status opens counts ends =
    inr (subst (λ (s : Status). IsUnread old new output Fits s) (sym ends.0) (counts, ends.1, opens))

-- a file whose bytes were read, which are not too many, is not too long
pub whole_fits : (content : Content) (bytes : List ℕ) (most : ℕ) → IsWhole content bytes → length bytes ≤ most → FitsIn content most
whole_fits Untold bytes most is within = tt
whole_fits Missing bytes most is within = absurd is
whole_fits (Bytes all) bytes most is within = subst (λ (l : List ℕ). length l ≤ most) is within
