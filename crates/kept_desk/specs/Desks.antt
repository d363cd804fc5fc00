-- What lies behind the lock of a kept file: the file, a pass that reads the room's journal, and the counts that receipts
-- tell of.
use Rattle.std.specs.Prelude.{◌≡◌, ◌≢◌, ℕ, ◌<◌, ◌≤◌, List, [], ◌∷◌, ◌++◌, length, map, take, drop, Option, Some, None, IsSome}
use Rattle.atomic_table.specs.Seated.{TableId}
use Rattle.room_ports.specs.Counts.{HasRisen}
use Rattle.room_disks.specs.Crashes.{Course}
use Rattle.journal_file.specs.Standing.{JournalState, StandsFor}
use Rattle.append_receipts.specs.States.{Counts}
use Rattle.room_core.specs.declared.entry.Entry.{Entry}
use Rattle.room_core.specs.History.{IsLegal}
use Rattle.room_core.specs.Projection.{of_station}
use Rattle.room_core.specs.Whole.{Meaning, whole}
use Rattle.edit_journal.specs.Seats.{Opening, Begins}
use Rattle.edit_journal.specs.Turns.{Known}

-- a desk: its file, what its pass knows, and its counts
pub record DeskState (D O P C : Type 0) : Type 0 where
  pub file : JournalState D
  pub pass : Known O P C
  pub counts : Counts

-- the counts as a taking of the lock began and as it ended
pub record Taking : Type 0 where
  pub before : Counts
  pub after : Counts

-- how many records the file is known to have by who took the lock so last, where it had that many when it was opened
abbrev pub upto : ℕ → Option Taking → ℕ
upto kept None = kept
upto kept (Some taking) = taking.after.kept

-- These receipts go on from the last ones: the first has their numbers, and the second tells as many records or more, and
-- as many failed appends.
pub record GoesOnFrom (last now : Taking) : Type 0 where
  pub begins : now.before ≡ last.after
  pub rises : last.after.kept ≤ now.after.kept
  pub quiet : now.after.failed ≡ last.after.failed

-- how many failed appends were counted by then
abbrev pub failures : Option Taking → ℕ
failures None = 0
failures (Some taking) = taking.after.failed

-- the pass that is there
abbrev pub known_of : {O P C : Type 0} → Option (Known O P C) → Known O P C
known_of None = record { number = 0; opening = None; entries = [] }
known_of (Some pass) = pass

-- the entry stands in a legal history, which may begin with any parts
pub record IsEntered {P C R X : Type 0} (m : Meaning P C R X) (entry : Entry C) : Type 0 where
  pub opening : List P
  pub before : List (Entry C)
  pub after : List (Entry C)
  pub legal : IsLegal (whole m) opening (before ++ entry ∷ after)

-- nothing is pending, or the lines of one entry or more of those that follow
abbrev pub ArePending : {C : Type 0} → (Entry C → List ℕ) → List (Entry C) → Option (List (List ℕ)) → Type 0
ArePending line_of after None = Unit {0}
ArePending line_of after (Some batch) = (0 < length batch) × (batch ≡ map line_of (take (length batch) after))

-- The file stands for the lines of the first entries, as many as it counts. What is pending are lines of the entries
-- after these.
pub record HoldsFront {D C : Type 0} (line_of : Entry C → List ℕ) (course : D → Option Course) (file : JournalState D)
    (entries : List (Entry C)) : Type 0 where
  pub stands : StandsFor course file (map line_of (take file.count entries))
  pub pending : ArePending line_of (drop file.count entries) file.pending

-- the pass knows a legal history of the opening, in which its own station has no entry
pub record IsReader {O P C R X : Type 0} (meaning : O → Meaning P C R X) (opening : Option (Opening O P)) (pass : Known O P C) : Type 0 where
  pub own : of_station pass.number pass.entries ≡ []
  pub legal : (o : Opening O P) × (opening ≡ Some o) × IsLegal (whole (meaning o.0)) o.1 pass.entries

-- The counts are of this table, and tell the file's records. While no append has failed the disk has counted no fault
-- since the start; once one has, it has.
pub record IsTold (table : TableId) (start : ℕ) (count faults : ℕ) (counts : Counts) : Type 0 where
  pub table_is : counts.table ≡ table
  pub kept_is : counts.kept ≡ count
  pub quiet : counts.failed ≡ 0 → faults ≡ start
  pub cause : counts.failed ≢ 0 → HasRisen start faults

-- where the disk tells how the file stands now, it told that then
abbrev pub WasTold : Option Course → Option Course → Type 0
WasTold begun now = IsSome now → IsSome begun

-- What the type of a desk says: all that is known of one that comes out of its lock. The history of its pass begins with
-- the entries that the file had when it was opened, and the file still has these.
pub record IsDesk {D O P C R X : Type 0} (meaning : O → Meaning P C R X) (opening : Option (Opening O P))
    (line_of : Entry C → List ℕ) (course : D → Option Course) (faults : D → ℕ) (table : TableId) (number : ℕ)
    (kept : List (Entry C)) (begun : Option Course) (start : ℕ) (desk : DeskState D O P C) : Type 0 where
  pub reader : IsReader meaning opening desk.pass
  pub number_is : desk.pass.number ≡ number
  pub holds : HoldsFront line_of course desk.file desk.pass.entries
  pub told : IsTold table start desk.file.count (faults desk.file.disk) desk.counts
  pub begins : Begins desk.pass.entries kept
  pub least : length kept ≤ desk.file.count
  pub was_told : WasTold begun (course desk.file.disk)
