-- A file that was opened just now and has no record, with its clerk.
use Rattle.std.specs.Prelude.{◌≡◌, [], Option, None}
use Rattle.atomic_table.specs.Seated.{TableId}
use Rattle.room_disks.specs.Crashes.{Course}
use Rattle.journal_file.specs.Standing.{JournalState, StandsFor}
use Rattle.append_receipts.specs.States.{Counts}

pub record IsNew {D : Type 0} (course : D → Option Course) (file : JournalState D) (table : TableId) (clerk : Counts) : Type 0 where
  pub stands : StandsFor course file []
  pub settled : file.pending ≡ None
  pub clerk_is : clerk ≡ record { table = table; kept = file.count; failed = 0 }
