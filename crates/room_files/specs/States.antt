-- What contracts see of files over memory.
use Rattle.std.specs.Prelude.{ℕ, List, Option}
use Rattle.room_ports.specs.Calls.{Calls}

-- what was written, or None where they tell nothing any more; the calls that they have had; and how often reads and
-- writes have failed
pub record FilesState : Type 0 where
  pub files : Option (List (List ℕ × List ℕ))
  pub calls : Calls
  pub read_faults : ℕ
  pub write_faults : ℕ

-- files that never fail: what was written, or None where they tell nothing any more, and how many bytes they have room
-- for
pub record SureFilesState : Type 0 where
  pub files : Option (List (List ℕ × List ℕ))
  pub room : ℕ
