-- Parts that a history of an opening comes to.
use Rattle.std.specs.Prelude.{◌≡◌, ◌≤◌, ◌+◌, ℕ, List, Some, length}
use Rattle.room_core.specs.declared.entry.Entry.{Entry}
use Rattle.room_core.specs.History.{replay, most_entries}
use Rattle.room_core.specs.Whole.{Meaning, whole}

-- entries of an opening come to these parts, and a history has room for so many more behind them; an opening itself is
-- what no entry comes to
pub record IsReached {P C D R : Type 0} (m : Meaning P C D R) (opens : List P → Type 0) (more : ℕ) (parts : List P) : Type 0 where
  pub opening : List P
  pub entries : List (Entry C)
  pub opens_so : opens opening
  pub comes : replay (whole m) opening entries ≡ Some parts
  pub room : length entries + more ≤ most_entries
