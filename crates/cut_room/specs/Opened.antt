-- A room before it is open, and the open room.
use Rattle.std.specs.Prelude.{ℕ, List}
use Rattle.edit_journal.specs.Turns.{Fresh}

-- the table of its journal, and how many stations the room is to have
pub record Unopened (O P : Type 0) : Type 0 where
  pub journal : Fresh O P
  pub stations : ℕ

-- the object that it stands over, the parts that it opened with, and how many stations it has
pub record Opened (O P : Type 0) : Type 0 where
  pub object : O
  pub parts : List P
  pub stations : ℕ
