-- What contracts see of a clerk and of a receipt.
use Rattle.std.specs.Prelude.{ℕ}
use Rattle.atomic_table.specs.Seated.{TableId}

-- whose table it is, how many records the file has, and how many appends have failed
pub record Counts : Type 0 where
  pub table : TableId
  pub kept : ℕ
  pub failed : ℕ
