-- Where the fault of a text in JSON stands: up to it the bytes are lawful, and with the byte there they are not. No bytes
-- have two faults, and bytes that spell a text have none.
use Rattle.std.specs.Prelude.{ℕ, ◌<◌, ◌≤◌, ◌⊎◌, List, ◌++◌, length}
use Rattle.json_tokens.specs.declared.fault.JsonFault.{JsonFault}
use Rattle.json_tokens.specs.declared.fault.JsonFault.TheVariants.{Syntax, Depth, NotUtf8, TooLarge, Memory}
use Rattle.json_tokens.specs.Faults.{StopsAt, IsLoneHalf, IsBadSequence, IsTooDeep}
use Rattle.json_tree.specs.Grammar.{Spells}
use Rattle.json_tree.specs.Tree.{Tree}

-- Some text with at most so many levels begins with these bytes.
abbrev pub Begins : ℕ → List ℕ → Type 0
Begins levels bytes = (rest : List ℕ) × (t : Tree) × Spells levels (bytes ++ rest) t

-- No character breaks off there, no half is shown to be alone there, no bracket is too deep there, and the bytes are no text.
pub record IsPlain (bytes : List ℕ) (stop : ℕ) : Type 0 where
  pub no_half : (start : ℕ) → IsLoneHalf (Begins 64) bytes start stop → ⊥
  pub no_sequence : (start : ℕ) → IsBadSequence (Begins 64) bytes start stop → ⊥
  pub not_deep : IsTooDeep (Begins 65) bytes stop → ⊥
  pub no_text : (t : Tree) → Spells 64 bytes t → ⊥

-- The fault stands where it is told.
abbrev pub IsPlaced : List ℕ → JsonFault → Type 0
IsPlaced bytes (Syntax at) = (length bytes ≤ 33554432) × ((StopsAt (Begins 64) bytes at × IsPlain bytes at) ⊎ ((stop : ℕ) × StopsAt (Begins 64) bytes stop × IsLoneHalf (Begins 64) bytes at stop))
IsPlaced bytes (NotUtf8 at) = (length bytes ≤ 33554432) × ((stop : ℕ) × StopsAt (Begins 64) bytes stop × IsBadSequence (Begins 64) bytes at stop)
IsPlaced bytes (Depth at) = (length bytes ≤ 33554432) × StopsAt (Begins 64) bytes at × IsTooDeep (Begins 65) bytes at
IsPlaced bytes TooLarge = 33554432 < length bytes
IsPlaced bytes Memory = Unit {0}
