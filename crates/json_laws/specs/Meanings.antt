-- What bytes mean: one tree, or a fault.
use Rattle.std.specs.Prelude.{◌≡◌, ◌≢◌, ℕ, ◌≤◌, ◌⊎◌, List, length}
use Rattle.json_tokens.specs.declared.fault.JsonFault.{JsonFault}
use Rattle.json_tokens.specs.declared.fault.JsonFault.TheVariants.{Memory}
use Rattle.json_tree.specs.declared.document.TheConstants.{MOST_BYTES, MOST_LEVELS}
use Rattle.json_tree.specs.Faults.{IsPlaced}
use Rattle.json_tree.specs.Grammar.{Spells}
use Rattle.json_tree.specs.Tree.{Tree}

-- the grammar spells at most one tree by some bytes
abbrev pub IsOneTree : Type 0
IsOneTree = (bytes : List ℕ) (t u : Tree) → Spells MOST_LEVELS bytes t → Spells MOST_LEVELS bytes u → t ≡ u

-- bytes of at most 32 MiB spell a tree, or have a fault, which is no want of memory
abbrev pub HasMeaning : Type 0
HasMeaning = (bytes : List ℕ) → length bytes ≤ MOST_BYTES
    → ((t : Tree) × Spells MOST_LEVELS bytes t) ⊎ ((fault : JsonFault) × (fault ≢ Memory) × IsPlaced bytes fault)
