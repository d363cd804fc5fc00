-- A whole text that is read from left to right, by a reading that can be computed, and what the grammar says of it.
use Rattle.std.specs.Prelude.{◌≡◌, ◌≢◌, ◌↔◌, ℕ, ◌≤◌, List, length, Ok, Err}
use Rattle.json_tokens.specs.declared.fault.JsonFault.{JsonFault}
use Rattle.json_tokens.specs.declared.fault.JsonFault.TheVariants.{Memory}
use Rattle.json_tree.specs.declared.document.TheConstants.{MOST_BYTES, MOST_LEVELS}
use Rattle.json_tree.specs.Faults.{IsPlaced}
use Rattle.json_tree.specs.Grammar.{Spells}
use Rattle.json_tree.specs.ReadingValues.{document_at}
use Rattle.json_tree.specs.Tree.{Tree}

-- a tree is read exactly where at most 32 MiB spell it
abbrev pub DocumentsAreRead : Type 0
DocumentsAreRead = (bytes : List ℕ) (t : Tree)
    → (document_at bytes ≡ Ok t) ↔ ((length bytes ≤ MOST_BYTES) × Spells MOST_LEVELS bytes t)

-- a fault is found exactly where it stands; to be out of memory is none of the text
abbrev pub DocumentsAreRefused : Type 0
DocumentsAreRefused = (bytes : List ℕ) (fault : JsonFault)
    → (document_at bytes ≡ Err fault) ↔ ((fault ≢ Memory) × IsPlaced bytes fault)
