-- What is kept, as the code has it: its pass is taken out while it is at the journal.
use Rattle.std.specs.Prelude.{[], Option, Some, None}
use Rattle.edit_journal.specs.Turns.{Known}

abbrev pub known_by : {O P C : Type 0} → Option (Known O P C) → Known O P C
known_by None = record { number = 0; opening = None; entries = [] }
known_by (Some pass) = pass
