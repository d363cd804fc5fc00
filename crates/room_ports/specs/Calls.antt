-- Calls that are numbered from 1, and those of them that are to fail.
use Rattle.std.specs.Prelude.{ℕ, List, Contains}
use Rattle.room_ports.specs.Counts.{counted}

-- the numbers of the calls that are to fail, the number of the last call, and how many calls have failed
pub record Calls : Type 0 where
  pub failing : List ℕ
  pub made : ℕ
  pub faults : ℕ

-- before the first call
abbrev pub no_calls : List ℕ → Calls
no_calls failing = record { failing = failing; made = 0; faults = 0 }

-- the number of the next call is among those that are to fail
abbrev pub FailsNext : Calls → Type 0
FailsNext calls = Contains calls.failing (counted calls.made)

-- after one call more, which did not fail
abbrev pub passed : Calls → Calls
passed calls = record { failing = calls.failing; made = counted calls.made; faults = calls.faults }

-- after one call more, which failed
abbrev pub failed : Calls → Calls
failed calls = record { failing = calls.failing; made = counted calls.made; faults = counted calls.faults }
