-- What is counted of a fault in keeping a journal.
use Rattle.std.specs.Prelude.{ℕ, ◌<◌}
use Rattle.room_keepers.specs.declared.fault.KeepFault.{KeepFault}
use Rattle.room_keepers.specs.declared.fault.KeepFault.TheVariants.{Disk, Memory}

-- where a call on a disk failed, that was counted
abbrev pub IsCounted : KeepFault → ℕ → Type 0
IsCounted Disk failures = 0 < failures
IsCounted Memory failures = Unit {0}
