-- What a fault does to the count of failed appends.
use Rattle.std.specs.Prelude.{◌≡◌, ℕ}
use Rattle.room_ports.specs.Counts.{counted}
use Rattle.room_keepers.specs.declared.fault.KeepFault.{KeepFault}
use Rattle.room_keepers.specs.declared.fault.KeepFault.TheVariants.{Disk, Memory}

-- a failed append is counted, and nothing else is
abbrev pub IsCountedFault : KeepFault → ℕ → ℕ → Type 0
IsCountedFault Disk before after = after ≡ counted before
IsCountedFault Memory before after = after ≡ before
