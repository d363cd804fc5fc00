-- Why entries were not copied.
use Rattle.std.specs.Prelude.{◌≡◌, ◌<◌, ◌≤◌, ℕ}
use Rattle.edit_journal.specs.declared.log.CopyFault.{CopyFault}
use Rattle.edit_journal.specs.declared.log.CopyFault.TheVariants.{NoPoint, Memory}

-- there are fewer entries than n, and the fault says how many; or there are so many, and there was no memory
abbrev pub SaysNoPoint : CopyFault → ℕ → ℕ → Type 0
SaysNoPoint (NoPoint length) n count = (count < n) × (length ≡ count)
SaysNoPoint Memory n count = n ≤ count
