-- Counts that never fall, kept in a u64.
use Rattle.std.specs.Prelude.{ℕ, ◌+◌, ◌^◌, ◌-◌, ◌≤◌, min}

-- one more; a count at the greatest u64 stays there
abbrev pub counted : ℕ → ℕ
counted count = min (count + 1) (2 ^ 64 - 1)

-- the count is greater than it was before, or stands at the greatest u64
abbrev pub HasRisen : ℕ → ℕ → Type 0
HasRisen before after = counted before ≤ after
