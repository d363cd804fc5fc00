-- Bytes that go out as far as their stream takes them.
use Rattle.std.specs.Prelude.{◌≡◌, ℕ, List, ◌++◌, Option}
use Rattle.std.specs.Io.KnownBytes.{Appends}

-- the stream took bytes from the front of those that were left, and all others are left
abbrev pub GoesOut : Option (List ℕ) → Option (List ℕ) → List ℕ → List ℕ → Type 0
GoesOut before after old new = (sent : List ℕ) × Appends before after sent × (old ≡ sent ++ new)
