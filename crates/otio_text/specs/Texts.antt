-- Texts of at most so many bytes, as they grow or are only counted.
use Rattle.std.specs.Prelude.{ℕ, Bool, true, false, List, ◌++◌, ◌-◌, length, Option, Some, None, nat_le, if◌then◌else◌}

-- the bytes so far, or none where a text is only counted, and how many more it may have
pub record Filled : Type 0 where
  pub bytes : Option (List ℕ)
  pub left : ℕ

-- the bytes with more after them, where they are kept
abbrev pub added : Option (List ℕ) → List ℕ → Option (List ℕ)
added None more = None
added (Some text) more = Some (text ++ more)

-- the text with more after it, if there is room for it
abbrev pub grown : Option Filled → List ℕ → Option Filled
grown None more = None
grown (Some t) more = if nat_le (length more) t.left then Some (record { bytes = added t.bytes more; left = t.left - length more }) else None

abbrev pub is_over : Option Filled → Bool
is_over None = true
is_over (Some t) = false

-- the bytes of a text that is kept and is not over its limit
abbrev pub kept_by : Option Filled → Option (List ℕ)
kept_by None = None
kept_by (Some t) = t.bytes
