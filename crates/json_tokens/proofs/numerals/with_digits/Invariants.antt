use Rattle.std.proofs.Common.{ℕ, ◌+◌, ◌≤◌, ◌<◌, ◌^◌, take}
use Rattle.json_tokens.specs.Significant.{Holds}
use Rattle.json_tokens.specs.Decimal.{number_from}
use Rattle.json_tokens.proofs.numerals.with_digits.Given as goal

abbrev pub invariant-loop-digit : goal.invariant-loop-digit
invariant-loop-digit l =
    ((n : ℕ) → Holds l.fn.number n → Holds l.number (number_from n (take l.digit-index l.digits))) × (l.number.zeros ≤ l.fn.number.zeros + l.digit-index) × (l.number.kept < 10 ^ 18)
