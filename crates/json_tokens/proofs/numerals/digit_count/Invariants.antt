use Rattle.std.proofs.Common.{◌≡◌, ◌+◌, length, drop}
use Rattle.json_tokens.specs.ReadingNumerals.{digits_of}
use Rattle.json_tokens.proofs.numerals.digit_count.Given as goal

abbrev pub invariant-loop-i : goal.invariant-loop-i
invariant-loop-i l = l.i + length (digits_of (drop l.i l.bytes)) ≡ length (digits_of l.bytes)
