use Rattle.std.proofs.Common.{◌*◌, ◌<◌, ◌^◌, take}
use Rattle.json_tokens.specs.Significant.{IsSize}
use Rattle.json_tokens.specs.Decimal.{number_of}
use Rattle.json_tokens.proofs.numerals.size.Given as goal

abbrev pub invariant-loop-digit : goal.invariant-loop-digit
invariant-loop-digit l = IsSize l.size (number_of (take l.digit-index l.digits)) × (l.size < 2 * 10 ^ 31)
