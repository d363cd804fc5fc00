use Rattle.std.proofs.Common.{◌≡◌, ◌<◌, ◌^◌, take}
use Rattle.line_words.specs.Digits.{value_of}
use Rattle.line_words.proofs.numbers.small_value.Given as goal

abbrev pub invariant-loop-digit : goal.invariant-loop-digit
invariant-loop-digit l = record {
  fits : l.value < 2 ^ 32;
  so_far : l.value ≡ value_of (take l.digit-index l.digits);
}
