use Rattle.std.proofs.Common.{◌≡◌, ℕ, List}
use Rattle.room_core.specs.Parts.{AscendBetween}
use Rattle.room_core.specs.Whole.{set_of}
use Rattle.history_points.proofs.Sets.{Rest}
use Rattle.history_points.proofs.naming.numbers_in.Given as goal

abbrev pub invariant-loop-number : goal.invariant-loop-number
invariant-loop-number l = (names : List ℕ) → AscendBetween 0 32 names → set_of names ≡ l.set → Rest 32 l.number l.left l.numbers.items names
