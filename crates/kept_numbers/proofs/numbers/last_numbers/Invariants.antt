use Rattle.std.proofs.Common.{◌≡◌, ℕ, List, length}
use Rattle.journal_file.specs.Layout.{Kept}
use Rattle.kept_numbers.specs.Steps.{GoesOn}
use Rattle.kept_numbers.proofs.numbers.last_numbers.Given as goal

abbrev pub invariant-loop-line : goal.invariant-loop-line
invariant-loop-line l = record {
  long : length l.numbers ≡ 16;
  goes_on : (lines : List (List ℕ)) → Kept l.bytes lines → GoesOn lines l.rest l.numbers;
}

abbrev pub decreases-loop-line : goal.decreases-loop-line
decreases-loop-line l = length l.rest
