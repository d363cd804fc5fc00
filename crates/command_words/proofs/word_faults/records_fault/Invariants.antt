use Rattle.std.proofs.Common.{◌≡◌, ◌≤◌, length, drop}
use Rattle.command_words.specs.WordFaults.{more_fault, records_fault}
use Rattle.command_words.proofs.word_faults.records_fault.Given as goal

abbrev pub invariant-loop-left : goal.invariant-loop-left
invariant-loop-left l = record {
  within : (5 ≤ l.at) × (l.at ≤ length l.words);
  same : more_fault l.left (drop l.at l.words) ≡ records_fault (drop 5 l.words);
}

abbrev pub decreases-loop-left : goal.decreases-loop-left
decreases-loop-left l = l.left
