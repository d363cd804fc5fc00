use Rattle.std.proofs.Common.{◌≡◌, ◌≤◌, [], length, drop, take, map}
use Rattle.command_words.specs.Names.{first_fault, row_of}
use Rattle.command_words.proofs.names.first_fault.Given as goal

abbrev pub invariant-loop-i : goal.invariant-loop-i
invariant-loop-i l = record {
  within : (7 ≤ l.i) × (l.i ≤ length l.words);
  same : first_fault (map row_of (drop 7 (take l.i l.words))) (drop l.i l.words) ≡ first_fault [] (drop 7 l.words);
}
