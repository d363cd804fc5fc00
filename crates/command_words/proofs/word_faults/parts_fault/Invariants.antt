use Rattle.std.proofs.Common.{◌≡◌, ◌+◌, ◌≤◌, length, drop}
use Rattle.command_words.specs.Commands.{word_at}
use Rattle.command_words.specs.WordFaults.{parts_fault}
use Rattle.command_words.proofs.word_faults.parts_fault.Given as goal

abbrev pub invariant-loop-i : goal.invariant-loop-i
invariant-loop-i l = record {
  within : l.i ≤ length l.parts;
  said : l.i + 1 ≤ length l.words;
  same : parts_fault (drop l.i l.parts) (word_at l.i l.words) (drop (l.i + 1) l.words) ≡ parts_fault l.parts (word_at 0 l.words) (drop 1 l.words);
}
