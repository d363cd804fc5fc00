use Rattle.std.proofs.Common.{length, ◌-◌, ◌≡◌, ◌≤◌, true, drop, max}
use Rattle.std.specs.List.{AllWithin}
use Rattle.line_words.specs.Blanks.{is_blank, words_of}
use Rattle.line_words.proofs.next.blanks_end.Given as goal

abbrev pub invariant-loop-at : goal.invariant-loop-at
invariant-loop-at l = record {
  begins : l.from ≤ l.at;
  within : l.at ≤ max l.from (length l.line);
  blanks : AllWithin (λ byte. is_blank byte ≡ true) l.line l.from l.at;
  words : words_of (drop l.at l.line) ≡ words_of (drop l.from l.line);
}

abbrev pub decreases-loop-at : goal.decreases-loop-at
decreases-loop-at l = length l.line - l.at
