use Rattle.std.proofs.Common.{length, ◌-◌, ◌≡◌, ◌≤◌, false, drop, max}
use Rattle.std.specs.List.{AllWithin}
use Rattle.line_words.specs.Blanks.{is_blank, past_word}
use Rattle.line_words.proofs.next.word_end.Given as goal

abbrev pub invariant-loop-at : goal.invariant-loop-at
invariant-loop-at l = record {
  begins : l.from ≤ l.at;
  within : l.at ≤ max l.from (length l.line);
  no_blank : AllWithin (λ byte. is_blank byte ≡ false) l.line l.from l.at;
  rest : past_word (drop l.at l.line) ≡ past_word (drop l.from l.line);
}

abbrev pub decreases-loop-at : goal.decreases-loop-at
decreases-loop-at l = length l.line - l.at
