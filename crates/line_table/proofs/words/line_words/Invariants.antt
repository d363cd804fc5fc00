use Rattle.std.proofs.Common.{◌≡◌, ◌≤◌, ◌++◌, length, map, take}
use Rattle.line_words.specs.Blanks.{words_of}
use Rattle.line_table.proofs.words.line_words.Given as goal

-- the words so far, and those to come
abbrev pub invariant-loop-start : goal.invariant-loop-start
invariant-loop-start l =
    (map (λ word. word.now) (take l.count l.words) ++ words_of l.rest ≡ words_of l.line) × (l.count ≤ 8) × (length l.words ≡ 8)

abbrev pub decreases-loop-start : goal.decreases-loop-start
decreases-loop-start l = length l.rest
