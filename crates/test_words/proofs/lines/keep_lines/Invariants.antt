use Rattle.std.proofs.Common.{◌≡◌, ◌≤◌, ◌-◌, ◌++◌, map, length, drop}
use Rattle.std.specs.Option.{option_map}
use Rattle.line_words.specs.Pieces.{ended, pending_after}
use Rattle.test_words.proofs.lines.keep_lines.Given as goal

abbrev pub invariant-loop-at : goal.invariant-loop-at
invariant-loop-at l = record {
  within : l.at ≤ length l.piece;
  lines : map (option_map (λ bytes. bytes.items)) l.lines.items ++ ended l.reader.pending (drop l.at l.piece) ≡ map (option_map (λ bytes. bytes.items)) l.fn.lines.items ++ ended l.fn.reader.pending l.piece;
  pending : pending_after l.reader.pending (drop l.at l.piece) ≡ pending_after l.fn.reader.pending l.piece;
}

abbrev pub decreases-loop-at : goal.decreases-loop-at
decreases-loop-at l = length l.piece - l.at
