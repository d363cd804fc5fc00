use Rattle.std.proofs.Common.{◌≡◌, ◌≤◌, ◌+◌, ◌-◌, ◌++◌, List, length, drop}
use Rattle.line_words.specs.Lines.{Line}
use Rattle.line_words.specs.Pieces.{ended, pending_after}
use Rattle.input_lines.proofs.taking.take_piece.Given as goal

abbrev pub invariant-loop-at : goal.invariant-loop-at
invariant-loop-at g l = record {
  within : l.at ≤ length l.piece;
  few : l.after ≤ l.fn.count + l.at;
  pending : pending_after l.fn.reader.pending l.piece ≡ pending_after l.reader.pending (drop l.at l.piece);
  taken : (done : List Line) × (ended l.fn.reader.pending l.piece ≡ done ++ ended l.reader.pending (drop l.at l.piece))
      × (l.after ≡ l.fn.count + length done) × g.T.TakesLines.goes l.fn.taker l.taker done;
}

abbrev pub decreases-loop-at : goal.decreases-loop-at
decreases-loop-at g l = length l.piece - l.at
