use Rattle.std.proofs.Common.{◌≡◌, ◌≤◌, ◌+◌, ◌-◌, List, ℕ, length}
use Rattle.input_lines.proofs.SoFar.{SoFar}
use Rattle.input_lines.proofs.taking.take_lines.Given as goal

abbrev pub invariant-loop-total : goal.invariant-loop-total
invariant-loop-total g l = record {
  buffer : length l.buffer ≡ 8192;
  few : l.count ≤ l.total;
  so_far : (got : List ℕ) × (l.total ≡ length got) × SoFar g.T.TakesLines.goes l.fn.taker l.taker
      (g.S.Source.left l.fn.input) (g.S.Source.left l.input) (g.S.Source.read_faults l.fn.input) (g.S.Source.read_faults l.input) l.reader.pending l.count got;
}

abbrev pub decreases-loop-total : goal.decreases-loop-total
decreases-loop-total g l = 67108864 + 1 - l.total
