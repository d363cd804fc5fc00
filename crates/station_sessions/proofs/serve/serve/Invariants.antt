use Rattle.std.proofs.Common.{◌≡◌, ◌≤◌, ◌+◌, ◌-◌, List, ℕ, length}
use Rattle.station_sessions.specs.Outside.{outside}
use Rattle.station_sessions.proofs.Inputs.{SoFar}
use Rattle.station_sessions.proofs.serve.serve.Given as goal

abbrev pub invariant-loop-total : goal.invariant-loop-total
invariant-loop-total g l = record {
  buffer : length l.buffer ≡ 8192;
  number : l.session.course.line ≤ l.fn.session.course.line + l.total;
  station : l.session.station ≡ l.fn.session.station;
  lent : g.L.Line.lent l.line ≡ g.L.Line.lent l.fn.line;
  so_far : (got : List ℕ) × (l.total ≡ length got) × SoFar l.fn.session l.session
      (outside (g.L.Source.left l.fn.line) (g.L.Source.read_faults l.fn.line) (g.L.Sink.taken l.fn.line) (g.L.Sink.write_faults l.fn.line))
      (outside (g.L.Source.left l.line) (g.L.Source.read_faults l.line) (g.L.Sink.taken l.line) (g.L.Sink.write_faults l.line)) l.reader.pending got;
}

abbrev pub decreases-loop-total : goal.decreases-loop-total
decreases-loop-total g l = 67108864 + 1 - l.total
