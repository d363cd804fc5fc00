use Rattle.std.proofs.Common.{◌≡◌, ◌≤◌, ◌+◌, ◌-◌, ◌++◌, List, length, drop}
use Rattle.line_words.specs.Lines.{Line as InputLine}
use Rattle.line_words.specs.Pieces.{ended, pending_after}
use Rattle.station_sessions.specs.Outside.{AreSent}
use Rattle.station_sessions.specs.Served.{ServesTo}
use Rattle.station_sessions.proofs.serve.answer_piece.Given as goal

abbrev pub invariant-loop-at : goal.invariant-loop-at
invariant-loop-at g l = record {
  within : l.at ≤ length l.piece;
  number : l.session.course.line ≤ l.fn.session.course.line + l.at;
  pending : pending_after l.fn.reader.pending l.piece ≡ pending_after l.reader.pending (drop l.at l.piece);
  served : (done : List InputLine) × (ended l.fn.reader.pending l.piece ≡ done ++ ended l.reader.pending (drop l.at l.piece))
      × ServesTo l.fn.session l.session done (AreSent (g.K.Sink.taken l.fn.output) (g.K.Sink.taken l.output));
  station : l.session.station ≡ l.fn.session.station;
  quiet : g.K.Sink.write_faults l.output ≡ g.K.Sink.write_faults l.fn.output;
  apart : g.K.Sink.as_source l.output ≡ g.K.Sink.as_source l.fn.output;
}

abbrev pub decreases-loop-at : goal.decreases-loop-at
decreases-loop-at g l = length l.piece - l.at
