use Rattle.std.proofs.Common.{◌≡◌, length, ◌-◌, ◌≤◌, take, []}
use Rattle.room_ports.specs.Bytes.{Takes}
use Rattle.room_ports.proofs.ports.put.Given as goal

abbrev pub invariant-loop-done : goal.invariant-loop-done
invariant-loop-done g l = record {
  within : l.done ≤ length l.bytes;
  so_far : Takes (g.K.Sink.taken l.fn.sink) (g.K.Sink.taken l.sink) (take l.done l.bytes);
  quiet : g.K.Sink.write_faults l.sink ≡ g.K.Sink.write_faults l.fn.sink;
  apart : g.K.Sink.as_source l.sink ≡ g.K.Sink.as_source l.fn.sink;
  none : l.bytes ≡ [] → l.sink ≡ l.fn.sink;
}

abbrev pub decreases-loop-done : goal.decreases-loop-done
decreases-loop-done g l = length l.bytes - l.done
