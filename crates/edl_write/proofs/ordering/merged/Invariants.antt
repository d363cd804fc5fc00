use Rattle.std.proofs.Common.{◌≡◌, ◌≤◌, ◌++◌, drop, length}
use Rattle.edl_write.specs.Merging.{merged}
use Rattle.edl_write.proofs.ordering.merged.Given as goal

abbrev pub invariant-loop-event : goal.invariant-loop-event
invariant-loop-event l = record {
  within : l.done ≤ length l.second;
  so_far : l.all.items ++ merged (drop l.event-index l.first) (drop l.done l.second) ≡ merged l.first l.second;
}
