use Rattle.std.proofs.Common.{◌≡◌, ◌++◌, drop}
use Rattle.edl_write.specs.Merging.{events_on}
use Rattle.edl_write.proofs.ordering.events_on.Given as goal

abbrev pub invariant-loop-segment : goal.invariant-loop-segment
invariant-loop-segment l = l.all.items ++ events_on l.channel (drop l.segment-index l.segments) ≡ events_on l.channel l.segments
