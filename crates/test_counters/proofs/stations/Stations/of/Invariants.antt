use Rattle.std.proofs.Common.{◌≡◌, None, replicate}
use Rattle.test_counters.proofs.stations.Stations.of.Given as goal

abbrev pub invariant-loop : goal.invariant-loop
invariant-loop l = l.holders.items ≡ replicate l.index None
