use Rattle.std.proofs.Common.{◌≡◌, ◌≤◌, true, drop, length}
use Rattle.room_core.specs.Machine.{is_above}
use Rattle.cut_mirror.proofs.numbers.is_above.Given as goal

abbrev pub invariant-loop-k : goal.invariant-loop-k
invariant-loop-k g l = record {
  within : l.k ≤ length l.entries;
  above : is_above l.station l.number (drop l.k l.entries) ≡ true;
}

abbrev pub decreases-loop-k : goal.decreases-loop-k
decreases-loop-k g l = l.k
