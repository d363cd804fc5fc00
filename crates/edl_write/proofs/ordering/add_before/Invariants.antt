use Rattle.std.proofs.Common.{◌≡◌, ◌≤◌, ◌-◌, ◌++◌, drop, length}
use Rattle.edl_write.specs.Merging.{before, behind}
use Rattle.edl_write.proofs.ordering.add_before.Given as goal

abbrev pub invariant-loop-done : goal.invariant-loop-done
invariant-loop-done l = record {
  within : l.done ≤ length l.others;
  added : l.all.items ++ before l.event (drop l.done l.others) ≡ l.fn.all.items ++ before l.event (drop l.from l.others);
  rest : behind l.event (drop l.done l.others) ≡ behind l.event (drop l.from l.others);
}

abbrev pub decreases-loop-done : goal.decreases-loop-done
decreases-loop-done l = length l.others - l.done
