use Rattle.std.proofs.Common.{◌≡◌, ◌≤◌, ◌-◌}
use Rattle.kept_desk.proofs.desk.Desk.keep_up_to.Given as goal

abbrev pub invariant-loop-alloc : goal.invariant-loop-alloc
invariant-loop-alloc g l = record {
  least : l.fn.self.file.count ≤ l.self.file.count;
  same : l.self.counts.failed ≡ l.fn.self.counts.failed;
}

abbrev pub decreases-loop-alloc : goal.decreases-loop-alloc
decreases-loop-alloc g l = l.n - l.self.file.count
