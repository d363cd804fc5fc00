use Rattle.std.proofs.Common.{◌-◌, ◌≡◌, ◌≤◌}
use Rattle.test_disks.proofs.receipts.filled.Given as goal

abbrev pub decreases-loop-now : goal.decreases-loop-now
decreases-loop-now l = 100000 - l.now

abbrev pub invariant-loop-now : goal.invariant-loop-now
invariant-loop-now l = (l.clerk.table ≡ l.receipts) × (l.clerk.kept ≡ l.now) × (l.now ≤ 100000) × (l.kept ≤ l.now)
