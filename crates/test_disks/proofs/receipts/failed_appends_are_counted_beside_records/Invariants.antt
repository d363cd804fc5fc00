use Rattle.std.specs.Prelude.{◌≡◌}
use Rattle.test_disks.proofs.receipts.failed_appends_are_counted_beside_records.Given as goal

abbrev pub invariant-loop-failures : goal.invariant-loop-failures
invariant-loop-failures l = l.clerk.table ≡ l.receipts
