use Rattle.std.specs.Prelude.{◌≡◌}
use Rattle.test_disks.proofs.receipts.fail.Given as goal

abbrev pub invariant-loop : goal.invariant-loop
invariant-loop l = (l.clerk.table ≡ l.receipts) × (l.clerk.table ≡ l.fn.clerk.table) × (l.clerk.kept ≡ l.fn.clerk.kept)
