use Rattle.std.proofs.Common.{◌≡◌, ◌+◌}
use Rattle.kept_desk.proofs.counting.Counting.add_kept.Given as goal

abbrev pub invariant-loop : goal.invariant-loop
invariant-loop l = record {
  table : l.self-inside.clerk.table ≡ l.self-inside.receipts;
  so_far : l.self-inside.clerk ≡ record l.fn.self { kept = l.fn.self.kept + l.counter };
}
