use Rattle.std.proofs.Common.{◌≡◌, ◌+◌, ◌*◌, ◌≤◌, ◌++◌, [], drop, length}
use Rattle.line_table.specs.CallTexts.{numbers_after}
use Rattle.line_table.proofs.calls.put_items.Given as goal

-- what is written so far, and the numbers to come; each takes at most ten digits and a comma
abbrev pub invariant-loop-item : goal.invariant-loop-item
invariant-loop-item l = record {
  text : l.out.items ++ numbers_after l.lead (drop l.item-index l.items) ≡ l.fn.out.items ++ numbers_after [] l.items;
  lead : length l.lead ≤ 1;
  len : l.out.len ≤ l.fn.out.len + 11 * l.item-index;
  room : l.fn.out.cap ≤ l.out.cap;
}
