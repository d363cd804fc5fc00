use Rattle.std.proofs.Common.{◌≡◌, ◌+◌, ◌≤◌, ◌++◌, drop}
use Rattle.std.specs.Option.{option_to_list}
use Rattle.edit_splice.specs.Counting.{begun, numbers}
use Rattle.edit_splice.proofs.counting.begun.Given as goal

abbrev pub invariant-loop-view : goal.invariant-loop-view
invariant-loop-view g l = record {
  same : l.count + begun l.last (numbers (drop l.view-index l.items) ++ option_to_list l.fn.behind) ≡ begun l.fn.before (numbers l.items ++ option_to_list l.fn.behind);
  few : l.count ≤ l.view-index;
  steps : l.steps ≡ l.fn.steps + l.view-index;
}
