use Rattle.std.proofs.Common.{◌≡◌, ◌≤◌, ◌+◌, ◌++◌, take}
use Rattle.std.specs.Option.{option_to_list}
use Rattle.composables.specs.Joined.{joined}
use Rattle.composables.proofs.laying.lay_between.Given as goal

abbrev pub invariant-loop-view : goal.invariant-loop-view
invariant-loop-view g l = record {
  joined : l.laid.items ≡ joined (option_to_list l.fn.before ++ take l.view-index l.middle);
  least : l.fn.steps ≤ l.steps;
  most : l.steps ≤ l.fn.steps + l.view-index;
}
