use Rattle.std.proofs.Common.{◌≡◌, ◌++◌}
use Rattle.std.specs.Vec.Iter.{into_iter_items}
use Rattle.kept_rooms.proofs.remaking.held.Given as goal

abbrev pub invariant-loop-pass : goal.invariant-loop-pass
invariant-loop-pass g l = l.held.items ++ into_iter_items l.pass-iterator ≡ l.fn.passes.items
