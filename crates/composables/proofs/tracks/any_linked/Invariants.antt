use Rattle.std.proofs.Common.{take}
use Rattle.composables.specs.Good.{AllUnlinked}
use Rattle.composables.proofs.tracks.any_linked.Given as goal

abbrev pub invariant-loop-view : goal.invariant-loop-view
invariant-loop-view l = AllUnlinked (take l.view-index l.items)
