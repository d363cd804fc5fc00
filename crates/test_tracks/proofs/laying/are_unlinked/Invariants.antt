use Rattle.std.proofs.Common.{◌↔◌, drop}
use Rattle.composables.specs.Good.{AllUnlinked}
use Rattle.test_tracks.proofs.laying.are_unlinked.Given as goal

abbrev pub invariant-loop-view : goal.invariant-loop-view
invariant-loop-view l = AllUnlinked (drop l.view-index l.views) ↔ AllUnlinked l.views
