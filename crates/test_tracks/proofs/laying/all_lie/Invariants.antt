use Rattle.std.proofs.Common.{◌↔◌, drop}
use Rattle.composables.specs.Good.{EachLiesIn}
use Rattle.test_tracks.proofs.laying.all_lie.Given as goal

abbrev pub invariant-loop-index : goal.invariant-loop-index
invariant-loop-index l = EachLiesIn l.table (drop l.index l.views) ↔ EachLiesIn l.table l.views
