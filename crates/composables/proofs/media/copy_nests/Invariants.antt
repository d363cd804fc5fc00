use Rattle.std.proofs.Common.{◌≡◌, ◌++◌, drop}
use Rattle.composables.proofs.media.copy_nests.Given as goal

abbrev pub invariant-loop-nest : goal.invariant-loop-nest
invariant-loop-nest l = l.all ++ drop l.nest-index l.nests ≡ l.nests
