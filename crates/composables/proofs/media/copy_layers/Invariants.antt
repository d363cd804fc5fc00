use Rattle.std.proofs.Common.{◌≡◌, ◌++◌, drop}
use Rattle.composables.proofs.media.copy_layers.Given as goal

abbrev pub invariant-loop-layer : goal.invariant-loop-layer
invariant-loop-layer l = l.all ++ drop l.layer-index l.layers ≡ l.layers
