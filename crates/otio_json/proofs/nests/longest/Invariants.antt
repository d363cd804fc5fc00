use Rattle.std.proofs.Common.{◌≡◌, drop}
use Rattle.otio_json.specs.Nests.{longest, longest_from}
use Rattle.otio_json.proofs.nests.longest.Given as goal

abbrev pub invariant-loop-layer : goal.invariant-loop-layer
invariant-loop-layer l = longest_from l.most (drop l.layer-index l.layers) ≡ longest l.layers
