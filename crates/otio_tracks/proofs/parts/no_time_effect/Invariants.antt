use Rattle.std.proofs.Common.{◌≡◌, drop, map}
use Rattle.json_tree.specs.View.{tree_of}
use Rattle.otio_tracks.specs.Parts.{no_time_effect}
use Rattle.otio_tracks.proofs.parts.no_time_effect.Given as goal

abbrev pub invariant-loop-effect : goal.invariant-loop-effect
invariant-loop-effect l = no_time_effect (map tree_of (drop l.effect-index l.effects)) ≡ no_time_effect (map tree_of l.effects)
