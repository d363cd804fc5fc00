use Rattle.std.proofs.Common.{◌≡◌, map}
use Rattle.std.specs.List.{range_with_len}
use Rattle.composables.specs.declared.media.Kind.TheVariants.{Video}
use Rattle.otio_json.proofs.opening.plain_kinds.Given as goal

abbrev pub invariant-loop-track : goal.invariant-loop-track
invariant-loop-track l = l.kinds ≡ map (λ _. Video) (range_with_len 0 l.track)
