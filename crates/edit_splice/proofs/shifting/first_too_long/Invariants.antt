use Rattle.std.proofs.Common.{◌≡◌, drop}
use Rattle.composables.specs.Limits.{too_long}
use Rattle.edit_splice.specs.Moves.{all_moved}
use Rattle.edit_splice.proofs.shifting.first_too_long.Given as goal

abbrev pub invariant-loop-track : goal.invariant-loop-track
invariant-loop-track l = too_long (all_moved l.shift l.named) ≡ too_long (all_moved l.shift (drop l.track-index l.named))
