use Rattle.std.proofs.Common.{◌≡◌, ◌+◌, ◌*◌, ◌≤◌, drop, take, sum_by}
use Rattle.composables.specs.Limits.{too_many}
use Rattle.edit_splice.specs.Moves.{all_moved}
use Rattle.composables.specs.Sizes.{size_of}
use Rattle.edit_splice.proofs.shifting.first_too_many.Given as goal

abbrev pub invariant-loop-track : goal.invariant-loop-track
invariant-loop-track g l = record {
  found : too_many (all_moved l.shift l.named) ≡ too_many (all_moved l.shift (drop l.track-index l.named));
  least : l.fn.steps ≤ l.steps;
  most : l.steps ≤ l.fn.steps + 3 * sum_by size_of (take l.track-index l.named);
}
