use Rattle.std.proofs.Common.{◌≡◌, ◌+◌, ◌*◌, ◌≤◌, take, sum_by}
use Rattle.composables.specs.Sizes.{size_of}
use Rattle.edit_splice.specs.Moves.{all_moved}
use Rattle.edit_splice.proofs.shifting.all_moved.Given as goal

abbrev pub invariant-loop-track : goal.invariant-loop-track
invariant-loop-track g l = record {
  moved : l.all.items ≡ all_moved l.shift (take l.track-index l.named);
  least : l.fn.steps ≤ l.steps;
  most : l.steps ≤ l.fn.steps + 8 * sum_by size_of (take l.track-index l.named);
}
