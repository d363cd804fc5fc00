use Rattle.std.proofs.Common.{◌≡◌, ◌≤◌, ℕ, drop, length, take}
use Rattle.composables.specs.Joined.{frames_in}
use Rattle.link_groups.proofs.Unmarked.{Unmarked}
use Rattle.link_groups.proofs.passing.pass_unmarked.Given as goal

abbrev pub invariant-loop-row : goal.invariant-loop-row
invariant-loop-row l = record {
  within : l.count ≤ length l.fn.items;
  left : l.items ≡ drop l.count l.fn.items;
  frames : l.frames ≡ frames_in (take l.count l.fn.items);
  most : l.frames ≤ l.most;
  unmarked : Unmarked l.marks (take l.count l.fn.items);
}

abbrev pub decreases-loop-row : goal.decreases-loop-row
decreases-loop-row l = length l.items
