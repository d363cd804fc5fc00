use Rattle.std.proofs.Common.{◌≡◌, ◌+◌, ◌++◌, drop, take, map, length}
use Rattle.take_back.specs.Parts.{given_back}
use Rattle.take_back.proofs.back.give_all_back.Given as goal

abbrev pub invariant-loop-at : goal.invariant-loop-at
invariant-loop-at g l = record {
  as_many : length l.parts.items ≡ length l.fn.parts.items;
  so_far : take l.at l.parts.items ++ map given_back (drop l.at l.parts.items) ≡ map given_back l.fn.parts.items;
  steps : l.steps ≡ l.fn.steps + l.at;
}
