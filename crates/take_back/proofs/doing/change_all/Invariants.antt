use Rattle.std.proofs.Common.{◌≡◌, ◌+◌, ◌++◌, drop, take, length}
use Rattle.std.specs.Vec.Iter.{into_iter_items}
use Rattle.take_back.specs.Parts.{changed}
use Rattle.take_back.proofs.doing.change_all.Given as goal

abbrev pub invariant-loop-part : goal.invariant-loop-part
invariant-loop-part g l = record {
  to_come : l.at + length (into_iter_items l.part-iterator) ≡ length l.parts.items;
  so_far : take l.at l.parts.items ++ changed l.names l.by (drop l.at l.parts.items) (into_iter_items l.part-iterator)
      ≡ changed l.names l.by l.fn.parts.items l.fn.left.items;
}
