use Rattle.std.proofs.Common.{◌≡◌, ◌++◌, map}
use Rattle.std.specs.Vec.Iter.{into_iter_items}
use Rattle.take_back.specs.Parts.{fresh}
use Rattle.take_back.proofs.kept.fresh_parts.Given as goal

abbrev pub invariant-loop-part : goal.invariant-loop-part
invariant-loop-part g l = l.kept.items ++ map fresh (into_iter_items l.part-iterator) ≡ map fresh l.fn.parts.items
