use Rattle.std.proofs.Common.{◌∷◌, ap, ◌∙◌}
use Rattle.std.specs.Vec.Iter.{into_iter_items}
use Rattle.history_points.proofs.Slotted.{no_hole_first}
use Rattle.history_points.proofs.places.Places.into_vec.Goals as goal

pub unreachable-requires : goal.unreachable-requires
unreachable-requires g c =
    no_hole_first (into_iter_items c.loop-slot.slot-iterator) (into_iter_items c.next.new.self) c.loop-slot.invariant.whole
    (c.in-Some.ensures.steps.0 ∙ ap (λ slot. slot ∷ into_iter_items c.next.new.self) c.in-None-slot.is)
