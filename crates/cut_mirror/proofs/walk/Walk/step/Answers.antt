use Rattle.std.proofs.Common.{◌<◌, length, ap, sym, subst}
use Rattle.room_core.specs.History.{state_in}
use Rattle.cut_mirror.specs.Walks.{Walked}
use Rattle.cut_mirror.proofs.Walking.{one_more}
use Rattle.cut_mirror.proofs.walk.Walk.step.Goals as goal

pub invariant_of-self-2 : goal.invariant_of-self-2
invariant_of-self-2 g c =
    let there = subst (λ (w : Walked _ _ _). w.point < length w.entries) (sym c.self.view_is) c.requires in (
      c.apply.ensures.good,
      one_more g.O.PartObject.meaning g.O.PartObject.opens c.self.inside.object.now c.self.inside.opening.now
          c.self.inside.parts.items c.apply.new.parts.items c.self.inside.entries.now c.self.inside.point
          c.index-self-place.result c.self.invariant.1 there (ap state_in c.in-Ok.ensures.meant),
    )
