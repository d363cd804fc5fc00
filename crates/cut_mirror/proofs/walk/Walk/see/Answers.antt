use Rattle.std.proofs.Common.{◌<◌, length, sym, subst, ◌∙◌, arith}
use Rattle.cut_mirror.specs.Walks.{IsSeen, Walked, seen_by}
use Rattle.cut_mirror.proofs.Seeing.{part_below, part_there, seen_there_is}
use Rattle.cut_mirror.proofs.walk.Walk.see.Goals as goal

pub index-requires : goal.index-requires
index-requires g c =
    let o = c.self.inside.object.now in
    let less = part_below (g.O.PartObject.good o) 0 (g.O.PartObject.count o) c.self.inside.parts.items c.in-Ok.part
    c.self.invariant.0 c.in-Ok.ensures.within in
    omega (arith, less, c.self.inside.parts.ok)

pub see-requires : goal.see-requires
see-requires g c =
    let o = c.self.inside.object.now in
    let found = part_there (g.O.PartObject.good o) (g.O.PartObject.count o) c.self.inside.parts.items c.in-Ok.part
    c.index.result.now c.self.invariant.0 c.in-Ok.ensures.within in record {
      good = (
        c.in-Ok.part,
        sym c.ask_part.ensures.asked ∙ c.in-Ok.is,
        subst (λ p. g.O.PartObject.good o c.in-Ok.part p) (sym c.index.ensures) found.1,
      );
    }

pub returns-clause-seen : goal.returns-clause-seen
returns-clause-seen g c =
    let o = c.self.inside.object.now in
    let less = part_below (g.O.PartObject.good o) 0 (g.O.PartObject.count o) c.self.inside.parts.items c.in-Ok.part
    c.self.invariant.0 c.in-Ok.ensures.within in
    subst (λ (w : Walked _ _ _). IsSeen (seen_by (g.O.PartObject.asked w.object c.args.ask.now) (g.O.PartObject.seen
    w.object) w.parts c.args.ask.now) c.see.result) c.self.view_is
    (seen_there_is (g.O.PartObject.asked o c.args.ask.now) (g.O.PartObject.seen o) c.self.inside.parts.items
    c.args.ask.now c.in-Ok.part c.index.result.now c.see.result (sym c.ask_part.ensures.asked ∙ c.in-Ok.is) less
    c.index.ensures c.see.ensures)
