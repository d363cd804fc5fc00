use Rattle.std.proofs.Common.{◌≡◌, slice_get, sym, ap, ◌∙◌, arith, subst}
use Rattle.out_of_memory.specs.Answers.{Tells}
use Rattle.cut_room.proofs.Passes.{one_good}
use Rattle.cut_room.proofs.room.Room.see_held.Goals as goal

pub part-requires : goal.part-requires
part-requires g c =
    let h = c.requires in
    let one = one_good (g.O.PartObject.good c.args.self.now.object) h.0 c.args.held.now.parts h.2 in
    rw one.1 (omega arith)

pub see-requires : goal.see-requires
see-requires g c =
    let s = c.self.inside in
    let h = rw (← c.self.view_is) at c.requires in
    let one = one_good (g.O.PartObject.good s.object) h.0 c.args.held.now.parts h.2 in
    let is = sym (ap (λ l. slice_get l 0) one.1) ∙ c.part.ensures.value in
    let same : one.0 ≡ c.part.result.now = Prim.grind (arith, is) in
    record { good = (h.0, h.1, subst (g.O.PartObject.good s.object h.0) same one.2) }

pub returns : goal.returns
returns g c =
    let s = c.self.inside in
    let h = rw (← c.self.view_is) at c.requires in
    let one = one_good (g.O.PartObject.good s.object) h.0 c.args.held.now.parts h.2 in
    let is = sym (ap (λ l. slice_get l 0) one.1) ∙ c.part.ensures.value in
    let same : one.0 ≡ c.part.result.now = Prim.grind (arith, is) in
    rw (← c.self.view_is) (one.0, one.1, subst (λ p. Tells (g.O.PartObject.seen s.object p c.args.ask.now) c.see.result) (sym same) c.see.ensures)
