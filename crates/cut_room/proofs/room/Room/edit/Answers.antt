use Rattle.std.proofs.Common.{◌≡◌, sym, ◌∙◌, subst, arith}
use Rattle.room_core.specs.Parts.{AscendBetween}
use Rattle.history_points.proofs.NamedCalls.{good-count}
use Rattle.cut_room.proofs.Numbered.{members_of}
use Rattle.cut_room.proofs.Passes.{stays_same, turned_down_first}
use Rattle.cut_room.proofs.room.Room.edit.Goals as goal

pub edit_held-requires-clause-numbers : goal.edit_held-requires-clause-numbers
edit_held-requires-clause-numbers g c =
    let s = c.self.inside in
    let law = g.met.O.PartObject.opening s.object s.opening.items c.self.invariant.1 in
    let parts = good-count (g.O.PartObject.good s.object) (g.O.PartObject.count s.object) s.opening.items law.2 in
    let named = g.met.O.PartObject.named s.object c.args.call (sym c.refuse_names.ensures ∙ c.in-None.is) in
    let names = (g.O.PartObject.meaning s.object).names c.args.call in
    let count : g.O.PartObject.count s.object ≡ s.tracks = omega (arith, parts, c.self.invariant.2) in
    rw (← c.self.view_is)
    (c.in-Ok.ensures.numbers
    ∙ members_of s.tracks c.names-set.result names (omega (arith, law.1, count)) (subst (λ k. AscendBetween 0 k names) count named.ascend) (sym c.names-set.ensures))

pub returns-in-Some-clause-edited : goal.returns-in-Some-clause-edited
returns-in-Some-clause-edited g c =
    let s = c.self.inside in
    rw (← c.self.view_is) (turned_down_first (g.O.PartObject.meaning s.object) s.opening.items c.args.call c.args.pass c.point-pass.result.0 c.point-pass.result.1 c.in-Some.refusal
    (rw (← c.self.view_is) at c.point-pass.ensures.at) (sym c.refuse_names.ensures ∙ c.in-Some.is))

pub returns-in-Err-clause-edited : goal.returns-in-Err-clause-edited
returns-in-Err-clause-edited g c = rw (← c.self.view_is) (stays_same _ _ c.args.pass, sym c.refuse_names.ensures ∙ c.in-None.is)
