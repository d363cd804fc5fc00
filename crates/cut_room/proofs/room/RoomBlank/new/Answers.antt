use Rattle.std.proofs.Common.{arith, sym, ◌∙◌}
use Rattle.history_points.proofs.NamedCalls.{good-count}
use Rattle.cut_room.proofs.room.RoomBlank.new.Goals as goal

pub new-blank-requires-clause-some : goal.new-blank-requires-clause-some
new-blank-requires-clause-some g c =
    let law = g.met.O.PartObject.opening c.args.object c.args.parts.items c.requires.opens in
    (rw c.parts.ensures law.0, omega arith)

pub invariant_of-result : goal.invariant_of-result
invariant_of-result g c =
    let law = g.met.O.PartObject.opening c.args.object c.args.parts.items c.requires.opens in
    let count = good-count (g.O.PartObject.good c.args.object) (g.O.PartObject.count c.args.object) c.args.parts.items law.2 in
    (c.in_ok-blank.ensures.opening, c.requires.opens, c.in_ok-blank.ensures.counts.0 ∙ (c.parts.ensures ∙ sym count), c.in_ok-blank.ensures.counts.1)
