use Rattle.std.proofs.Common.{refl, ap, sym, ◌∙◌}
use Rattle.cut_room.proofs.Passes.{at_point, held_parts}
use Rattle.cut_room.proofs.Putting.{homes_back}
use Rattle.cut_room.proofs.room.Room.look.Goals as goal

pub give_back-pass-requires-clause-parts : goal.give_back-pass-requires-clause-parts
give_back-pass-requires-clause-parts g c = rw c.gather-point.ensures.seats c.gather-point.ensures.gathered.has_parts

pub give_back-pass-requires-clause-station : goal.give_back-pass-requires-clause-station
give_back-pass-requires-clause-station g c = rw c.station-station.ensures.number c.gather-point.ensures.gathered.has_pass

pub give_back-pass-requires-clause-tokens : goal.give_back-pass-requires-clause-tokens
give_back-pass-requires-clause-tokens g c = rw c.gather-point.ensures.seats c.gather-point.ensures.gathered.tokens

pub returns-clause-homes : goal.returns-clause-homes
returns-clause-homes g c =
    let h = c.args.held.now in
    let all = c.gather-point.ensures.gathered in
    let back = c.give_back-pass.ensures in
    let same = c.gather-point.ensures.seats in
    let journal = c.gather-point.new.turn.journal in
    rw (back.same.0, back.same.1, back.same.2, same)
    (homes_back g.O.PartObject.meaning g.O.PartObject.opens g.J.Naming.opening journal.opening journal.entries journal.entries h.numbers h.parts h.versions c.give_back-pass.new.held.seats
    c.requires.homes.parts c.requires.homes.versions all.parts_stand all.journal (back.seats ∙ ap (λ h. h.numbers) same) all.opening_is refl back.know)

pub returns-clause-at : goal.returns-clause-at
returns-clause-at g c =
    let s = c.self.inside in
    let all = c.gather-point.ensures.gathered in
    let back = c.give_back-pass.ensures.pass in
    let journal = c.gather-point.new.turn.journal in
    rw (← c.self.view_is)
    (at_point g.O.PartObject.meaning g.O.PartObject.opens g.J.Naming.opening (s.object, s.opening.items) journal.entries c.args.pass c.give_back-pass.result c.gather-point.result
    c.self.invariant.0 all.journal all.pass_stands (back.0 ∙ c.station-station.ensures.number)
    (back.1 ∙ (all.opening_is ∙ sym c.station-station.ensures.opening)) back.2 c.gather-point.ensures.count)

pub returns-clause-parts : goal.returns-clause-parts
returns-clause-parts g c =
    let s = c.self.inside in
    let h = c.args.held.now in
    let all = c.gather-point.ensures.gathered in
    let journal = c.gather-point.new.turn.journal in
    let back = c.give_back-pass.ensures in
    rw (← c.self.view_is, back.pass.2, back.same.0, back.same.1, c.gather-point.ensures.seats)
    (held_parts g.O.PartObject.meaning g.O.PartObject.opens g.J.Naming.opening (s.object, s.opening.items) journal.entries h.numbers h.parts h.versions
    c.self.invariant.0 all.journal all.parts_stand c.requires.homes.parts c.requires.homes.versions)

pub returns-clause-same : goal.returns-clause-same
returns-clause-same g c =
    let same = c.give_back-pass.ensures.same in
    rw (same.0, same.1, c.gather-point.ensures.seats) (refl, refl)
