use Rattle.std.proofs.Common.{ap, ◌∙◌}
use Rattle.edit_journal.specs.declared.name.Name.TheVariants.{Station}
use Rattle.history_points.proofs.Meeting.{pass_there}
use Rattle.cut_room.proofs.Gathering.{pass_stands}
use Rattle.cut_room.proofs.Replaying.{journal_of, stands_there}
use Rattle.cut_room.proofs.keeping.Kept.meet.Goals as goal

pub give_pass-requires-clause-has : goal.give_pass-requires-clause-has
give_pass-requires-clause-has g c =
    rw (c.look-count.ensures.same, c.station-station.ensures.number)
    (pass_there c.meet.new.turn.journal c.gather_pass.new.self.journal c.args.pass c.gather_pass.ensures.at)

pub returns-clause-journal : goal.returns-clause-journal
returns-clause-journal g c =
    let look = c.look-count.ensures in
    let journal = c.gather_pass.new.self.journal in
    let same = ap (λ v. v.entries) c.gather_pass.ensures.at ∙ ap (λ v. v.entries) c.meet.ensures.turn in
    journal_of g.O.PartObject.meaning g.O.PartObject.opens g.J.Naming.stations journal.opening g.J.Naming.opening journal.entries c.args.turn.now.journal.entries look.opening same look.journal

pub returns-clause-stands : goal.returns-clause-stands
returns-clause-stands g c =
    let look = c.look-count.ensures in
    let journal = c.gather_pass.new.self.journal in
    let same = ap (λ v. v.entries) c.gather_pass.ensures.at ∙ ap (λ v. v.entries) c.meet.ensures.turn in
    stands_there g.O.PartObject.meaning g.J.Naming.opening journal.entries c.args.turn.now.journal.entries (Station c.args.pass.number) c.args.pass.entries same
    (pass_stands g.O.PartObject.meaning g.J.Naming.opening c.meet.new.turn.journal journal c.args.pass c.gather_pass.ensures.at look.opening look.agree)
