use Rattle.history_points.proofs.Meeting.{pass_stands, pass_there}
use Rattle.history_points.proofs.points.met.Goals as goal

pub give_pass-requires-clause-has : goal.give_pass-requires-clause-has
give_pass-requires-clause-has g c =
    rw (c.look-count.ensures.same, c.station-station.ensures.number) (pass_there c.args.turn.now.journal c.gather_pass.new.self.journal c.args.pass c.gather_pass.ensures.at)

pub returns-clause-front : goal.returns-clause-front
returns-clause-front g c =
    let look = c.look-count.ensures in
    (pass_stands g.O.PartObject.meaning g.O.PartObject.opens g.J.Naming.stations c.args.turn.now.journal c.gather_pass.new.self.journal c.args.pass c.gather_pass.ensures.at look.journal look.agree).0

pub returns-clause-own : goal.returns-clause-own
returns-clause-own g c =
    let look = c.look-count.ensures in
    (pass_stands g.O.PartObject.meaning g.O.PartObject.opens g.J.Naming.stations c.args.turn.now.journal c.gather_pass.new.self.journal c.args.pass c.gather_pass.ensures.at look.journal look.agree).1
