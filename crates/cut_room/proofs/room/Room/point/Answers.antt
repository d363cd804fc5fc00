use Rattle.std.proofs.Common.{ap, sym, ◌∙◌}
use Rattle.history_points.proofs.Meeting.{pass_there}
use Rattle.cut_room.proofs.Gathering.{pass_stands, history_of}
use Rattle.cut_room.proofs.Passes.{at_point}
use Rattle.cut_room.proofs.room.Room.point.Goals as goal

pub give_pass-pass-requires-clause-has : goal.give_pass-pass-requires-clause-has
give_pass-pass-requires-clause-has g c =
    rw (c.look-point.ensures.same, c.station-station.ensures.number)
    (pass_there c.lock-turn.result.journal c.gather_pass.new.self.journal c.args.pass c.gather_pass.ensures.at)

pub returns : goal.returns
returns g c =
    let s = c.self.inside in
    let journal = c.gather_pass.new.self.journal in
    let look = c.look-point.ensures in
    let back = c.give_pass-pass.ensures.pass in
    let history = history_of g.O.PartObject.meaning g.O.PartObject.opens g.J.Naming.stations g.J.Naming.opening journal.opening journal.entries look.opening look.journal in
    let stands = pass_stands g.O.PartObject.meaning g.J.Naming.opening c.lock-turn.result.journal journal c.args.pass c.gather_pass.ensures.at look.opening look.agree in
    rw (← c.self.view_is) record {
      at = at_point g.O.PartObject.meaning g.O.PartObject.opens g.J.Naming.opening (s.object, s.opening.items) journal.entries c.args.pass c.give_pass-pass.result c.look-point.result
          c.self.invariant.0 history stands (back.0 ∙ c.station-station.ensures.number)
          (back.1 ∙ (ap (λ t. t.journal.opening) look.same ∙ (look.opening ∙ sym c.station-station.ensures.opening)))
          (back.2 ∙ ap (λ t. t.journal.entries) look.same) look.count;
    }
