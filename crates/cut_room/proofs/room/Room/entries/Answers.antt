use Rattle.std.proofs.Common.{length, take, drop, ap, sym, ◌∙◌, arith, subst}
use Rattle.edit_journal.specs.Faults.{SaysNoPoint}
use Rattle.cut_room.proofs.Excerpts.{excerpt_fault}
use Rattle.history_points.proofs.Meeting.{pass_there}
use Rattle.cut_room.proofs.Gathering.{pass_stands, history_of}
use Rattle.cut_room.proofs.Passes.{at_point}
use Rattle.cut_room.proofs.room.Room.entries.Goals as goal

pub give_pass-pass-requires-clause-has : goal.give_pass-pass-requires-clause-has
give_pass-pass-requires-clause-has g c =
    rw (c.look-length.ensures.same, c.station-station.ensures.number)
    (pass_there c.lock-turn.result.journal c.gather_pass.new.self.journal c.args.pass c.gather_pass.ensures.at)

pub returns-in-Ok : goal.returns-in-Ok
returns-in-Ok g c =
    let s = c.self.inside in
    let journal = c.gather_pass.new.self.journal in
    let look = c.look-length.ensures in
    let back = c.give_pass-pass.ensures.pass in
    let history = history_of g.O.PartObject.meaning g.O.PartObject.opens g.J.Naming.stations g.J.Naming.opening journal.opening journal.entries look.opening look.journal in
    let stands = pass_stands g.O.PartObject.meaning g.J.Naming.opening c.lock-turn.result.journal journal c.args.pass c.gather_pass.ensures.at look.opening look.agree in
    let within = rw c.in-Ok.is at c.entries-copies.ensures.within in
    let items = rw c.in-Ok.is at c.entries-copies.ensures.ok in
    rw (← c.self.view_is) (
      at_point g.O.PartObject.meaning g.O.PartObject.opens g.J.Naming.opening (s.object, s.opening.items) journal.entries c.args.pass c.give_pass-pass.result c.look-length.result
          c.self.invariant.0 history stands (back.0 ∙ c.station-station.ensures.number)
          (back.1 ∙ (ap (λ t. t.journal.opening) look.same ∙ (look.opening ∙ sym c.station-station.ensures.opening)))
          (back.2 ∙ ap (λ t. t.journal.entries) look.same) look.count,
      omega (arith, within, ap (λ t. length t.journal.entries) look.same, look.count),
      items ∙ ap (λ l. take c.args.most (drop c.args.from l)) (sym back.2),
    )

pub returns-in-Err : goal.returns-in-Err
returns-in-Err g c =
    let s = c.self.inside in
    let journal = c.gather_pass.new.self.journal in
    let look = c.look-length.ensures in
    let back = c.give_pass-pass.ensures.pass in
    let history = history_of g.O.PartObject.meaning g.O.PartObject.opens g.J.Naming.stations g.J.Naming.opening journal.opening journal.entries look.opening look.journal in
    let stands = pass_stands g.O.PartObject.meaning g.J.Naming.opening c.lock-turn.result.journal journal c.args.pass c.gather_pass.ensures.at look.opening look.agree in
    let entries = back.2 ∙ ap (λ t. t.journal.entries) look.same in
    let at = at_point g.O.PartObject.meaning g.O.PartObject.opens g.J.Naming.opening (s.object, s.opening.items) journal.entries c.args.pass c.give_pass-pass.result (length c.give_pass-pass.result.entries)
    c.self.invariant.0 history stands (back.0 ∙ c.station-station.ensures.number)
    (back.1 ∙ (ap (λ t. t.journal.opening) look.same ∙ (look.opening ∙ sym c.station-station.ensures.opening))) entries (ap length entries) in
    let says = rw c.in-Err.is at c.entries-copies.ensures.no_point in
    excerpt_fault (g.O.PartObject.meaning c.args.self.now.object) c.args.self.now.parts c.args.from c.args.most c.args.pass c.give_pass-pass.result c.in-Err.fault
    (rw (← c.self.view_is) at) (subst (λ l. SaysNoPoint c.in-Err.fault c.args.from (length l)) (sym back.2) says)
