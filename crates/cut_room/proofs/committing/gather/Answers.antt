use Rattle.std.proofs.Common.{◌≡◌, ◌+◌, length, arith}
use Rattle.cut_room.proofs.Gathering.{all_there}
use Rattle.cut_room.proofs.committing.gather.Goals as goal

pub take_seats-requires : goal.take_seats-requires
take_seats-requires g c =
    record { tokens = omega (arith, c.gather_pass.ensures.tokens.0, c.requires.tokens, c.requires.few, c.requires.homes.seats) }

pub returns-clause-gathered : goal.returns-clause-gathered
returns-clause-gathered g c =
    let h = c.args.held.now in
    let look = c.look.ensures in
    let count : c.take_seats.new.turn.tokens ≡ length h.numbers + 1 =
    omega (arith, c.take_seats.ensures.tokens.0, c.gather_pass.ensures.tokens.0, c.requires.tokens, c.requires.homes.seats) in
    rw look.same
    (all_there g.O.PartObject.meaning g.O.PartObject.opens g.J.Naming.stations g.J.Naming.opening c.args.turn.now.journal c.gather_pass.new.self.journal c.take_seats.new.turn h c.args.pass
    c.gather_pass.ensures.at c.take_seats.ensures.journal look.opening look.journal look.agree c.requires.homes count)
