use Rattle.std.proofs.Common.{ap, ◌∙◌}
use Rattle.cut_room.proofs.Gathering.{given_entries, given_opening, given_station}
use Rattle.cut_room.proofs.committing.give_back.Goals as goal

pub give_pass-requires-clause-has : goal.give_pass-requires-clause-has
give_pass-requires-clause-has g c =
    rw c.give_seats.ensures.journal (given_station c.args.held.now.numbers c.args.turn.now.journal c.args.station c.requires.station)

pub returns-clause-pass : goal.returns-clause-pass
returns-clause-pass g c =
    let ns = c.args.held.now.numbers in
    let v = c.args.turn.now.journal in
    let p = c.give_pass.ensures.pass in (
      p.0,
      p.1 ∙ (ap (λ v. v.opening) c.give_seats.ensures.journal ∙ given_opening ns v),
      p.2 ∙ (ap (λ v. v.entries) c.give_seats.ensures.journal ∙ given_entries ns v),
    )
