use Rattle.station_sessions.proofs.Replying.{has_pass, sight_replied, sight_seated}
use Rattle.station_sessions.proofs.station.Station.reply_to_ask.Goals as goal

pub taken-pass-requires : goal.taken-pass-requires
taken-pass-requires g c = let s = c.self.inside in has_pass s.room.now s.pass s.line c.self.invariant.0

pub returns : goal.returns
returns g c =
    let s = c.self.inside in
    let is = c.taken-pass.ensures in
    rw (← c.self.view_is, is)
    (sight_replied s.room.now c.taken-pass.result c.see-pass.result.0 s.counting s.start (record { held = g.P.Keeping.upto s.taken; failures = g.P.Keeping.failures s.taken }) s.line (rw is at c.self.invariant.0) c.args.ask.now c.see-pass.result.1 c.sight_reply.result.0 c.sight_reply.result.1
    c.see-pass.ensures.looked c.sight_reply.ensures)

pub invariant_of-self : goal.invariant_of-self
invariant_of-self g c =
    let s = c.self.inside in
    let is = c.taken-pass.ensures in (
      sight_seated s.room.now c.taken-pass.result c.see-pass.result.0 s.counting s.start (record { held = g.P.Keeping.upto s.taken; failures = g.P.Keeping.failures s.taken }) s.line (rw is at c.self.invariant.0) c.args.ask.now c.see-pass.result.1 c.see-pass.ensures.looked,
      c.self.invariant.1,
    )
