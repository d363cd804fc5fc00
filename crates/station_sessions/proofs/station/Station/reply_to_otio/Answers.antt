use Rattle.station_sessions.proofs.Replying.{cut_replied, cut_seated, has_pass}
use Rattle.station_sessions.proofs.station.Station.reply_to_otio.Goals as goal

pub taken-pass-requires : goal.taken-pass-requires
taken-pass-requires g c = let s = c.self.inside in has_pass s.room.now s.pass s.line c.self.invariant.0

pub returns : goal.returns
returns g c =
    let s = c.self.inside in
    let is = c.taken-pass.ensures in
    rw (← c.self.view_is, is)
    (cut_replied s.room.now c.taken-pass.result c.cut_at-pass.result.0 s.counting s.start (record { held = g.P.Keeping.upto s.taken; failures = g.P.Keeping.failures s.taken }) s.line (rw is at c.self.invariant.0) c.args.n c.cut_at-pass.result.1 c.cut_reply.result.0 c.cut_reply.result.1
    c.cut_at-pass.ensures.cut (rw c.object-object.ensures at c.cut_reply.ensures))

pub invariant_of-self : goal.invariant_of-self
invariant_of-self g c =
    let s = c.self.inside in
    let is = c.taken-pass.ensures in (
      cut_seated s.room.now c.taken-pass.result c.cut_at-pass.result.0 s.counting s.start (record { held = g.P.Keeping.upto s.taken; failures = g.P.Keeping.failures s.taken }) s.line (rw is at c.self.invariant.0) c.args.n c.cut_at-pass.result.1 c.cut_at-pass.ensures.cut,
      c.self.invariant.1,
    )
