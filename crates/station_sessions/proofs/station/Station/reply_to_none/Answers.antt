use Rattle.std.proofs.Common.{◌∙◌}
use Rattle.reply_text.specs.Replies.{fault_of}
use Rattle.station_sessions.proofs.Replying.{bad_replied, same_seated}
use Rattle.station_sessions.proofs.station.Station.reply_to_none.Goals as goal

pub returns : goal.returns
returns g c =
    let s = c.self.inside in
    rw (← c.self.view_is)
    (bad_replied s.room.now s.pass s.counting s.start (record { held = g.P.Keeping.upto s.taken; failures = g.P.Keeping.failures s.taken }) s.line (fault_of c.args.fault.now) c.short.result c.self.invariant.0 (c.short.ensures ∙ c.fault_text.ensures.text))

pub invariant_of-self : goal.invariant_of-self
invariant_of-self g c = let s = c.self.inside in (same_seated s.room.now s.pass s.line c.self.invariant.0, c.self.invariant.1)
