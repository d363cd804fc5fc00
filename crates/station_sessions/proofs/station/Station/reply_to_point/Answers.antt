use Rattle.std.proofs.Common.{◌∙◌}
use Rattle.station_sessions.proofs.Replying.{has_pass, point_replied, point_seated, told_least}
use Rattle.station_sessions.proofs.station.Station.reply_to_point.Goals as goal

pub taken-pass-requires : goal.taken-pass-requires
taken-pass-requires g c = let s = c.self.inside in has_pass s.room.now s.pass s.line c.self.invariant.0

pub returns : goal.returns
returns g c =
    let s = c.self.inside in
    let is = c.taken-pass.ensures in
    rw (← c.self.view_is, is)
    (point_replied s.room.now c.taken-pass.result c.point-pass.result.0 s.counting s.start (record { held = g.P.Keeping.upto s.taken; failures = g.P.Keeping.failures s.taken }) s.line (rw is at c.self.invariant.0)
    (record { held = g.P.Keeping.upto c.look-kept.new.taken; failures = g.P.Keeping.failures c.look-kept.new.taken }) c.point-pass.result.1 c.told_point-point.result c.short.result c.look-kept.ensures.stays
    c.point-pass.ensures.at c.told_point-point.ensures.within (told_least c.look-kept.result (g.P.Keeping.upto c.look-kept.new.taken) c.told_point-point.result c.point-pass.result.1 c.look-kept.ensures.known c.told_point-point.ensures.kept) (c.short.ensures ∙ c.point_text.ensures.text))

pub invariant_of-self : goal.invariant_of-self
invariant_of-self g c =
    let s = c.self.inside in
    let is = c.taken-pass.ensures in (
      point_seated s.room.now c.taken-pass.result c.point-pass.result.0 s.counting s.start (record { held = g.P.Keeping.upto s.taken; failures = g.P.Keeping.failures s.taken }) s.line (rw is at c.self.invariant.0) c.point-pass.result.1 c.point-pass.ensures.at,
      c.self.invariant.1,
    )
