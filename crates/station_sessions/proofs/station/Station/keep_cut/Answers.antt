use Rattle.station_sessions.proofs.Replying.{grown_seated, has_grown, has_pass, unmoved_grown}
use Rattle.station_sessions.proofs.station.Station.keep_cut.Goals as goal

pub taken-pass-requires : goal.taken-pass-requires
taken-pass-requires g c = let s = c.self.inside in has_pass s.room.now s.pass s.line c.self.invariant.0

-- the two ends of the function: nothing was kept, and the pass was at the journal
pub returns-then-not-self : goal.returns-then-not-self
returns-then-not-self g c =
    let s = c.self.inside in
    rw (← c.self.view_is) (unmoved_grown s.room.now s.pass s.counting s.start (record { held = g.P.Keeping.upto s.taken; failures = g.P.Keeping.failures s.taken }) s.line c.self.invariant.0)

pub returns : goal.returns
returns g c =
    let s = c.self.inside in
    let is = c.taken-pass.ensures in
    rw (← c.self.view_is, is)
    (has_grown s.room.now c.taken-pass.result c.keep_cut-pass.result s.counting s.start (record { held = g.P.Keeping.upto s.taken; failures = g.P.Keeping.failures s.taken }) s.line (rw is at c.self.invariant.0) c.keep_cut-pass.ensures.stays)

pub invariant_of-self : goal.invariant_of-self
invariant_of-self g c =
    let s = c.self.inside in
    let is = c.taken-pass.ensures in
    (grown_seated s.room.now c.taken-pass.result c.keep_cut-pass.result s.line (rw is at c.self.invariant.0) c.keep_cut-pass.ensures.stays, c.self.invariant.1)
