use Rattle.recorded_sessions.specs.Places.{IsFront}
use Rattle.recorded_sessions.proofs.session.untold.Given as goal

abbrev pub invariant-loop-place : goal.invariant-loop-place
invariant-loop-place g l = IsFront (g.E.Explains.left l.rows) l.heard l.points l.place l.count l.entries
