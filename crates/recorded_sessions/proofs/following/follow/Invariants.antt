use Rattle.recorded_sessions.specs.Telling.{Goes}
use Rattle.recorded_sessions.proofs.following.follow.Given as goal

abbrev pub invariant-loop-index : goal.invariant-loop-index
invariant-loop-index g l = Goes (g.E.Explains.explains l.rows) 1 l.index 0 l.told l.points.items
