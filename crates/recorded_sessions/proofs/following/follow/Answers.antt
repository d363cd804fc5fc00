use Rattle.std.proofs.Common.{sym, ◌∙◌}
use Rattle.recorded_sessions.proofs.Goings.{goes_on, stops_there}
use Rattle.recorded_sessions.proofs.following.follow.Goals as goal

pub loop-index-preserved : goal.loop-index-preserved
loop-index-preserved g c =
    goes_on (g.E.Explains.explains c.args.rows.now) c.args.tells.now c.requires.known c.loop-index.index _
    c.loop-index-test.true c.loop-index.told c.loop-index.points.items c.loop-index.invariant c.in-Some.after
    c.put_own.new.points.items (sym c.after.ensures ∙ c.in-Some.is) c.in_ok-put_own-in-Some.ensures

pub returns-in-None-clause-stop : goal.returns-in-None-clause-stop
returns-in-None-clause-stop g c =
    stops_there (g.E.Explains.explains c.args.rows.now) c.args.tells.now c.requires.known c.loop-index.index _
    c.loop-index-test.true c.loop-index.told c.loop-index.points.items c.loop-index.invariant
    (sym c.after.ensures ∙ c.in-None.is)
