use Rattle.made_sessions.proofs.Scripting.{writes_more}
use Rattle.made_sessions.proofs.scripts.script_text.Goals as goal

pub loop-line-preserved : goal.loop-line-preserved
loop-line-preserved c =
    rw (c.in_ok-put_line.ensures, c.next-call.ensures.call, c.next-call.ensures.script)
    (writes_more c.args.number c.args.count c.args.station c.loop-line.out.items c.loop-line.script.station c.loop-line.script.place c.loop-line.script.word c.loop-line.line c.loop-line-test.true c.loop-line.invariant)
