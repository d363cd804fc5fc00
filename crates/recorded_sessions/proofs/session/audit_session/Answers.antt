use Rattle.recorded_sessions.proofs.Refusing.{never_followed, never_untold}
use Rattle.recorded_sessions.proofs.Settled.{session_of}
use Rattle.recorded_sessions.proofs.session.audit_session.Goals as goal

pub returns-in-Err-clause-refused : goal.returns-in-Err-clause-refused
returns-in-Err-clause-refused g c = λ refusal session.
    never_followed (g.E.Explains.explains c.args.rows.now) (g.E.Explains.left c.args.rows.now) c.args.heard.now c.args.entries.now
    c.args.tells.now c.requires.known c.requires.own c.requires.pairs session c.in-Err.stop c.in-Err.ensures.stop refusal

pub returns-in-Some-2-clause-refused : goal.returns-in-Some-2-clause-refused
returns-in-Some-2-clause-refused g c = λ refusal session.
    never_untold (g.E.Explains.explains c.args.rows.now) (g.E.Explains.left c.args.rows.now) c.args.heard.now c.args.entries.now
    c.args.tells.now c.requires.known c.requires.own c.requires.pairs session c.in-Some-2.place c.in-Ok.followed.told
    c.in-Ok.followed.points.items c.in-Ok.ensures.goes c.in-None.ensures (rw (c.in-Some-2.is, c.deref.ensures.value) at c.in_ok-place.ensures)

pub returns-clause-explained : goal.returns-clause-explained
returns-clause-explained g c =
    session_of (g.E.Explains.explains c.args.rows.now) (g.E.Explains.left c.args.rows.now) c.args.heard.now c.args.entries.now
    c.args.tells.now c.in-Ok.followed.told c.in-Ok.followed.points.items c.requires.known c.requires.own c.requires.pairs
    c.in-Ok.ensures.goes c.in-None.ensures (rw (c.in-None-2.is, c.deref.ensures.value) at c.in_ok-place.ensures)
