use Rattle.std.proofs.Common.{◌∙◌, arith}
use Rattle.room_keepers.specs.Faults.{IsCounted}
use Rattle.station_sessions.proofs.Knowing.{begun_session, session_knows}
use Rattle.station_sessions.proofs.serve.serve_session.Goals as goal

pub returns-clause-ends : goal.returns-clause-ends
returns-clause-ends g c = λ o from is origin held.
    let parts = c.into_parts-pass.ensures in
    rw (parts.entries, parts.held, parts.failures)
    (session_knows (λ fault. g.P.Keeping.may_fail fault × IsCounted fault c.serve-end.new.session.failures) o from c.args.pass.number _ c.serve-end.new.session _ _ c.serve-end.result
    (begun_session o from c.args.room.now c.args.pass c.args.setting.counting c.args.setting.start _ is _ c.requires.legal origin held (omega (arith, c.last-line_number.ensures))) c.serve-end.ensures.ends)

pub returns-clause-station : goal.returns-clause-station
returns-clause-station g c = c.into_parts-pass.ensures.number ∙ c.serve-end.ensures.station

pub returns-clause-written : goal.returns-clause-written
returns-clause-written g c = rw c.into_parts-pass.ensures.entries c.serve-end.ensures.written
