use Rattle.std.proofs.Common.{sym, ap}
use Rattle.room_ports.specs.Sides.{Lent}
use Rattle.cut_server.proofs.main_call.run_over.Goals as goal

-- the line stands over the same input and output to its end
pub returns : goal.returns
returns g c =
    let read = c.input-1.given.1 (sym (ap (λ (l : Lent). l.input) c.run_session.ensures.lent)) in
    let written = c.output-1.given.1 (sym (ap (λ (l : Lent). l.output) c.run_session.ensures.lent)) in
    λ o is. rw (read, written) (c.run_session.ensures.ends o is)
