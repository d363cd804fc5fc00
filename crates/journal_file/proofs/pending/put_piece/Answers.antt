use Rattle.std.proofs.Common.{arith}
use Rattle.std.proofs.lemmas.Result.{err_from_is_err_and}
use Rattle.journal_file.proofs.Moments.{law_of}
use Rattle.journal_file.proofs.Appends.{Honest, told_staged_moments, told_staged_err, told_staged_ok, told_since_then}
use Rattle.journal_file.proofs.Appends.{told_calls, told_fewer}
use Rattle.journal_file.proofs.pending.put_piece.Goals as goal

pub returns-in_err-write_and_sync-clause-err : goal.returns-in_err-write_and_sync-clause-err
returns-in_err-write_and_sync-clause-err g c =
    let p = err_from_is_err_and c.from_residual.result c.from_residual.ensures.1 in
    rw p.1 (λ lines place h. told_staged_err lines c.args.piece.now c.args.gate place (g.D.Disk.course c.args.disk.now)
    (g.D.Disk.course c.write_and_sync.new.disk) h c.write_and_sync.ensures.moments)

pub returns-in_err-write_and_sync-clause-moments : goal.returns-in_err-write_and_sync-clause-moments
returns-in_err-write_and_sync-clause-moments g c = λ lines place h. told_staged_moments lines c.args.piece.now
    c.args.gate place (g.D.Disk.course c.args.disk.now) (g.D.Disk.course c.write_and_sync.new.disk) h
    c.write_and_sync.ensures.moments

pub returns-in_err-write_and_sync-clause-calls : goal.returns-in_err-write_and_sync-clause-calls
returns-in_err-write_and_sync-clause-calls g c = told_fewer 2 4 _ _ (omega arith) c.write_and_sync.ensures.calls

pub returns-in_err-open_gate-clause-err : goal.returns-in_err-open_gate-clause-err
returns-in_err-open_gate-clause-err g c =
    let p = err_from_is_err_and c.from_residual-in_err-open_gate.result c.from_residual-in_err-open_gate.ensures.1 in
    rw p.1 (λ lines place h. c.in_err-open_gate.ensures.err lines c.args.piece.now place
    (told_staged_ok lines c.args.piece.now c.args.gate place (g.D.Disk.course c.args.disk.now)
    (g.D.Disk.course c.write_and_sync.new.disk) h (law_of Honest (g.D.Disk.course c.args.disk.now)
    (g.met.D.Disk.reads_are_an_image c.args.disk.now)) c.in_ok-write_and_sync.ensures.ok))

pub returns-in_err-open_gate-clause-moments : goal.returns-in_err-open_gate-clause-moments
returns-in_err-open_gate-clause-moments g c = λ lines place h.
    told_since_then lines c.args.piece.now c.args.gate place (g.D.Disk.course c.args.disk.now)
    (g.D.Disk.course c.write_and_sync.new.disk) (g.D.Disk.course c.open_gate.new.disk)
    (told_staged_moments lines c.args.piece.now c.args.gate place (g.D.Disk.course c.args.disk.now)
    (g.D.Disk.course c.write_and_sync.new.disk) h c.write_and_sync.ensures.moments)
    (c.open_gate.ensures.moments lines c.args.piece.now place
    (told_staged_ok lines c.args.piece.now c.args.gate place (g.D.Disk.course c.args.disk.now)
    (g.D.Disk.course c.write_and_sync.new.disk) h (law_of Honest (g.D.Disk.course c.args.disk.now)
    (g.met.D.Disk.reads_are_an_image c.args.disk.now)) c.in_ok-write_and_sync.ensures.ok))

pub returns-in_err-open_gate-clause-calls : goal.returns-in_err-open_gate-clause-calls
returns-in_err-open_gate-clause-calls g c = told_calls 2 2 _ _ _ c.write_and_sync.ensures.calls
    c.open_gate.ensures.calls

pub returns-clause-ok : goal.returns-clause-ok
returns-clause-ok g c = λ lines place h. c.in_ok-open_gate.ensures.ok lines c.args.piece.now place
    (told_staged_ok lines c.args.piece.now c.args.gate place (g.D.Disk.course c.args.disk.now)
    (g.D.Disk.course c.write_and_sync.new.disk) h (law_of Honest (g.D.Disk.course c.args.disk.now)
    (g.met.D.Disk.reads_are_an_image c.args.disk.now)) c.in_ok-write_and_sync.ensures.ok)

pub returns-clause-moments : goal.returns-clause-moments
returns-clause-moments g c = λ lines place h.
    told_since_then lines c.args.piece.now c.args.gate place (g.D.Disk.course c.args.disk.now)
    (g.D.Disk.course c.write_and_sync.new.disk) (g.D.Disk.course c.open_gate.new.disk)
    (told_staged_moments lines c.args.piece.now c.args.gate place (g.D.Disk.course c.args.disk.now)
    (g.D.Disk.course c.write_and_sync.new.disk) h c.write_and_sync.ensures.moments)
    (c.open_gate.ensures.moments lines c.args.piece.now place
    (told_staged_ok lines c.args.piece.now c.args.gate place (g.D.Disk.course c.args.disk.now)
    (g.D.Disk.course c.write_and_sync.new.disk) h (law_of Honest (g.D.Disk.course c.args.disk.now)
    (g.met.D.Disk.reads_are_an_image c.args.disk.now)) c.in_ok-write_and_sync.ensures.ok))

pub returns-clause-calls : goal.returns-clause-calls
returns-clause-calls g c = told_calls 2 2 _ _ _ c.write_and_sync.ensures.calls c.open_gate.ensures.calls
