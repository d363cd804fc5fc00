use Rattle.std.proofs.lemmas.Result.{err_from_is_err_and}
use Rattle.journal_file.proofs.Moments.{law_of}
use Rattle.journal_file.proofs.Appends.{Honest, told_opened_moments, told_opened_err, told_opened_ok}
use Rattle.journal_file.proofs.pending.open_gate.Goals as goal

pub returns-in_err-write_and_sync-clause-err : goal.returns-in_err-write_and_sync-clause-err
returns-in_err-write_and_sync-clause-err g c = let p = err_from_is_err_and c.from_residual.result
    c.from_residual.ensures.1 in rw p.1 (λ lines piece place h. told_opened_err lines piece c.args.gate place _ _ h
    c.write_and_sync.ensures.moments)

pub returns-in_err-write_and_sync-clause-moments : goal.returns-in_err-write_and_sync-clause-moments
returns-in_err-write_and_sync-clause-moments g c = λ lines piece place h. told_opened_moments lines piece c.args.gate
    place _ _ h c.write_and_sync.ensures.moments

pub returns-clause-ok : goal.returns-clause-ok
returns-clause-ok g c = λ lines piece place h.
    told_opened_ok lines piece c.args.gate place _ _ h
    (law_of Honest (g.D.Disk.course c.args.disk.now) (g.met.D.Disk.reads_are_an_image c.args.disk.now))
    c.in_ok-write_and_sync.ensures.ok

pub returns-clause-moments : goal.returns-clause-moments
returns-clause-moments g c = λ lines piece place h. told_opened_moments lines piece c.args.gate place _ _ h
    c.write_and_sync.ensures.moments
