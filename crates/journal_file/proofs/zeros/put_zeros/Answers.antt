use Rattle.journal_file.proofs.Appends.{told_staged_err, told_stays_closed}
use Rattle.journal_file.proofs.zeros.put_zeros.Goals as goal

pub returns-clause-closed : goal.returns-clause-closed
returns-clause-closed g c = λ lines place h. told_staged_err lines c.args.zeros.now c.args.gate place
    (g.D.Disk.course c.args.disk.now) (g.D.Disk.course c.write_and_sync.new.disk) h c.write_and_sync.ensures.moments

pub returns-clause-moments : goal.returns-clause-moments
returns-clause-moments g c = λ lines all place h. told_stays_closed lines c.args.zeros.now c.args.gate place
    (g.D.Disk.course c.args.disk.now) (g.D.Disk.course c.write_and_sync.new.disk) all h
    c.write_and_sync.ensures.moments
