use Rattle.kept_desk.proofs.Desks.{put}
use Rattle.kept_desk.proofs.desk.Desk.put_batch.Goals as goal

pub invariant_of-self : goal.invariant_of-self
invariant_of-self g c =
    let s = c.self.inside in
    let done = c.in-Ok.ensures in
    let next = rw (← c.self.view_is) at c.requires.next in
    rw c.add_kept.ensures
    (put g.O.PartObject.meaning g.J.Naming.opening g.T.EntryLines.line_of g.D.Disk.course g.D.Disk.faults g.K.Filing.table g.K.Filing.reader g.K.Filing.kept g.K.Filing.begun g.K.Filing.faults
    (record { file = s.file; pass = s.pass; counts = s.counts }) c.append_batch.new.self c.args.batch c.count-count.result
    c.self.invariant next done.ok done.settled done.counted done.quiet c.append_batch.ensures.calls c.count-count.ensures.count)
