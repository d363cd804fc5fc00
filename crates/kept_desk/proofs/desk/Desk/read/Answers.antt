use Rattle.kept_desk.proofs.Desks.{read_on}
use Rattle.kept_desk.proofs.desk.Desk.read.Goals as goal

pub invariant_of-self : goal.invariant_of-self
invariant_of-self g c =
    let s = c.self.inside in
    let r = c.args.room.now in
    read_on g.O.PartObject.meaning g.J.Naming.opening g.T.EntryLines.line_of g.D.Disk.course g.D.Disk.faults g.K.Filing.table g.K.Filing.reader g.K.Filing.kept g.K.Filing.begun g.K.Filing.faults
    (record { file = s.file; pass = s.pass; counts = s.counts }) c.entries.new.self (r.object, r.parts) _
    c.self.invariant c.requires.room c.entries.ensures.at
