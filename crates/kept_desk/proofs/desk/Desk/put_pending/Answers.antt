use Rattle.std.proofs.Common.{◌≡◌, ◌-◌, length, subst, drop, arith}
use Rattle.kept_desk.specs.Desks.{ArePending}
use Rattle.kept_desk.proofs.Fronts.{pending_there}
use Rattle.kept_desk.proofs.Desks.{put}
use Rattle.kept_desk.proofs.desk.Desk.put_pending.Goals as goal

pub invariant_of-self : goal.invariant_of-self
invariant_of-self g c =
    let s = c.self.inside in
    let done = c.in-Ok.ensures in
    let p = pending_there s.file.pending (rw (← c.self.view_is) at c.requires) in
    let next = subst (ArePending g.T.EntryLines.line_of (drop s.file.count s.pass.entries)) p.1 c.self.invariant.holds.pending in
    let count = done.counted p.0 p.1 in
    let more : c.count.result - c.count-before.result ≡ length p.0 = omega (arith, count, c.count.ensures, c.count-before.ensures) in
    rw c.add_kept.ensures
    (put g.O.PartObject.meaning g.J.Naming.opening g.T.EntryLines.line_of g.D.Disk.course g.D.Disk.faults g.K.Filing.table g.K.Filing.reader g.K.Filing.kept g.K.Filing.begun g.K.Filing.faults
    (record { file = s.file; pass = s.pass; counts = s.counts }) c.retry.new.self p.0 (c.count.result - c.count-before.result)
    c.self.invariant next.1 (λ lines stands. done.ok lines p.0 p.1 stands) done.settled count done.quiet c.retry.ensures.calls more)
