use Rattle.std.proofs.Common.{take}
use Rattle.room_disks.specs.Crashes.{Cut, IsImage}
use Rattle.journal_file.proofs.Moments.{law_of, told_changed, told_not_synced, told_synced, told_settled}
use Rattle.journal_file.proofs.syncing.cut_and_sync.Goals as goal

pub returns-in_err-cut-clause-moments : goal.returns-in_err-cut-clause-moments
returns-in_err-cut-clause-moments g c = told_changed (Cut c.args.len) (g.D.Disk.course c.args.disk.now)
    (g.D.Disk.course c.cut.new.self) (g.D.Disk.course c.cut.new.self) c.cut.ensures.changes

pub returns-in_err-sync-clause-moments : goal.returns-in_err-sync-clause-moments
returns-in_err-sync-clause-moments g c = told_not_synced (Cut c.args.len) _ _ _ c.cut.ensures.changes
    c.in_err-sync.ensures.stays

pub returns-clause-ok : goal.returns-clause-ok
returns-clause-ok g c = told_settled (take c.args.len) _ _ _ c.in_ok-cut.ensures.cuts c.in_ok-sync.ensures.syncs

pub returns-clause-moments : goal.returns-clause-moments
returns-clause-moments g c =
    told_synced (Cut c.args.len) _ _ _
    (law_of (λ m. IsImage m.now m.now.reads) (g.D.Disk.course c.cut.new.self)
    (g.met.D.Disk.reads_are_an_image c.cut.new.self))
    c.cut.ensures.changes c.in_ok-sync.ensures.syncs
