use Rattle.std.proofs.Common.{length}
use Rattle.room_disks.specs.Crashes.{Range, IsImage, written}
use Rattle.journal_file.proofs.Moments.{law_of, told_changed, told_not_synced, told_synced, told_one, told_two_stays}
use Rattle.journal_file.proofs.Moments.{told_two_syncs, told_settled}
use Rattle.journal_file.proofs.syncing.write_and_sync.Goals as goal

pub returns-in_err-write_at-clause-moments : goal.returns-in_err-write_at-clause-moments
returns-in_err-write_at-clause-moments g c = told_changed (Range c.args.at (length c.args.bytes.now))
    (g.D.Disk.course c.args.disk.now) (g.D.Disk.course c.write_at.new.self) (g.D.Disk.course c.write_at.new.self)
    c.write_at.ensures.changes

pub returns-in_err-write_at-clause-calls : goal.returns-in_err-write_at-clause-calls
returns-in_err-write_at-clause-calls g c = told_one (Range c.args.at (length c.args.bytes.now))
    (g.D.Disk.course c.args.disk.now) (g.D.Disk.course c.write_at.new.self) (g.D.Disk.course c.write_at.new.self)
    c.write_at.ensures.changes

pub returns-in_err-sync-clause-moments : goal.returns-in_err-sync-clause-moments
returns-in_err-sync-clause-moments g c = told_not_synced (Range c.args.at (length c.args.bytes.now)) _ _ _
    c.write_at.ensures.changes c.in_err-sync.ensures.stays

pub returns-in_err-sync-clause-calls : goal.returns-in_err-sync-clause-calls
returns-in_err-sync-clause-calls g c = told_two_stays (Range c.args.at (length c.args.bytes.now)) _ _ _
    c.write_at.ensures.changes c.in_err-sync.ensures.stays

pub returns-clause-ok : goal.returns-clause-ok
returns-clause-ok g c = told_settled (written c.args.at c.args.bytes.now) _ _ _ c.in_ok-write_at.ensures.writes
    c.in_ok-sync.ensures.syncs

pub returns-clause-moments : goal.returns-clause-moments
returns-clause-moments g c =
    told_synced (Range c.args.at (length c.args.bytes.now)) _ _ _
    (law_of (λ m. IsImage m.now m.now.reads) (g.D.Disk.course c.write_at.new.self)
    (g.met.D.Disk.reads_are_an_image c.write_at.new.self))
    c.write_at.ensures.changes c.in_ok-sync.ensures.syncs

pub returns-clause-calls : goal.returns-clause-calls
returns-clause-calls g c = told_two_syncs (Range c.args.at (length c.args.bytes.now)) _ _ _ c.write_at.ensures.changes
    c.in_ok-sync.ensures.syncs
