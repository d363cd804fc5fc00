use Rattle.std.proofs.Common.{length, refl}
use Rattle.room_disks.specs.Crashes.{Range}
use Rattle.room_disks.specs.Tapes.{Puts}
use Rattle.room_disks.proofs.Noted.{told_changes, told_puts}
use Rattle.room_disks.proofs.noting.write.Goals as goal

pub returns-clause-writes : goal.returns-clause-writes
returns-clause-writes c = told_puts c.args.at c.args.bytes.now _ _ c.keep_write.ensures

pub returns-clause-changes : goal.returns-clause-changes
returns-clause-changes c = told_changes (Range c.args.at (length c.args.bytes.now)) (Puts c.args.at c.args.bytes.now)
    (λ k. refl) _ _ c.keep_write.ensures
