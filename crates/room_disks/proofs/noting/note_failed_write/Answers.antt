use Rattle.std.proofs.Common.{length, refl}
use Rattle.room_disks.specs.Crashes.{Range}
use Rattle.room_disks.specs.Tapes.{FailsToPut}
use Rattle.room_disks.proofs.Noted.{told_changes}
use Rattle.room_disks.proofs.noting.note_failed_write.Goals as goal

pub returns-clause-changes : goal.returns-clause-changes
returns-clause-changes c = told_changes (Range c.args.at (length c.args.bytes.now))
    (FailsToPut c.args.at (length c.args.bytes.now)) (λ k. refl) _ _ c.note.ensures
