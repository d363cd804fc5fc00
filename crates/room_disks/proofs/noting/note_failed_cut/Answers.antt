use Rattle.std.proofs.Common.{refl}
use Rattle.room_disks.specs.Crashes.{Cut}
use Rattle.room_disks.specs.Tapes.{FailsToCut}
use Rattle.room_disks.proofs.Noted.{told_changes}
use Rattle.room_disks.proofs.noting.note_failed_cut.Goals as goal

pub returns-clause-changes : goal.returns-clause-changes
returns-clause-changes c = told_changes (Cut c.args.len) (FailsToCut c.args.len) (λ k. refl) _ _ c.note.ensures
