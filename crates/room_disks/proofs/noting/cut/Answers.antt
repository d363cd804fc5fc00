use Rattle.std.proofs.Common.{refl}
use Rattle.room_disks.specs.Crashes.{Cut}
use Rattle.room_disks.specs.Tapes.{CutsTo}
use Rattle.room_disks.proofs.Noted.{told_changes, told_cuts}
use Rattle.room_disks.proofs.noting.cut.Goals as goal

pub returns-clause-cuts : goal.returns-clause-cuts
returns-clause-cuts c = told_cuts c.args.len _ _ c.keep_cut.ensures

pub returns-clause-changes : goal.returns-clause-changes
returns-clause-changes c = told_changes (Cut c.args.len) (CutsTo c.args.len) (λ k. refl) _ _ c.keep_cut.ensures
