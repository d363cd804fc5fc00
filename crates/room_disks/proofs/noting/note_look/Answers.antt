use Rattle.room_disks.proofs.Noted.{told_looks}
use Rattle.room_disks.proofs.noting.note_look.Goals as goal

pub returns-clause-stays : goal.returns-clause-stays
returns-clause-stays c = told_looks _ _ c.note.ensures
