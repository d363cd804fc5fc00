use Rattle.room_disks.proofs.Noted.{told_syncs}
use Rattle.room_disks.proofs.noting.note_sync.Goals as goal

pub returns-clause-syncs : goal.returns-clause-syncs
returns-clause-syncs c = told_syncs _ _ c.note.ensures
