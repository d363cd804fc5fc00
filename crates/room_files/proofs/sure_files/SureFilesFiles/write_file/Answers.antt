use Rattle.room_files.proofs.Contents.{within-whole, within-others}
use Rattle.room_files.proofs.sure_files.SureFilesFiles.write_file.Goals as goal

pub returns-clause-holds : goal.returns-clause-holds
returns-clause-holds c = within-whole _ _ _ _ _ c.kept_within.ensures.keeps

pub returns-clause-others : goal.returns-clause-others
returns-clause-others c = rw (← c.self.view_is, ← c.take-written.ensures.value) (within-others _ _ _ _ _ c.kept_within.ensures.keeps)
