use Rattle.std.proofs.Common.{refl}
use Rattle.room_page.specs.PageEdits.{edits_1}
use Rattle.room_page.proofs.edits.edits_1.Goals as goal

pub returns : goal.returns
unfolding edits_1
returns c = refl
