use Rattle.std.proofs.Common.{refl}
use Rattle.room_page.specs.PageEdits.{edits_3}
use Rattle.room_page.proofs.edits.edits_3.Goals as goal

pub returns : goal.returns
unfolding edits_3
returns c = refl
