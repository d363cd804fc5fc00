use Rattle.std.proofs.Common.{refl}
use Rattle.room_page.specs.PageEdits.{edits_4}
use Rattle.room_page.proofs.edits.edits_4.Goals as goal

pub returns : goal.returns
unfolding edits_4
returns c = refl
