use Rattle.std.proofs.Common.{refl}
use Rattle.room_page.specs.PageEdits.{edits_2}
use Rattle.room_page.proofs.edits.edits_2.Goals as goal

pub returns : goal.returns
unfolding edits_2
returns c = refl
