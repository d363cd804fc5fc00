use Rattle.std.proofs.Common.{refl}
use Rattle.link_groups.proofs.key_marks.KeyMarks.all.Goals as goal

pub returns : goal.returns
returns c k = rw c.new-row.ensures.items refl
