use Rattle.std.proofs.Common.{refl}
use Rattle.room_page.specs.PageMarkup.{markup_1}
use Rattle.room_page.proofs.markup.markup_1.Goals as goal

pub returns : goal.returns
unfolding markup_1
returns c = refl
