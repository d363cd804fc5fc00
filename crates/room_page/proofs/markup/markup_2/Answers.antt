use Rattle.std.proofs.Common.{refl}
use Rattle.room_page.specs.PageMarkup.{markup_2}
use Rattle.room_page.proofs.markup.markup_2.Goals as goal

pub returns : goal.returns
unfolding markup_2
returns c = refl
