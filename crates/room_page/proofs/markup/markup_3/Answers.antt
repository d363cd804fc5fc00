use Rattle.std.proofs.Common.{refl}
use Rattle.room_page.specs.PageMarkup.{markup_3}
use Rattle.room_page.proofs.markup.markup_3.Goals as goal

pub returns : goal.returns
unfolding markup_3
returns c = refl
