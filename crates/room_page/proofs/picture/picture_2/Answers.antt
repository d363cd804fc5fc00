use Rattle.std.proofs.Common.{refl}
use Rattle.room_page.specs.PagePicture.{picture_2}
use Rattle.room_page.proofs.picture.picture_2.Goals as goal

pub returns : goal.returns
unfolding picture_2
returns c = refl
