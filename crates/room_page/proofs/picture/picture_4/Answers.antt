use Rattle.std.proofs.Common.{refl}
use Rattle.room_page.specs.PagePicture.{picture_4}
use Rattle.room_page.proofs.picture.picture_4.Goals as goal

pub returns : goal.returns
unfolding picture_4
returns c = refl
