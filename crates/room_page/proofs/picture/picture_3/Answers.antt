use Rattle.std.proofs.Common.{refl}
use Rattle.room_page.specs.PagePicture.{picture_3}
use Rattle.room_page.proofs.picture.picture_3.Goals as goal

pub returns : goal.returns
unfolding picture_3
returns c = refl
