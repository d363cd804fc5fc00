use Rattle.std.proofs.Common.{refl}
use Rattle.room_page.specs.PagePicture.{picture_1}
use Rattle.room_page.proofs.picture.picture_1.Goals as goal

pub returns : goal.returns
unfolding picture_1
returns c = refl
