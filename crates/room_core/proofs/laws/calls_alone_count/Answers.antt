use Rattle.std.specs.Prelude.{Some}
use Rattle.room_core.specs.Whole.{whole}
use Rattle.room_core.proofs.Order.{same_calls}
use Rattle.room_core.proofs.laws.calls_alone_count.Goals as goal

pub returns : goal.returns
returns g c = λ o parts entries others is. same_calls (whole (g.O.PartObject.meaning o)) (Some parts) entries others is
