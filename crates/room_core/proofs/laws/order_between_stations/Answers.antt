use Rattle.std.specs.Prelude.{Some}
use Rattle.room_core.proofs.Order.{in_order}
use Rattle.room_core.proofs.laws.order_between_stations.Goals as goal

pub returns : goal.returns
returns g c = λ o parts stations entries of own. in_order (g.O.PartObject.meaning o) stations (Some parts) entries of own
