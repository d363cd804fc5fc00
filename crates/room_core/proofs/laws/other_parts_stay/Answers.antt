use Rattle.room_core.proofs.WholeParts.{one_part}
use Rattle.room_core.proofs.laws.other_parts_stay.Goals as goal

pub returns : goal.returns
returns g c = λ o part parts now then_now entries more same first comes.
    one_part (g.O.PartObject.meaning o) part parts now then_now entries more same first comes
