use Rattle.room_core.proofs.WholeParts.{good_picked, roomy_picked, good_put_back}
use Rattle.room_core.proofs.laws.named_parts_are_good.Goals as goal

pub returns-clause-picked : goal.returns-clause-picked
returns-clause-picked g c = λ o call parts named good.
    good_picked (g.O.PartObject.good o) (g.O.PartObject.count o) 0 parts ((g.O.PartObject.meaning o).names call) (g.met.O.PartObject.named o call named).ascend good

pub returns-clause-roomy : goal.returns-clause-roomy
returns-clause-roomy g c = λ o call parts roomy. roomy_picked (g.O.PartObject.roomy o) parts ((g.O.PartObject.meaning o).names call) roomy

pub returns-clause-put_back : goal.returns-clause-put_back
returns-clause-put_back g c = λ o call parts now good left.
    good_put_back (g.O.PartObject.good o) (g.O.PartObject.count o) parts ((g.O.PartObject.meaning o).names call) now good left
