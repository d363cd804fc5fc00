use Rattle.std.proofs.Common.{refl}
use Rattle.item_pages.proofs.Marking.{each_grows, each_has}
use Rattle.item_pages.proofs.marks.Marks.mark_each.Goals as goal

pub returns-clause-grows : goal.returns-clause-grows
returns-clause-grows c = each_grows c.args.self.now _ refl (λ n low. each_has _ n refl refl refl low)

pub returns-clause-marked : goal.returns-clause-marked
returns-clause-marked c = λ n low. each_has _ n refl refl refl low
