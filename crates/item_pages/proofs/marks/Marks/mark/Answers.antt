use Rattle.std.proofs.Common.{refl, arith}
use Rattle.item_pages.proofs.Marking.{mark_grows, mark_has}
use Rattle.item_pages.proofs.marks.Marks.mark.Goals as goal

pub returns-clause-grows : goal.returns-clause-grows
returns-clause-grows c =
    mark_grows c.args.self.now _ c.args.number (omega (arith, c.min-self.ensures)) (omega (arith, c.max-self.ensures)) refl refl

pub returns-clause-marked : goal.returns-clause-marked
returns-clause-marked c =
    mark_has c.args.self.now _ c.args.number (omega (arith, c.min-self.ensures)) (omega (arith, c.max-self.ensures)) (omega (arith, c.fits-self)) refl
