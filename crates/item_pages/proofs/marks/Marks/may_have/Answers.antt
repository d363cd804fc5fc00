use Rattle.item_pages.proofs.Marking.{beyond_unwanted}
use Rattle.item_pages.proofs.marks.Marks.may_have.Goals as goal

pub returns-in-Beyond : goal.returns-in-Beyond
returns-in-Beyond c = beyond_unwanted c.args.self.now c.args.wanted c.in-Beyond.bits c.in-Beyond.is
