use Rattle.item_pages.proofs.Marking.{within_or, within_or_behind}
use Rattle.item_pages.proofs.marks.Marks.add_bits.Goals as goal

pub returns-clause-grows : goal.returns-clause-grows
returns-clause-grows c = record { numbers = λ n low h. record { least = h.least; greatest = h.greatest; bit = h.bit }; sets = within_or c.args.self.now.all c.args.bits }

pub returns-clause-marked : goal.returns-clause-marked
returns-clause-marked c = within_or_behind c.args.self.now.all c.args.bits
