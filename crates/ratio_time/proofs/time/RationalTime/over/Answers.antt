use Rattle.std.proofs.Common.{rules}
use Rattle.ratio_time.proofs.Products.{over_bits, over_bits_small}
use Rattle.ratio_time.proofs.time.RationalTime.over.Goals as goal

pub returns-clause-value : goal.returns-clause-value
returns-clause-value c =
    over_bits c.args.self.now.value.mantissa c.from-3.result c.args.self.now.rate.den c.args.rate.now.num c.from.result c.from-2.result
    c.from-3.ensures c.from.ensures c.from-2.ensures (search rules) c.args.self.now.value.in_size c.args.self.now.rate.den_in.1 c.args.rate.now.num_in.1

pub returns-clause-size : goal.returns-clause-size
returns-clause-size c =
    over_bits_small c.args.self.now.value.mantissa c.from-3.result c.args.self.now.rate.den c.args.rate.now.num c.from.result c.from-2.result
    c.from-3.ensures c.from.ensures c.from-2.ensures (search rules) c.args.self.now.value.in_size c.args.self.now.rate.den_in.1 c.args.rate.now.num_in.1
