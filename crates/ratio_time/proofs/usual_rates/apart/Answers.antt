use Rattle.std.proofs.Common.{rules, ◌^◌}
use Rattle.ratio_time.proofs.Products.{apart_bits, apart_bits_small, power_small}
use Rattle.ratio_time.proofs.usual_rates.apart.Goals as goal

pub returns-clause-value : goal.returns-clause-value
returns-clause-value c =
    apart_bits c.args.number.now.mantissa c.from-2.result c.from-3.result c.args.rate.now.den c.args.rate.now.num (10 ^ c.args.number.now.places) c.from.result c.denominator.result
    c.from-2.ensures c.from-3.ensures c.from.ensures c.denominator.ensures.value (search rules) c.args.number.now.in_size c.args.rate.now.den_in.1 c.args.rate.now.num_in.1
    (power_small c.args.number.now.places c.args.number.now.few_places)

pub returns-clause-size : goal.returns-clause-size
returns-clause-size c =
    apart_bits_small c.args.number.now.mantissa c.from-2.result c.from-3.result c.args.rate.now.den c.args.rate.now.num (10 ^ c.args.number.now.places) c.from.result c.denominator.result
    c.from-2.ensures c.from-3.ensures c.from.ensures c.denominator.ensures.value (search rules) c.args.number.now.in_size c.args.rate.now.den_in.1 c.args.rate.now.num_in.1
    (power_small c.args.number.now.places c.args.number.now.few_places)
