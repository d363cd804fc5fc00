use Rattle.ratio_time.proofs.Products.{under_positive, under_small, under_fits, under_bits}
use Rattle.ratio_time.proofs.time.RationalTime.under.Goals as goal

pub overflow_cast-result : goal.overflow_cast-result
overflow_cast-result c =
    rw (c.denominator.ensures.value, c.from.ensures, c.from-2.ensures)
    (under_fits c.args.self.now.value.places c.args.self.now.rate.num c.args.rate.now.den c.args.self.now.value.few_places c.args.self.now.rate.num_in.1 c.args.rate.now.den_in.1)

pub returns-clause-value : goal.returns-clause-value
returns-clause-value c =
    rw (c.denominator.ensures.value, c.from.ensures, c.from-2.ensures)
    (under_bits c.args.self.now.value.places c.args.self.now.rate.num c.args.rate.now.den c.args.self.now.value.few_places c.args.self.now.rate.num_in.1 c.args.rate.now.den_in.1)

pub returns-clause-positive : goal.returns-clause-positive
returns-clause-positive c = under_positive c.args.self.now.value.places _ _ c.args.self.now.rate.num_in.0 c.args.rate.now.den_in.0

pub returns-clause-size : goal.returns-clause-size
returns-clause-size c = under_small c.args.self.now.value.places _ _ c.args.self.now.value.few_places c.args.self.now.rate.num_in.1 c.args.rate.now.den_in.1
