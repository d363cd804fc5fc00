use Rattle.ratio_time.proofs.Products.{power_small, one_positive}
use Rattle.ratio_time.proofs.numeral.Numeral.denominator.Goals as goal

pub returns-clause-positive : goal.returns-clause-positive
returns-clause-positive c = rw (c.pow.ensures, c.from.ensures) (one_positive c.args.self.now.places)

pub returns-clause-size : goal.returns-clause-size
returns-clause-size c = rw (c.pow.ensures, c.from.ensures) (power_small c.args.self.now.places c.args.self.now.few_places)
