use Rattle.std.proofs.Common.{rules}
use Rattle.ratio_time.proofs.Rounding.{bits_below, bits_greatest}
use Rattle.ratio_time.proofs.fraction.Fraction.floor.Goals as goal

pub returns-clause-not_above : goal.returns-clause-not_above
returns-clause-not_above c =
    bits_below c.args.self.now.over c.args.self.now.under c.div_euclid.result (search rules) (search rules) (search rules) c.args.self.now.under_in.0 c.div_euclid.ensures

pub returns-clause-greatest : goal.returns-clause-greatest
returns-clause-greatest c = λ g.
    bits_greatest c.args.self.now.over c.args.self.now.under c.div_euclid.result g (search rules) (search rules) (search rules) c.args.self.now.under_in.0 c.div_euclid.ensures
