use Rattle.std.proofs.Common.{rules}
use Rattle.ratio_time.proofs.Rounding.{bits_above, bits_least}
use Rattle.ratio_time.proofs.fraction.Fraction.ceiling.Goals as goal

pub returns-clause-not_below : goal.returns-clause-not_below
returns-clause-not_below c =
    bits_above c.args.self.now.over c.args.self.now.under c.floor.result c.args.self.now.over_in (search rules) c.floor.ensures.size c.args.self.now.under_in.0 c.floor.ensures.not_above

pub returns-clause-least : goal.returns-clause-least
returns-clause-least c = λ g.
    bits_least c.args.self.now.over c.args.self.now.under c.floor.result g c.args.self.now.over_in (search rules) c.floor.ensures.size c.args.self.now.under_in.0 c.floor.ensures.greatest
