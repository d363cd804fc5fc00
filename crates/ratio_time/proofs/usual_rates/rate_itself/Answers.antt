use Rattle.std.proofs.Common.{rules}
use Rattle.ratio_time.proofs.Products.{own_num, own_den}
use Rattle.ratio_time.proofs.usual_rates.rate_itself.Goals as goal

pub invariant_of-result : goal.invariant_of-result
invariant_of-result c = record {
  num_in = own_num c.args.number.now.mantissa (search rules) c.if-number-le0.false c.if-number-ge1000000000000.false;
  den_in = rw (c.pow.ensures, c.from.ensures) (own_den c.args.number.now.places c.if-number-gt6.false);
}
