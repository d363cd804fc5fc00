use Rattle.edit_splice.specs.Moves.{all_moved}
use Rattle.edit_splice.proofs.Firsts.{few-all, short-all}
use Rattle.edit_splice.proofs.Limits.{none-over}
use Rattle.edit_splice.proofs.shifting.shifted.Goals as goal

pub all_moved-requires-clause-short : goal.all_moved-requires-clause-short
all_moved-requires-clause-short g c = short-all c.args.shift.now c.args.named.now (none-over (all_moved c.args.shift.now c.args.named.now) c.requires.within).0

pub all_moved-requires-clause-few : goal.all_moved-requires-clause-few
all_moved-requires-clause-few g c = few-all c.args.shift.now c.args.named.now (none-over (all_moved c.args.shift.now c.args.named.now) c.requires.within).1
