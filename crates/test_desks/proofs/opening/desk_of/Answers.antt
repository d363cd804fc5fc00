use Rattle.std.proofs.Common.{refl}
use Rattle.test_desks.proofs.opening.desk_of.Goals as goal

pub new-requires-clause-begins : goal.new-requires-clause-begins
new-requires-clause-begins g c = rw c.requires.kept (c.args.pass.entries, refl)
