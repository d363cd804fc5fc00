use Rattle.flatten.proofs.Over.{each_fit}
use Rattle.flatten.proofs.nests.add_nest.Goals as goal

pub add_from-requires-clause-fit : goal.add_from-requires-clause-fit
add_from-requires-clause-fit c = each_fit c.args.nests.now c.args.nest c.in-Some.strip.now c.in-Some.ensures.lookup.3.0 c.in-Some.ensures.lookup.1 c.requires.fit
