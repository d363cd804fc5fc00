use Rattle.std.proofs.Common.{arith}
use Rattle.frame_meaning.specs.Going.{same_what}
use Rattle.frame_meaning.proofs.RunFacts.{first_len-behind}
use Rattle.frame_meaning.proofs.plain.runs_of.Goals as goal

pub put_before-requires : goal.put_before-requires
put_before-requires c = omega (arith, c.requires, first_len-behind same_what c.args.frames.now c.loop-index.all.items c.loop-index.index c.loop-index.invariant c.loop-index-test.true c.loop-index.auto.index)
