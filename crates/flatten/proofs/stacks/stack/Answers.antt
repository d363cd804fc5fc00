use Rattle.std.proofs.Common.{sym, subst}
use Rattle.flatten.specs.Strips.{AreFit}
use Rattle.flatten.proofs.Over.{each_fit}
use Rattle.flatten.proofs.stacks.stack.Goals as goal

pub lay_over-requires-clause-upper : goal.lay_over-requires-clause-upper
lay_over-requires-clause-upper c =
    subst AreFit (sym c.as_slice.ensures) (each_fit c.args.channels.now c.loop-channel.channel-index c.channel-item.result c.loop-channel-test.true c.channel-item.is c.requires)
