use Rattle.std.proofs.Common.{◌≡◌, [], drop, map}
use Rattle.flatten.specs.Strips.{AreFit, frames_of, laid_on}
use Rattle.flatten.proofs.stacks.stack.Given as goal

abbrev pub invariant-loop-channel : goal.invariant-loop-channel
invariant-loop-channel l = record {
  all : AreFit l.all;
  same : laid_on (frames_of l.all) (map frames_of (drop l.channel-index l.channels)) ≡ laid_on [] (map frames_of l.channels);
}
