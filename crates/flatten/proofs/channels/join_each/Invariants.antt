use Rattle.std.proofs.Common.{◌≡◌, ◌++◌, drop, map}
use Rattle.flatten.specs.Channels.{maximal_runs}
use Rattle.flatten.specs.Strips.{frames_of}
use Rattle.flatten.proofs.channels.join_each.Given as goal

abbrev pub invariant-loop-strip : goal.invariant-loop-strip
invariant-loop-strip l = l.all ++ map maximal_runs (map frames_of (drop l.strip-index l.strips)) ≡ map maximal_runs (map frames_of l.strips)
