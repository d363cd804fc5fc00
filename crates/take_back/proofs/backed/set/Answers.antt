use Rattle.std.proofs.Common.{arith, sym}
use Rattle.part_sets.specs.MemberLaws.{set-members}
use Rattle.take_back.proofs.backed.set.Goals as goal

pub returns : goal.returns
returns c = sym (set-members c.args.tracks (omega (arith, c.ranges.tracks.fits)))
