use Rattle.std.proofs.Common.{◌<◌, arith}
use Rattle.flatten.proofs.Spots.{begin_before}
use Rattle.flatten.proofs.finding.begin_at.Goals as goal

pub returns : goal.returns
returns c =
    let some : 0 < c.args.index = omega (arith, c.if-index-eq0.false) in
    begin_before c.args.ends.now c.args.index some c.requires
