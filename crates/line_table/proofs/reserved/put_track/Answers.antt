use Rattle.std.proofs.Common.{length, ap, arith}
use Rattle.line_table.proofs.WrittenParts.{length-track}
use Rattle.line_table.proofs.reserved.put_track.Goals as goal

pub put-requires-2 : goal.put-requires-2
put-requires-2 c =
    let digits = length-track c.args.track c.requires.track in
    omega (arith, c.requires.room, c.put.ensures.len, c.put.ensures.room, digits, ap length c.as_bytes.ensures.value, ap length c.format.ensures.text)

pub returns-clause-len : goal.returns-clause-len
returns-clause-len c =
    let digits = length-track c.args.track c.requires.track in
    omega (arith, c.put.ensures.len, c.put-2.ensures.len, digits, ap length c.as_bytes.ensures.value, ap length c.format.ensures.text)
