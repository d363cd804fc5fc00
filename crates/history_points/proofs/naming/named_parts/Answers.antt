use Rattle.std.proofs.Common.{sym}
use Rattle.history_points.proofs.Sets.{higher, of_names}
use Rattle.history_points.proofs.naming.named_parts.Goals as goal

pub returns : goal.returns
returns g c =
    let o = c.args.object.now in
    let naming = g.met.O.PartObject.named o c.args.call.now c.requires.named in
    of_names c.numbers_in.result ((g.O.PartObject.meaning o).names c.args.call.now) c.names.result
    (higher 0 (g.O.PartObject.count o) 32 ((g.O.PartObject.meaning o).names c.args.call.now) c.requires.count naming.ascend)
    (sym c.names.ensures) c.numbers_in.ensures
