use Rattle.cut_mirror.proofs.CallNames.{named_members}
use Rattle.cut_mirror.proofs.calls.named_by.Goals as goal

pub returns : goal.returns
returns g c =
    let o = c.args.object.now in
    named_members c.members.result c.names.result (g.O.PartObject.count o)
    ((g.O.PartObject.meaning o).names c.args.call.now) c.members.ensures c.names.ensures
    c.requires.count (g.met.O.PartObject.named o c.args.call.now c.requires.named).ascend
