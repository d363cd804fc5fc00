use Rattle.std.proofs.Common.{refl, rules, w32, SFits}
use Rattle.edit_trim.proofs.Ripples.{tail-can, tail-rippled}
use Rattle.edit_trim.proofs.rippling.tail_rippled.Goals as goal

pub frames_after-requires-clause-filled : goal.frames_after-requires-clause-filled
frames_after-requires-clause-filled c = c.requires.whole.filled

pub frames_after-requires-clause-lies : goal.frames_after-requires-clause-lies
frames_after-requires-clause-lies c = c.requires.whole.lies

pub frames_after-requires-clause-source : goal.frames_after-requires-clause-source
frames_after-requires-clause-source c = c.requires.whole.source

pub tail_shift-requires : goal.tail_shift-requires
tail_shift-requires c =
    tail-can c.args.table.now c.args.found c.args.view.now c.args.room c.frames_after.result c.min-later.result c.args.call.now.by c.used_within-used.result c.requires.whole c.requires.long c.frames_after.ensures.reach c.frames_after.ensures.numbered c.frames_after.type_inv c.min-later.ensures c.used_within-used.ensures

pub returns : goal.returns
returns c =
    let fits : SFits w32 c.args.call.now.by = search rules in
    tail-rippled c.args.table.now c.args.found c.args.view.now c.args.room c.frames_after.result c.min-later.result c.args.call.now c.used_within-used.result _ c.requires.whole fits c.frames_after.ensures.reach c.frames_after.ensures.numbered c.frames_after.type_inv c.min-later.ensures c.used_within-used.ensures c.tail_shift.ensures refl
