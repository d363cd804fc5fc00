use Rattle.std.proofs.Common.{◌<◌, ◌^◌, refl, rules, w32, SFits}
use Rattle.edit_trim.proofs.Ripples.{head-can, head-rippled}
use Rattle.edit_trim.proofs.rippling.head_rippled.Goals as goal

pub frames_before-requires : goal.frames_before-requires
frames_before-requires c = record { lies = c.requires.whole.lies }

pub head_shift-requires : goal.head_shift-requires
head_shift-requires c =
    let places : c.args.found.to < 2 ^ 32 = search rules in
    head-can c.args.table.now c.args.found c.args.view.now c.args.room c.frames_before.result c.min-earlier.result c.args.call.now.by c.used_within-used.result c.requires.whole c.requires.long places c.frames_before.ensures.reach c.frames_before.type_inv c.min-earlier.ensures c.used_within-used.ensures

pub returns : goal.returns
returns c =
    let fits : SFits w32 c.args.call.now.by = search rules in
    head-rippled c.args.table.now c.args.found c.args.view.now c.args.room c.frames_before.result c.min-earlier.result c.args.call.now c.used_within-used.result _ c.requires.whole fits c.frames_before.ensures.reach c.frames_before.type_inv c.min-earlier.ensures c.used_within-used.ensures c.head_shift.ensures refl
