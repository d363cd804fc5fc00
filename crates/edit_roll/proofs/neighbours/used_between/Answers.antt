use Rattle.edit_roll.specs.NeighboursInside.{fits_earlier, fits_later}
use Rattle.edit_roll.proofs.Moves.{earlier-up, fits-used, later-up}
use Rattle.edit_delta.proofs.Answered.{used-of}
use Rattle.edit_roll.proofs.neighbours.used_between.Goals as goal

pub frames_after-requires-clause-filled : goal.frames_after-requires-clause-filled
frames_after-requires-clause-filled c = c.requires.left.filled

pub frames_after-requires-clause-lies : goal.frames_after-requires-clause-lies
frames_after-requires-clause-lies c = c.requires.left.lies

pub frames_after-requires-clause-source : goal.frames_after-requires-clause-source
frames_after-requires-clause-source c = c.requires.left.source

pub frames_before-requires : goal.frames_before-requires
frames_before-requires c = record { lies = c.requires.right.lies }

pub returns-clause-used : goal.returns-clause-used
returns-clause-used c =
    let later = later-up c.args.table.now c.args.sides.now.left c.args.sides.now.right c.frames_after.result c.min-later.result c.requires.right.filled c.frames_after.ensures.reach c.min-later.ensures in
    let earlier = earlier-up c.args.table.now c.args.sides.now.left c.args.sides.now.right c.frames_before.result c.min-earlier.result c.requires.left.filled c.frames_before.ensures.reach c.min-earlier.ensures in
    (used-of (fits_later c.args.table.now c.args.sides.now.left c.args.sides.now.right) (fits_earlier c.args.table.now c.args.sides.now.left c.args.sides.now.right) c.min-earlier.result c.min-later.result c.args.by c.used_within.result c.ranges.by later earlier c.used_within.ensures).used

pub returns-clause-fits : goal.returns-clause-fits
returns-clause-fits c =
    fits-used c.args.table.now c.args.sides.now.left c.args.sides.now.right c.frames_after.result c.frames_before.result c.min-later.result c.min-earlier.result c.args.by c.used_within.result c.requires.left.filled c.requires.right.filled c.frames_after.ensures.reach c.frames_before.ensures.reach c.frames_after.ensures.numbered c.frames_after.type_inv c.frames_before.type_inv c.min-later.ensures c.min-earlier.ensures c.used_within.ensures
