use Rattle.std.proofs.Common.{◌+◌, ◌-◌, refl}
use Rattle.edit_roll.proofs.Beside.{whole-of}
use Rattle.edit_roll.proofs.Moves.{around-of}
use Rattle.edit_roll.proofs.Slides.{slide-nowhere, slide-used}
use Rattle.edit_roll.proofs.linked_slides.way_used.Goals as goal

pub used_between-requires-clause-left : goal.used_between-requires-clause-left
used_between-requires-clause-left c =
    let a = around-of c.args.table.now c.args.track.now c.args.found.from c.args.found.to c.in-Some.sides c.requires.good c.in-Some.ensures.sides in
    whole-of c.args.table.now c.args.track.now a.before c.in-Some.sides.left (c.args.found.from - c.in-Some.sides.left.len) c.args.found.from a.left

pub used_between-requires-clause-right : goal.used_between-requires-clause-right
used_between-requires-clause-right c =
    let a = around-of c.args.table.now c.args.track.now c.args.found.from c.args.found.to c.in-Some.sides c.requires.good c.in-Some.ensures.sides in
    whole-of c.args.table.now c.args.track.now a.behind c.in-Some.sides.right c.args.found.to (c.args.found.to + c.in-Some.sides.right.len) a.right

pub returns-in-Some : goal.returns-in-Some
returns-in-Some c =
    let a = around-of c.args.table.now c.args.track.now c.args.found.from c.args.found.to c.in-Some.sides c.requires.good c.in-Some.ensures.sides in
    (slide-used c.args.table.now c.args.track.now c.args.found.from c.args.found.to c.in-Some.sides.left c.in-Some.sides.right c.args.by c.used_between.result a c.in-Some.ensures.some c.ranges.by c.used_between.ensures.used).used.way

pub returns-in-None : goal.returns-in-None
returns-in-None c = slide-nowhere c.args.table.now c.args.track.now c.args.by c.args.found.from c.args.found.to (c.in-None.ensures.none refl)
