use Rattle.std.proofs.Common.{sym, ◌∙◌, arith}
use Rattle.composables.proofs.Joining.{length-items_of}
use Rattle.edit_trim.proofs.Beside.{ends-within, found-end-behind, found-gap-behind, found-item-behind, found-last-behind}
use Rattle.edit_trim.proofs.darkness.dark_behind.Goals as goal

pub overflow_add-place : goal.overflow_add-place
overflow_add-place c = omega (arith, c.requires.place.index, length-items_of c.args.track.now.cells, c.requires.frames)

pub overflow_sub-result : goal.overflow_sub-result
overflow_sub-result c = omega (arith, ends-within c.args.track.now c.args.place c.requires.kept c.requires.place, c.requires.frames)

pub returns-in_default : goal.returns-in_default
returns-in_default c n small = found-end-behind c.args.track.now c.args.place n c.requires.kept c.requires.place (sym c.item.ensures ∙ c.in_default.is) c.requires.frames

pub overflow_add-place-in-None-behind : goal.overflow_add-place-in-None-behind
overflow_add-place-in-None-behind c = omega (arith, c.requires.place.index, length-items_of c.args.track.now.cells, c.requires.frames)

pub overflow_sub-result-in-None-2 : goal.overflow_sub-result-in-None-2
overflow_sub-result-in-None-2 c = omega (arith, ends-within c.args.track.now c.args.place c.requires.kept c.requires.place, c.requires.frames)

pub returns-in-Some-item : goal.returns-in-Some-item
returns-in-Some-item c n small = found-item-behind c.args.track.now c.args.place c.in-Some.behind c.in-Some-item.field-0 n c.requires.kept c.requires.place (sym c.item.ensures ∙ c.in-Some.is) c.in-Some-item.is c.requires.frames

pub returns-in-None : goal.returns-in-None
returns-in-None c n small = found-gap-behind c.args.track.now c.args.place c.in-Some.behind n c.count.result c.requires.kept c.requires.place (sym c.item.ensures ∙ c.in-Some.is) c.in-None.is c.requires.frames c.count.ensures c.if-place-count.true

pub returns-in-None-2 : goal.returns-in-None-2
returns-in-None-2 c n small = found-last-behind c.args.track.now c.args.place c.in-Some.behind n c.count.result c.requires.kept c.requires.place (sym c.item.ensures ∙ c.in-Some.is) c.in-None.is c.requires.frames c.count.ensures c.if-place-count.false
