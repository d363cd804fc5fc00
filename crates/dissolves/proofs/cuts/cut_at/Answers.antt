use Rattle.std.proofs.Common.{arith, sym, ◌∙◌}
use Rattle.composables.proofs.Joining.{length-items_of}
use Rattle.dissolves.proofs.AtCuts.{no_cut_inside, no_cut_first, cut_is, is_there}
use Rattle.dissolves.proofs.cuts.cut_at.Goals as goal

pub returns-then-place-at-clause-none : goal.returns-then-place-at-clause-none
returns-then-place-at-clause-none g c h =
    no_cut_inside c.args.track.now.cells c.in_ok-place.place c.args.at c.length.ensures.kept.whole c.in_ok-place.ensures.found c.if-place-at.true c.in_ok-place.ensures.holds.1

pub returns-in_err-left-clause-none : goal.returns-in_err-left-clause-none
returns-in_err-left-clause-none g c h =
    no_cut_first c.args.track.now c.in_ok-place.place c.args.at c.length.ensures.kept c.in_ok-place.ensures.found c.in_ok-place.ensures.holds.0 c.if-place-at.false (sym c.view_before.ensures ∙ c.in_err-left.was)

pub returns-in_err-right-clause-none : goal.returns-in_err-right-clause-none
returns-in_err-right-clause-none g c h = absurd (is_there c.args.track.now.cells c.in_ok-place.place c.in_ok-place.ensures.found (sym c.item.ensures ∙ c.in_err-right.was))

pub overflow_add-place : goal.overflow_add-place
overflow_add-place g c = omega (arith, c.in_ok-place.ensures.found.index, length-items_of c.args.track.now.cells, c.length.ensures.kept.short)

pub returns-clause-cut : goal.returns-clause-cut
returns-clause-cut g c =
    cut_is c.args.track.now.cells c.in_ok-place.place c.args.at c.in_ok-left.left c.in_ok-right.right c.item-2.result c.mark_before-tail.result
    c.in_ok-place.ensures.found c.in_ok-place.ensures.holds.0 c.if-place-at.false (sym c.view_before.ensures ∙ c.in_ok-left.was) (sym c.item.ensures ∙ c.in_ok-right.was)
    c.item-2.ensures c.mark_before-tail.ensures
