use Rattle.std.proofs.Common.{◌+◌, arith, sym, subst}
use Rattle.test_texts.proofs.Pushed.{IsRow, row-first, row-next, row-track}
use Rattle.test_texts.proofs.editor.track_of_items.Goals as goal

pub loop-number-init : goal.loop-number-init
loop-number-init c = row-first c.empty-track.result c.empty-track.ensures

pub push-requires-clause-kept : goal.push-requires-clause-kept
push-requires-clause-kept c =
    (row-track c.args.table.now _ (c.loop-number.number + 1) (row-next c.loop-number.track c.one_frame.result c.loop-number.number c.loop-number.invariant c.one_frame.ensures)
    (omega (arith, c.loop-number-test.true, c.requires.count)) c.requires.media).good.kept

pub loop-number-preserved : goal.loop-number-preserved
loop-number-preserved c =
    subst (IsRow _) (sym c.in_ok-push.ensures.ok)
    (row-next c.loop-number.track c.one_frame.result c.loop-number.number c.loop-number.invariant c.one_frame.ensures)

pub returns : goal.returns
returns c = row-track c.args.table.now c.loop-number.track c.loop-number.number c.loop-number.invariant (omega (arith, c.requires.count, c.loop-number.auto.number-end)) c.requires.media
