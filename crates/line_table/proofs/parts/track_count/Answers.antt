use Rattle.std.proofs.Common.{refl, sym, ◌∙◌, arith}
use Rattle.line_table.proofs.TrackSets.{all_counted, counted_with, counted_without, none_counted}
use Rattle.line_table.proofs.parts.track_count.Goals as goal
use Rattle.line_table.proofs.parts.track_count.Goals.{then-has_track, else-has_track}

pub loop-track-init : goal.loop-track-init
loop-track-init c = (none_counted c.args.tracks 0 refl, omega arith)

pub loop-track-preserved : goal.loop-track-preserved
loop-track-preserved c = elim c.if-has_track.branch [
  | then-has_track w ↦ rw w.count-is (
    counted_with c.args.tracks c.loop-track.track c.loop-track.count _ c.loop-track-test.true (sym c.has_track.ensures ∙ w.if-has_track.true) c.loop-track.invariant.0,
    omega (arith, c.loop-track.invariant.1),
  )
  | else-has_track w ↦ rw w.count-is (
    counted_without c.args.tracks c.loop-track.track c.loop-track.count _ c.loop-track-test.true (sym c.has_track.ensures ∙ w.if-has_track.false) c.loop-track.invariant.0,
    omega (arith, c.loop-track.invariant.1),
  )
]

pub returns : goal.returns
returns c = all_counted c.args.tracks c.loop-track.track c.loop-track.count _ (omega (arith, c.loop-track-test.false, c.loop-track.auto.track-end)) c.loop-track.invariant.0
