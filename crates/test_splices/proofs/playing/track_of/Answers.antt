use Rattle.std.proofs.Common.{length, ap, arith, false}
use Rattle.composables.specs.TrackState.{TrackState}
use Rattle.edit_splice.proofs.Numbers.{below-weaker}
use Rattle.edit_splice.proofs.Meeting.{filled-each}
use Rattle.edit_splice.proofs.Keeping.{kept_put}
use Rattle.test_splices.proofs.playing.track_of.Goals as goal

pub splice-requires-clause-filled : goal.splice-requires-clause-filled
splice-requires-clause-filled g c = filled-each c.args.views.now c.requires.new.each

pub splice-requires-clause-numbers : goal.splice-requires-clause-numbers
splice-requires-clause-numbers g c = below-weaker 100 4294967294 c.args.views.now (omega arith) c.requires.numbers

pub splice-requires-clause-kept : goal.splice-requires-clause-kept
splice-requires-clause-kept g c =
    kept_put false c.empty-track.result c.length-end.result c.length-end.result 0 c.args.views.now c.length-end.ensures.kept (omega arith) (omega (arith, c.length-end.ensures.value))
    (omega (arith, ap (λ (t : TrackState). t.next_item) c.empty-track.ensures)) c.requires.new
    (omega (arith, ap (λ (t : TrackState). length t.cells) c.empty-track.ensures)) c.requires.frames
