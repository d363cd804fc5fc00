use Rattle.std.proofs.Common.{arith, false, true}
use Rattle.edit_splice.proofs.Numbers.{below-weaker}
use Rattle.edit_splice.proofs.Meeting.{filled-each}
use Rattle.edit_splice.proofs.Keeping.{kept_put}
use Rattle.test_splices.proofs.playing.put.Goals as goal

pub splice-requires-clause-filled : goal.splice-requires-clause-filled
splice-requires-clause-filled g c = filled-each c.args.views.now c.requires.new.each

pub splice-requires-clause-numbers : goal.splice-requires-clause-numbers
splice-requires-clause-numbers g c = below-weaker 100 4294967294 c.args.views.now (omega arith) c.requires.numbers

pub splice-requires-clause-kept : goal.splice-requires-clause-kept
splice-requires-clause-kept g c =
    kept_put false c.args.track.now c.args.x c.args.y 4 c.args.views.now c.a_track_is_kept.ensures c.requires.order c.requires.within c.requires.next c.requires.new c.requires.short c.requires.frames

pub splice_keeping-requires-clause-filled : goal.splice_keeping-requires-clause-filled
splice_keeping-requires-clause-filled g c = filled-each c.args.views.now c.requires.new.each

pub splice_keeping-requires-clause-numbers : goal.splice_keeping-requires-clause-numbers
splice_keeping-requires-clause-numbers g c = below-weaker 100 4294967294 c.args.views.now (omega arith) c.requires.numbers

pub splice_keeping-requires-clause-kept : goal.splice_keeping-requires-clause-kept
splice_keeping-requires-clause-kept g c =
    kept_put true c.args.track.now c.args.x c.args.y 4 c.args.views.now c.a_track_is_kept.ensures c.requires.order c.requires.within c.requires.next c.requires.new c.requires.short c.requires.frames
