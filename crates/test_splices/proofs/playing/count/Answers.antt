use Rattle.std.proofs.Common.{arith, false}
use Rattle.edit_splice.proofs.Numbers.{below-weaker}
use Rattle.edit_splice.proofs.Meeting.{filled-each}
use Rattle.edit_splice.proofs.Keeping.{kept_put}
use Rattle.edit_splice.proofs.Outcomes.{length-spliced_track}
use Rattle.test_splices.proofs.playing.count.Goals as goal

pub count_after-requires-clause-filled : goal.count_after-requires-clause-filled
count_after-requires-clause-filled g c = filled-each c.args.views.now c.requires.new.each

pub count_after-requires-clause-numbers : goal.count_after-requires-clause-numbers
count_after-requires-clause-numbers g c = below-weaker 100 4294967295 c.args.views.now (omega arith) c.requires.numbers

pub count_after-requires-clause-short : goal.count_after-requires-clause-short
count_after-requires-clause-short g c =
    omega (
      arith,
      length-spliced_track false c.args.track.now c.args.x c.args.y c.args.views.now c.requires.order c.requires.within,
      (kept_put false c.args.track.now c.args.x c.args.y 4 c.args.views.now c.a_track_is_kept.ensures c.requires.order c.requires.within c.requires.next c.requires.new c.requires.short c.requires.frames).short,
    )
