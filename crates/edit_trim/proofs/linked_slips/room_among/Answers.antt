use Rattle.std.proofs.Common.{ap, refl, arith}
use Rattle.std.proofs.lemmas.List.Sums.{sum_by_more}
use Rattle.composables.specs.Sizes.{size_of}
use Rattle.edit_trim.proofs.LinkedRooms.{among-end, among-more, among-start}
use Rattle.edit_trim.proofs.linked_slips.room_among.Goals as goal

pub loop-track-init : goal.loop-track-init
loop-track-init g c = record { room = among-start c.args.table.now c.args.link c.args.named.now _ refl refl; from = omega arith; most = omega arith }

pub loop-track-preserved : goal.loop-track-preserved
loop-track-preserved g c = record {
  room =
      among-more c.args.table.now c.args.link c.loop-track.track-index c.args.named.now c.track-item.result c.loop-track.room c.room_on.result c.narrower-room.result c.loop-track-test.true c.track-item.is c.narrower-room.ensures.earlier c.narrower-room.ensures.later c.loop-track.invariant.room c.room_on.ensures.room;
  from = omega (arith, c.loop-track.invariant.from, c.room_on.ensures.least);
  most = omega (arith, c.loop-track.invariant.most, c.room_on.ensures.most, ap size_of c.track-item.is, sum_by_more size_of c.args.named.now c.loop-track.track-index c.track-item.result c.loop-track-test.true);
}

pub returns-clause-room : goal.returns-clause-room
returns-clause-room g c = among-end c.args.table.now c.args.link c.loop-track.track-index c.args.named.now c.loop-track.room c.loop-track-test.false c.loop-track.invariant.room
