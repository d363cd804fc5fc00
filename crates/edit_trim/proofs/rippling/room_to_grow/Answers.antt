use Rattle.edit_trim.proofs.Ripples.{room-all, room-more, room-none}
use Rattle.edit_trim.proofs.rippling.room_to_grow.Goals as goal

pub loop-track-init : goal.loop-track-init
loop-track-init c = λ n small. room-all c.args.own c.args.place n c.args.named.now small

pub loop-track-preserved : goal.loop-track-preserved
loop-track-preserved c =
    λ n small.
    room-more c.args.own c.args.place c.loop-track.room c.room_of.result c.min-room.result n c.args.named.now c.loop-track.track-index c.track-item.result c.loop-track-test.true c.track-item.is c.min-room.ensures
    (c.room_of.ensures n small) (c.loop-track.invariant n small)

pub returns : goal.returns
returns c = λ n small. room-none c.args.own c.args.place c.loop-track.room n c.args.named.now c.loop-track.track-index c.loop-track-test.false (c.loop-track.invariant n small)
