use Rattle.std.proofs.Common.{arith}
use Rattle.test_tracks.proofs.RoomyTracks.{one-more}
use Rattle.test_tracks.proofs.roomy.all_roomy.Goals as goal

pub loop-track-preserved : goal.loop-track-preserved
loop-track-preserved c =
    one-more c.args.named.now c.loop-track.track-index c.track-item.result c.loop-track.invariant c.loop-track-test.true c.track-item.is
    (record { item = omega (arith, c.next_item.ensures, c.if-next_item-gt2147483648.false); link = omega (arith, c.next_link.ensures, c.if-next_link-gt2147483648.false) })

pub returns : goal.returns
returns c = λ _ k d lt. c.loop-track.invariant k d (omega (arith, lt, c.loop-track-test.false))
