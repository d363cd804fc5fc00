use Rattle.std.proofs.Common.{ap, ◌∙◌}
use Rattle.track_locks.proofs.HeldSeats.{copied_more}
use Rattle.track_locks.proofs.held.copied.Goals as goal

pub loop-home-preserved : goal.loop-home-preserved
loop-home-preserved g c =
    let i = c.loop-home.invariant in
    record {
      so_far = copied_more (λ h. h.part) c.args.homes.now c.loop-home.all.items c.push_reserved.new.self.items c.loop-home.home-index c.home-item.result c.in_ok-part.part c.loop-home-test.true c.push_reserved.ensures.items i.so_far (c.in_ok-part.ensures ∙ ap (λ h. h.part) c.home-item.is);
      room = c.push_reserved.ensures.capacity ∙ i.room;
    }
