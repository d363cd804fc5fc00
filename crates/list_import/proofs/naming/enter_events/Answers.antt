use Rattle.std.proofs.Common.{◌≡◌, List, ℕ, length, sym, ap, ◌∙◌, arith}
use Rattle.composables.specs.declared.media.Table.{Table}
use Rattle.list_import.specs.ListReels.{reels_of, shots_of, with_event, with_reels}
use Rattle.list_import.proofs.ReelFacts.{event_longer, next_reels, next_shots}
use Rattle.list_import.proofs.naming.enter_events.Goals as goal

pub loop-event-preserved : goal.loop-event-preserved
loop-event-preserved c =
    let old : Table = c.loop-event.table in
    let new : Table = c.enter_event.new.table in
    let reels : new.reels ≡ with_event old.reels c.event-item.result = ap (λ (t : Table). t.reels) c.in_ok-shot.ensures.table in
    let longer : length new.reels ≡ length (with_event old.reels c.event-item.result) = ap (λ (rs : List (List ℕ)). length rs) reels in
    record {
      few = omega (arith, longer, event_longer old.reels c.event-item.result, c.loop-event.invariant.few);
      reels = next_reels old.reels new.reels (reels_of c.args.events.now) c.args.events.now c.loop-event.event-index _ c.event-item.result c.loop-event-test.true c.event-item.is c.loop-event.invariant.reels reels;
      shots = next_shots old.reels new.reels (reels_of c.args.events.now) c.args.events.now c.loop-event.event-index _ c.event-item.result c.in_ok-shot.shot c.loop-event.shots.items c.push.new.self.items
          (shots_of c.args.events.now) c.loop-event-test.true c.event-item.is c.loop-event.invariant.reels reels c.in_ok-shot.ensures.shot c.in_ok-push.ensures.items c.loop-event.invariant.shots;
      table = c.in_ok-shot.ensures.table
          ∙ (ap (λ (t : Table). with_reels t (with_event old.reels c.event-item.result)) c.loop-event.invariant.table
          ∙ ap (λ (rs : List (List ℕ)). with_reels c.args.table.now rs) (sym reels));
    }
