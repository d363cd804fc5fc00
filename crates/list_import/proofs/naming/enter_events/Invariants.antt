use Rattle.std.proofs.Common.{◌≡◌, ◌≤◌, ◌*◌, ◌++◌, drop, length, map}
use Rattle.list_import.specs.ListReels.{reels_behind, reels_of, shot_of, shots_of, with_reels}
use Rattle.list_import.proofs.naming.enter_events.Given as goal

abbrev pub invariant-loop-event : goal.invariant-loop-event
invariant-loop-event l = record {
  few : length l.table.reels ≤ 2 * l.event-index;
  reels : reels_behind l.table.reels (drop l.event-index l.events) ≡ reels_of l.events;
  shots : l.shots.items ++ map (shot_of (reels_of l.events)) (drop l.event-index l.events) ≡ shots_of l.events;
  table : l.table ≡ with_reels l.fn.table l.table.reels;
}
