use Rattle.std.proofs.Common.{◌≡◌, ◌≤◌, ◌++◌, drop}
use Rattle.list_import.specs.TrackItems.{track_views}
use Rattle.list_import.specs.ShotFacts.{CanBeLaid}
use Rattle.list_import.proofs.tracks.views_of.Given as goal

abbrev pub invariant-loop-shot : goal.invariant-loop-shot
invariant-loop-shot l = record {
  laid : CanBeLaid l.at (drop l.shot-index l.shots);
  numbers : l.number ≤ l.at;
  so_far : l.views.items ++ track_views l.at l.number (drop l.shot-index l.shots) ≡ track_views l.start 0 l.shots;
}
