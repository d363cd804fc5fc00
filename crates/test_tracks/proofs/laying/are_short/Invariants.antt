use Rattle.std.proofs.Common.{◌↔◌, ◌≤◌, drop}
use Rattle.composables.specs.Joined.{frames_in}
use Rattle.test_tracks.proofs.laying.are_short.Given as goal

abbrev pub invariant-loop-view : goal.invariant-loop-view
invariant-loop-view l = (frames_in (drop l.view-index l.items) ≤ l.left) ↔ (frames_in l.items ≤ 4294967294)
