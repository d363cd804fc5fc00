use Rattle.std.proofs.Common.{◌≡◌, ◌≤◌, ◌*◌, take, sum_by}
use Rattle.test_pages.proofs.shots.places_of.Given as goal

abbrev pub invariant-loop-shot : goal.invariant-loop-shot
invariant-loop-shot l = record {
  places : l.places ≡ sum_by (λ s. s.len) (take l.shot-index l.shots);
  few : l.places ≤ 255 * l.shot-index;
}
