use Rattle.std.proofs.Common.{◌≡◌, ◌≤◌, ◌++◌, drop}
use Rattle.otio_tracks.specs.Building.{views_of}
use Rattle.otio_tracks.proofs.building.views_of.Given as goal

abbrev pub invariant-loop-part : goal.invariant-loop-part
invariant-loop-part l = record {
  views : l.views.items ++ views_of l.number (drop l.part-index l.parts) ≡ views_of 0 l.parts;
  number : l.number ≤ l.part-index;
}
