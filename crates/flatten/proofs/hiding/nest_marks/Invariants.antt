use Rattle.std.proofs.Common.{◌≡◌, drop, map}
use Rattle.flatten.specs.Hiding.{hides_behind, hides_of_nests}
use Rattle.flatten.specs.Marks.{hides_of}
use Rattle.flatten.specs.Nests.{frames_of_nests}
use Rattle.flatten.specs.Strips.{AllFit}
use Rattle.flatten.proofs.hiding.nest_marks.Given as goal

abbrev pub invariant-loop-nest : goal.invariant-loop-nest
invariant-loop-nest l = record {
  all : AllFit l.all;
  same : hides_behind l.table.media (frames_of_nests l.table) (map hides_of l.all) (drop l.nest-index l.table.nests) ≡ hides_of_nests l.table;
}
