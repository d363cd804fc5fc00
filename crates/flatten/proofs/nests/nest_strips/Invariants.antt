use Rattle.std.proofs.Common.{◌≡◌, drop, map}
use Rattle.flatten.specs.Nests.{frames_of_nests, nests_behind}
use Rattle.flatten.specs.Strips.{AllFit, frames_of}
use Rattle.flatten.proofs.nests.nest_strips.Given as goal

abbrev pub invariant-loop-nest : goal.invariant-loop-nest
invariant-loop-nest l = record {
  all : AllFit l.all;
  same : nests_behind l.table.media (map frames_of l.all) (drop l.nest-index l.table.nests) ≡ frames_of_nests l.table;
}
