use Rattle.std.proofs.Common.{◌≡◌, drop}
use Rattle.frame_meaning.specs.Marks.{dissolve_from}
use Rattle.frame_meaning.proofs.plain.dissolve_at.Given as goal

abbrev pub invariant-loop-cut : goal.invariant-loop-cut
invariant-loop-cut l = dissolve_from l.cut (drop l.cut l.cells) l.place ≡ dissolve_from 0 l.cells l.place
