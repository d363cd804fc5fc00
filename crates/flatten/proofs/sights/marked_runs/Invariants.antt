use Rattle.std.proofs.Common.{◌≡◌, ◌++◌, drop, map}
use Rattle.flatten.specs.Marks.{marked_run}
use Rattle.flatten.proofs.sights.marked_runs.Given as goal

abbrev pub invariant-loop-run : goal.invariant-loop-run
invariant-loop-run l = l.all ++ map (marked_run l.how) (drop l.run-index l.runs) ≡ map (marked_run l.how) l.runs
