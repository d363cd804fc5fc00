use Rattle.std.proofs.Common.{◌≡◌, drop}
use Rattle.frame_meaning.specs.Going.{same_what}
use Rattle.frame_meaning.specs.Runs.{runs}
use Rattle.frame_meaning.proofs.plain.runs_of.Given as goal

abbrev pub invariant-loop-index : goal.invariant-loop-index
invariant-loop-index l = l.all.items ≡ runs same_what (drop l.index l.frames)
