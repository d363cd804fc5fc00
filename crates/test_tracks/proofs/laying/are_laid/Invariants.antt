use Rattle.std.proofs.Common.{◌↔◌, false, drop}
use Rattle.test_tracks.specs.Laid.{Laid}
use Rattle.test_tracks.proofs.laying.are_laid.Given as goal

abbrev pub invariant-loop-index : goal.invariant-loop-index
invariant-loop-index l = Laid l.next l.after_gap (drop l.index l.items) ↔ Laid 0 false l.items
