use Rattle.std.proofs.Common.{◌≡◌, ◌&&◌, drop, bytes_eq}
use Rattle.crew_words.proofs.crew.are_one.Given as goal

abbrev pub invariant-loop-at : goal.invariant-loop-at
invariant-loop-at l = bytes_eq l.first l.second ≡ (l.is_one && bytes_eq (drop l.at l.first) (drop l.at l.second))
