use Rattle.std.proofs.Common.{drop}
use Rattle.room_core.specs.OwnParts.{AreOfFirst}
use Rattle.made_sessions.proofs.comparing.are_of_first.Given as goal

-- where those to come are of the first stations, all are
abbrev pub invariant-loop-entry : goal.invariant-loop-entry
invariant-loop-entry l = AreOfFirst l.stations (drop l.entry-index l.entries) → AreOfFirst l.fn.stations l.fn.entries
