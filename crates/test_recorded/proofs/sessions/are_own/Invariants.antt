use Rattle.std.proofs.Common.{◌≡◌, ◌<◌, ℕ, Some, slice_get}
use Rattle.recorded_sessions.specs.Sessions.{IsAt}
use Rattle.recorded_sessions.specs.declared.telling.Told.TheVariants.{Own}
use Rattle.test_recorded.proofs.sessions.are_own.Given as goal

abbrev pub invariant-loop-tell : goal.invariant-loop-tell
invariant-loop-tell l = (index point : ℕ) → index < l.tell-index → slice_get l.tells index ≡ Some (Own point) → IsAt l.entries l.station point
