use Rattle.std.proofs.Common.{◌≡◌, ◌<◌, ℕ}
use Rattle.room_core.specs.OwnParts.{calls_of}
use Rattle.room_core.specs.Projection.{of_station}
use Rattle.made_sessions.specs.Scripts.{script}
use Rattle.made_sessions.proofs.comparing.have_scripts.Given as goal

-- each station so far has its script
abbrev pub invariant-loop-station : goal.invariant-loop-station
invariant-loop-station l = (s : ℕ) → s < l.station → calls_of (of_station s l.entries) ≡ script l.number l.count s
