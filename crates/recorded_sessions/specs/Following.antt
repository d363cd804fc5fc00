-- Why replies are followed no further.
use Rattle.std.specs.Prelude.{ℕ}
use Rattle.recorded_sessions.specs.Stopping.{StopsAtReply}
use Rattle.recorded_sessions.specs.Telling.{Explaining}
use Rattle.recorded_sessions.specs.declared.session.Stop.{Stop}
use Rattle.recorded_sessions.specs.declared.session.Stop.TheVariants.{Reply, Unpaired, Untold, Memory}

-- of so many
abbrev pub StopsFollowing : Explaining → ℕ → Stop → Type 0
StopsFollowing explains count (Reply number told) = StopsAtReply explains count number told
StopsFollowing explains count (Unpaired number) = ⊥
StopsFollowing explains count (Untold place) = ⊥
StopsFollowing explains count Memory = Unit {0}
