-- A journal whose entries are those of the scripts, in whatever order the stations were served.
use Rattle.std.specs.Prelude.{◌≡◌, ℕ, ◌<◌, List}
use Rattle.room_core.specs.OwnParts.{AreOfFirst, calls_of}
use Rattle.edit_calls.specs.declared.asks.Call.{Call}
use Rattle.room_core.specs.Projection.{of_station}
use Rattle.room_core.specs.declared.entry.Entry.{Entry}
use Rattle.made_sessions.specs.Scripts.{script}

-- the entries are those of the first so many stations, and those of each are its script
pub record HaveScripts (number count stations : ℕ) (entries : List (Entry Call)) : Type 0 where
  pub of_first : AreOfFirst stations entries
  pub each : (station : ℕ) → station < stations → calls_of (of_station station entries) ≡ script number count station
