-- Events of stations, as the machine takes them.
use Rattle.std.specs.Prelude.{ℕ}
use Rattle.room_core.specs.Machine.{Event, Take, Commit, Give}
use Rattle.test_counters.specs.declared.stations.Event.{Event as Done}
use Rattle.test_counters.specs.declared.stations.Event.TheVariants as done

abbrev pub event_of : Done → Event (ℕ × ℕ)
event_of (done.Take station part) = Take station part
event_of (done.Commit station number call) = Commit station number call
event_of (done.Give station part) = Give station part

abbrev pub IsCommit : Event (ℕ × ℕ) → Type 0
IsCommit (Take station part) = ⊥
IsCommit (Commit station number call) = Unit {0}
IsCommit (Give station part) = ⊥
