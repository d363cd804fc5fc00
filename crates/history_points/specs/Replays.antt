-- What a replay answers: the parts after the first entries of a list, or which entry is the first that does not apply.
use Rattle.std.specs.Prelude.{◌≡◌, ℕ, ◌+◌, ◌<◌, List, Vec, Some, None, Result, Ok, Err, IsSome, take}
use Rattle.std.specs.Global.{Global}
use Rattle.room_core.specs.declared.entry.Entry.{Entry}
use Rattle.room_core.specs.History.{replay}
use Rattle.room_core.specs.Whole.{Meaning, whole}
use Rattle.history_points.specs.declared.fault.ReplayFault.{ReplayFault}
use Rattle.history_points.specs.declared.fault.ReplayFault.TheVariants.{Refused, Memory}

-- on these parts those before this entry apply, and it does not
pub record IsFirstRefused {P C D R : Type 0} (m : Meaning P C D R) (from : List P) (entries : List (Entry C)) (n k : ℕ) : Type 0 where
  pub within : k < n
  pub before : IsSome (replay (whole m) from (take k entries))
  pub refused : replay (whole m) from (take (k + 1) entries) ≡ None

abbrev pub Replays : {P C D R : Type 0} → Meaning P C D R → List P → List (Entry C) → ℕ → Result (Vec P Global) ReplayFault → Type 0
Replays m from entries n (Ok parts) = replay (whole m) from (take n entries) ≡ Some parts.items
Replays m from entries n (Err (Refused k)) = IsFirstRefused m from entries n k
Replays m from entries n (Err Memory) = Unit {0}
