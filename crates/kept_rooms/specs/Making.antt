-- The entries of a kept file while they are made again: what a station's pass knows then, and what becomes of a record.
use Rattle.std.specs.Prelude.{◌≡◌, ℕ, ◌+◌, ◌≤◌, List, [], ◌∷◌, ◌++◌, Option, Some, None, Result, Ok, Err, IsSome, length, slice_get}
use Rattle.edit_calls.specs.declared.asks.Call.{Call}
use Rattle.take_back.specs.declared.step.Step.{Step}
use Rattle.room_core.specs.declared.entry.Entry.{Entry}
use Rattle.room_core.specs.History.{replay}
use Rattle.room_core.specs.Projection.{of_station}
use Rattle.room_core.specs.Whole.{Meaning, whole}
use Rattle.edit_journal.specs.Turns.{Known}
use Rattle.history_points.specs.Replays.{IsFirstRefused}
use Rattle.cut_room.specs.declared.answers.Answer.{Answer}
use Rattle.cut_room.specs.declared.answers.Answer.TheVariants as answer
use Rattle.kept_rooms.specs.declared.fault.KeptFault.{KeptFault}
use Rattle.kept_rooms.specs.declared.fault.KeptFault.TheVariants as fault
use Rattle.kept_rooms.specs.declared.stop.Stop.{Stop}
use Rattle.kept_rooms.specs.declared.stop.Stop.TheVariants as stop
use Rattle.kept_rooms.specs.Kept.{IsRefusedAfter, IsTakenAfter}
use Rattle.kept_rooms.specs.Records.{AreLasts}

-- the pass that is there
abbrev pub known_of : {O P C : Type 0} → Option (Known O P C) → Known O P C
known_of None = record { number = 0; opening = None; entries = [] }
known_of (Some pass) = pass

-- an edit was done as the entry at this place
abbrev pub IsDoneAt : {O P C D R A S Q : Type 0} → ℕ → Answer O P C D R A S Q → Type 0
IsDoneAt place (answer.Done point done) = point ≡ place
IsDoneAt place (answer.Refused point refusal) = ⊥
IsDoneAt place (answer.Full point) = ⊥
IsDoneAt place answer.Memory = ⊥

-- the entry stands at this place of what its station's pass knows, and is its last
pub record IsMadeAt {O P C : Type 0} (place : ℕ) (entry : Entry C) (before after : Known O P C) : Type 0 where
  pub number_is : after.number ≡ before.number
  pub length_is : length after.entries ≡ place + 1
  pub own : of_station before.number after.entries ≡ of_station before.number before.entries ++ entry ∷ []

-- the pass of a station, when so many entries have been made again
pub record HasOwn {O P C : Type 0} (entries : List (Entry C)) (station : ℕ) (pass : Known O P C) : Type 0 where
  pub number_is : pass.number ≡ station
  pub within : length pass.entries ≤ length entries
  pub own : of_station station pass.entries ≡ of_station station entries

-- the entries that were made again, the last number of each station, and their passes
pub record IsMade {O P C : Type 0} (entries : List (Entry C)) (lasts : List ℕ) (passes : List (Known O P C)) : Type 0 where
  pub lasts_are : AreLasts entries lasts
  pub each : (station : ℕ) (pass : Known O P C) → slice_get passes station ≡ Some pass → HasOwn entries station pass

-- a record is taken as one entry more
pub record TakesOne (stations : ℕ) (line : List ℕ) (before after : List (Entry (Step Call))) : Type 0 where
  pub entry : Entry (Step Call)
  pub taken : IsTakenAfter stations before line entry
  pub entries_are : after ≡ before ++ entry ∷ []

-- what becomes of a record
abbrev pub Adds : ℕ → List ℕ → List (Entry (Step Call)) → List (Entry (Step Call)) → Result (Unit {0}) Stop → Type 0
Adds stations line before after (Ok done) = TakesOne stations line before after
Adds stations line before after (Err (stop.Refused code)) = IsRefusedAfter stations before line code × (after ≡ before)
Adds stations line before after (Err stop.NotApplied) = TakesOne stations line before after
Adds stations line before after (Err stop.Strayed) = Unit {0}
Adds stations line before after (Err stop.Memory) = Unit {0}

-- the room did not do an edit as it was to be done
abbrev pub IsOfRoom : Stop → Type 0
IsOfRoom (stop.Refused code) = ⊥
IsOfRoom stop.NotApplied = Unit {0}
IsOfRoom stop.Strayed = Unit {0}
IsOfRoom stop.Memory = Unit {0}

-- what becomes of an entry
abbrev pub Makes : {C : Type 0} → Entry C → List (Entry C) → List (Entry C) → Result (Unit {0}) Stop → Type 0
Makes entry before after (Ok done) = after ≡ before ++ entry ∷ []
Makes entry before after (Err (stop.Refused code)) = ⊥
Makes entry before after (Err stop.NotApplied) = after ≡ before ++ entry ∷ []
Makes entry before after (Err stop.Strayed) = Unit {0}
Makes entry before after (Err stop.Memory) = Unit {0}

-- the making stopped for what the record says or does
abbrev pub IsOfRecord : Stop → Type 0
IsOfRecord (stop.Refused code) = Unit {0}
IsOfRecord stop.NotApplied = Unit {0}
IsOfRecord stop.Strayed = ⊥
IsOfRecord stop.Memory = ⊥

-- the room did otherwise, or there was no memory
abbrev pub IsLookFault : KeptFault → Type 0
IsLookFault (fault.Refused code number) = ⊥
IsLookFault (fault.NotApplied place) = ⊥
IsLookFault fault.Strayed = Unit {0}
IsLookFault fault.Memory = Unit {0}

-- what is told of a record after so many entries that apply
abbrev pub IsToldOf : ℕ → Stop → KeptFault → Type 0
IsToldOf count (stop.Refused code) told = told ≡ fault.Refused code (count + 1)
IsToldOf count stop.NotApplied told = IsLookFault told
IsToldOf count stop.Strayed told = IsLookFault told
IsToldOf count stop.Memory told = IsLookFault told

-- what is told where the making of entries stops after these: of one that does not apply, else of the record
abbrev pub Tells : {P C D R : Type 0} → Meaning P C D R → List P → List (Entry C) → Stop → KeptFault → Type 0
Tells m opening entries why (fault.Refused code number) = (why ≡ stop.Refused code) × IsSome
    (replay (whole m) opening entries) × (number ≡ length entries + 1)
Tells m opening entries why (fault.NotApplied place) = IsOfRecord why × IsFirstRefused m opening entries (length entries) place
Tells m opening entries why fault.Strayed = Unit {0}
Tells m opening entries why fault.Memory = Unit {0}
