-- What a mirror has, and what it does about one entry of a stream.
use Rattle.std.specs.Prelude.{◌≡◌, ◌≢◌, ◌<◌, ◌⊎◌, ℕ, List, [], ◌∷◌, ◌++◌, Some, None, Result, Ok, Err}
use Rattle.std.specs.Prelude.{true, false, length, slice_get}
use Rattle.room_core.specs.declared.entry.Entry.{Entry}
use Rattle.room_core.specs.History.{after_entry, replay, most_entries, IsLegal}
use Rattle.room_core.specs.Machine.{is_above}
use Rattle.room_core.specs.Whole.{Meaning, whole}
use Rattle.cut_mirror.specs.declared.fault.MirrorFault.{MirrorFault}
use Rattle.cut_mirror.specs.declared.fault.MirrorFault.TheVariants.{Gap, Differs, Full, Late, Refused, Memory}

-- its object, the entries that it has taken, and its parts
pub record Mirrored (O P C : Type 0) : Type 0 where
  pub object : O
  pub entries : List (Entry C)
  pub parts : List P

-- its entries are a legal history of this opening, and its parts are what they come to
pub record IsMirrorOf {O P C D R : Type 0} (meaning : O → Meaning P C D R) (opens : O → List P → Type 0)
    (opening : List P) (m : Mirrored O P C) : Type 0 where
  pub opens_so : opens m.object opening
  pub legal : IsLegal (whole (meaning m.object)) opening m.entries
  pub comes : replay (whole (meaning m.object)) opening m.entries ≡ Some m.parts

-- the entry stands at its place already
pub record Stands {C : Type 0} (entries : List (Entry C)) (place : ℕ) (e : Entry C) : Type 0 where
  pub within : place < length entries
  pub is : slice_get entries place ≡ Some e

-- the place is the end, there is room, and the number is above those of its station
pub record CanCome {C : Type 0} (entries : List (Entry C)) (place : ℕ) (e : Entry C) : Type 0 where
  pub at : place ≡ length entries
  pub room : length entries < most_entries
  pub above : is_above e.station e.number entries ≡ true

-- the entry is the last now, and the parts are what it leaves
pub record Adds {O P C D R : Type 0} (meaning : Meaning P C D R) (before : Mirrored O P C) (e : Entry C)
    (after : Mirrored O P C) : Type 0 where
  pub object : after.object ≡ before.object
  pub entries : after.entries ≡ before.entries ++ e ∷ []
  pub parts : after_entry (whole meaning) (Some before.parts) e ≡ Some after.parts

-- Why an entry is not taken, and exactly when; of three reasons at the end of the list the first that holds.
abbrev pub IsWhy : {O P C D R : Type 0} → Meaning P C D R → Mirrored O P C → ℕ → Entry C → MirrorFault → Type 0
IsWhy meaning m place e (Gap point) = (point ≡ length m.entries) × (length m.entries < place)
IsWhy meaning m place e (Differs at) = (at ≡ place) × (place < length m.entries) × (slice_get m.entries place ≢ Some e)
IsWhy meaning m place e Full = (place ≡ length m.entries) × (length m.entries ≡ most_entries)
IsWhy meaning m place e (Late at) =
    (at ≡ place) × (place ≡ length m.entries) × (length m.entries < most_entries)
    × (is_above e.station e.number m.entries ≡ false)
IsWhy meaning m place e (Refused at) =
    (at ≡ place) × CanCome m.entries place e × (after_entry (whole meaning) (Some m.parts) e ≡ None)
IsWhy meaning m place e Memory = CanCome m.entries place e

-- an entry that stands there changes nothing, one that can come and applies is added, and after a fault nothing has
-- changed
abbrev pub Takes : {O P C D R A : Type 0} → Meaning P C D R → Mirrored O P C → ℕ → Entry C → Mirrored O P C
    → Result A MirrorFault → Type 0
Takes meaning before place e after (Ok a) =
    (Stands before.entries place e × (after ≡ before)) ⊎ (CanCome before.entries place e × Adds meaning before e after)
Takes meaning before place e after (Err fault) = IsWhy meaning before place e fault × (after ≡ before)
