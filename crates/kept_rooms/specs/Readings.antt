-- What the records of a kept file mean in a room, whatever its calls mean: one thing.
use Rattle.std.specs.Prelude.{◌≡◌, ℕ, List}
use Rattle.edit_calls.specs.declared.asks.Call.{Call}
use Rattle.take_back.specs.declared.step.Step.{Step}
use Rattle.room_core.specs.declared.entry.Entry.{Entry}
use Rattle.room_core.specs.Whole.{Meaning}
use Rattle.kept_rooms.specs.declared.fault.KeptFault.{KeptFault}
use Rattle.kept_rooms.specs.Kept.{AreKept, KeptRefused}

-- a room of parts, what its calls mean, what it begins with, how many stations it has, and the records
module _ (P D R : Type 0) where
  abbrev pub InRooms : (Meaning P (Step Call) D R → List P → ℕ → List (List ℕ) → Type 0) → Type 0
  InRooms Holds = (m : Meaning P (Step Call) D R) (opening : List P) (stations : ℕ) (records : List (List ℕ)) → Holds m opening stations records

  -- no records are two lists of entries
  abbrev pub HaveOneReading : Type 0
  HaveOneReading = InRooms (λ m opening stations records. (entries others : List (Entry (Step Call)))
      → AreKept m opening stations records entries → AreKept m opening stations records others → entries ≡ others)

  -- no records have two faults
  abbrev pub HaveOneFault : Type 0
  HaveOneFault = InRooms (λ m opening stations records. (fault other : KeptFault)
      → KeptRefused m opening stations records fault → KeptRefused m opening stations records other → fault ≡ other)

  -- no records that have a fault are entries
  abbrev pub AreNotBoth : Type 0
  AreNotBoth = InRooms (λ m opening stations records. (entries : List (Entry (Step Call))) (fault : KeptFault)
      → AreKept m opening stations records entries → KeptRefused m opening stations records fault → ⊥)
