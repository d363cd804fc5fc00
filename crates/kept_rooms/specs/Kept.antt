-- When the records of a kept file are the first entries of a room, and which record is the first for which that fails.
use Rattle.std.specs.Prelude.{◌≡◌, ℕ, ◌+◌, List, [], ◌∷◌, ◌++◌, None, IsSome, length}
use Rattle.edit_calls.specs.declared.asks.Call.{Call}
use Rattle.take_back.specs.declared.step.Step.{Step}
use Rattle.edit_journal.specs.Turns.{last_of}
use Rattle.room_core.specs.declared.entry.Entry.{Entry}
use Rattle.room_core.specs.History.{replay}
use Rattle.room_core.specs.Whole.{Meaning, whole}
use Rattle.kept_rooms.specs.declared.fault.RecordCode.{RecordCode}
use Rattle.kept_rooms.specs.declared.fault.KeptFault.{KeptFault}
use Rattle.kept_rooms.specs.declared.fault.KeptFault.TheVariants.{Refused, NotApplied, Strayed, Memory}
use Rattle.kept_rooms.specs.Records.{IsRefusedAs, IsTakenAs}

-- a record is taken as this entry after these
abbrev pub IsTakenAfter : ℕ → List (Entry (Step Call)) → List ℕ → Entry (Step Call) → Type 0
IsTakenAfter stations before line entry = IsTakenAs stations (λ s. last_of s before) line entry

-- a record is refused for this after these
abbrev pub IsRefusedAfter : ℕ → List (Entry (Step Call)) → List ℕ → RecordCode → Type 0
IsRefusedAfter stations before line code = IsRefusedAs stations (λ s. last_of s before) line code

-- the records are taken as these entries, one after another, after those
abbrev pub AreTaken : ℕ → List (Entry (Step Call)) → List (List ℕ) → List (Entry (Step Call)) → Type 0
AreTaken stations before [] [] = Unit {0}
AreTaken stations before [] (e ∷ es) = ⊥
AreTaken stations before (line ∷ lines) [] = ⊥
AreTaken stations before (line ∷ lines) (e ∷ es) = IsTakenAfter stations before line e × AreTaken stations (before ++ e ∷ []) lines es

-- a room whose calls mean this, what it begins with, and how many stations it has
module _ {P D R : Type 0} (m : Meaning P (Step Call) D R) (opening : List P) (stations : ℕ) (records : List (List ℕ)) where
  -- the records are these entries, and they all apply in order
  pub record AreKept (entries : List (Entry (Step Call))) : Type 0 where
    pub taken : AreTaken stations [] records entries
    pub applies : IsSome (replay (whole m) opening entries)

  -- The records before this one are these entries, which apply.
  pub record StandsAfter (before : List (Entry (Step Call))) (line : List ℕ) : Type 0 where
    pub lines : List (List ℕ)
    pub others : List (List ℕ)
    pub records_are : records ≡ lines ++ line ∷ others
    pub taken : AreTaken stations [] lines before
    pub applies : IsSome (replay (whole m) opening before)

  -- the first record that fails is refused for this, and is the record of this number, from 1
  pub record RefusesRecord (code : RecordCode) (number : ℕ) : Type 0 where
    pub before : List (Entry (Step Call))
    pub line : List ℕ
    pub stands : StandsAfter before line
    pub refused : IsRefusedAfter stations before line code
    pub number_is : number ≡ length before + 1

  -- the first record that fails is taken as an entry that does not apply, at this place, from 0
  pub record RefusesEntry (place : ℕ) : Type 0 where
    pub before : List (Entry (Step Call))
    pub line : List ℕ
    pub entry : Entry (Step Call)
    pub stands : StandsAfter before line
    pub taken : IsTakenAfter stations before line entry
    pub refused : replay (whole m) opening (before ++ entry ∷ []) ≡ None
    pub place_is : place ≡ length before

  -- why the records are not made entries again, where it is their own fault
  abbrev pub KeptRefused : KeptFault → Type 0
  KeptRefused (Refused code number) = RefusesRecord code number
  KeptRefused (NotApplied place) = RefusesEntry place
  KeptRefused Strayed = ⊥
  KeptRefused Memory = ⊥

  -- the same, or the room did otherwise, or there was no memory
  abbrev pub IsKeptFault : KeptFault → Type 0
  IsKeptFault (Refused code number) = RefusesRecord code number
  IsKeptFault (NotApplied place) = RefusesEntry place
  IsKeptFault Strayed = Unit {0}
  IsKeptFault Memory = Unit {0}
