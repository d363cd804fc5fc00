-- What the passes of a room know once the records of a kept file are its entries.
use Rattle.std.specs.Prelude.{◌≡◌, ℕ, ◌≤◌, List, [], Some, length, drop, slice_get}
use Rattle.room_core.specs.declared.entry.Entry.{Entry}
use Rattle.room_core.specs.History.{IsLegal}
use Rattle.room_core.specs.Projection.{of_station}
use Rattle.room_core.specs.Whole.{Meaning, whole}
use Rattle.edit_journal.specs.Seats.{Begins}
use Rattle.edit_journal.specs.Turns.{Known, last_of}

module _ {O P C D R : Type 0} (m : Meaning P C D R) (opening : List P) (entries : List (Entry C)) where
  -- The pass of a station has been told of that many entries. Those of its own station are those of these entries, all of
  -- them among the first that many.
  pub record KnowsOwn (station : ℕ) (pass : Known O P C) : Type 0 where
    pub number_is : pass.number ≡ station
    pub legal : IsLegal (whole m) opening pass.entries
    pub told : length entries ≤ length pass.entries
    pub own : of_station station pass.entries ≡ of_station station entries
    pub none_later : of_station station (drop (length entries) pass.entries) ≡ []
    pub last : last_of station pass.entries ≡ last_of station entries

  -- each station has its pass, which knows its own
  abbrev pub EachKnowsOwn : List (Known O P C) → Type 0
  EachKnowsOwn passes = (station : ℕ) (pass : Known O P C) → slice_get passes station ≡ Some pass → KnowsOwn station pass

  -- a pass that has no entry of its own knows that the room's history begins with these entries
  pub record KnowsAll (pass : Known O P C) : Type 0 where
    pub legal : IsLegal (whole m) opening pass.entries
    pub begins : Begins pass.entries entries
    pub own : of_station pass.number pass.entries ≡ []
