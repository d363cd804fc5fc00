-- What the numbers that records tell are to the entries of a room.
use Rattle.std.specs.Prelude.{◌≡◌, ℕ, List, [], map}
use Rattle.edit_calls.specs.declared.asks.Call.{Call}
use Rattle.take_back.specs.declared.step.Step.{Step}
use Rattle.room_core.specs.declared.entry.Entry.{Entry}
use Rattle.edit_journal.specs.Turns.{last_of}
use Rattle.journal_text.specs.Journals.{entry_text, HasText}
use Rattle.kept_rooms.specs.Kept.{AreTaken}
use Rattle.kept_numbers.specs.Numbers.{last_number}

-- the records of a file from which a room goes on: the number is that of the station's last entry
abbrev pub NumbersOfTaken : Type 0
NumbersOfTaken =
    (stations : ℕ) (records : List (List ℕ)) (entries : List (Entry (Step Call)))
    → AreTaken stations [] records entries
    → (station : ℕ) → last_number station records ≡ last_of station entries

-- the lines of the entries of a history
abbrev pub NumbersOfWritten : Type 0
NumbersOfWritten =
    (entries : List (Entry (Step Call)))
    → HasText entries
    → (station : ℕ) → last_number station (map entry_text entries) ≡ last_of station entries
