-- One record of a kept file as an entry of a room, or why it is refused. What is asked of it depends on the stations of the
-- room, and on the greatest number of its station before it, 0 where there is none.
use Rattle.std.specs.Prelude.{◌≡◌, ℕ, ◌<◌, ◌≤◌, List, Some, get_or, slice_get}
use Rattle.edit_calls.specs.declared.asks.Call.{Call}
use Rattle.take_back.specs.declared.step.Step.{Step}
use Rattle.edit_journal.specs.Turns.{last_of}
use Rattle.room_core.specs.declared.entry.Entry.{Entry}
use Rattle.journal_text.specs.Journals.{entry_text, HasLine}
use Rattle.journal_text.specs.JournalFaults.{IsNoEntry}
use Rattle.kept_rooms.specs.declared.fault.RecordCode.{RecordCode}
use Rattle.kept_rooms.specs.declared.fault.RecordCode.TheVariants.{H1, H4, H6, H7}
use Rattle.kept_rooms.specs.declared.fault.RecordFault.{RecordFault}
use Rattle.kept_rooms.specs.declared.fault.RecordFault.TheVariants.{Refused, Memory}
use Rattle.kept_rooms.specs.declared.records.TheConstants.{LAST_NUMBER}

-- the number that a list has for a station
abbrev pub last_in : List ℕ → ℕ → ℕ
last_in lasts station = get_or lasts station 0

-- these are the greatest numbers of the stations in these entries
abbrev pub AreLasts : {C : Type 0} → List (Entry C) → List ℕ → Type 0
AreLasts entries lasts = (station : ℕ) → station < 16 → slice_get lasts station ≡ Some (last_of station entries)

-- the entry may come next in a room of so many stations, where this is the last number of its own
pub record IsNext {C : Type 0} (stations last : ℕ) (entry : Entry C) : Type 0 where
  pub rises : last < entry.number
  pub station : entry.station < stations
  pub number : entry.number ≤ LAST_NUMBER

-- why it may not, the first of these that holds: its number does not rise, its station is not in the room, its number is
-- too great
abbrev pub IsNotNext : {C : Type 0} → ℕ → ℕ → Entry C → RecordCode → Type 0
IsNotNext stations last entry H1 = ⊥
IsNotNext stations last entry H4 = entry.number ≤ last
IsNotNext stations last entry H6 = (last < entry.number) × (stations ≤ entry.station)
IsNotNext stations last entry H7 = (last < entry.number) × (entry.station < stations) × (LAST_NUMBER < entry.number)

-- the stations of a room, and the last number of each
module _ (stations : ℕ) (last : ℕ → ℕ) (line : List ℕ) where
  -- the line is that of this entry, which may come next
  pub record IsTakenAs (entry : Entry (Step Call)) : Type 0 where
    pub has_line : HasLine entry
    pub text : line ≡ entry_text entry
    pub next : IsNext stations (last entry.station) entry

  -- the line is that of an entry which may not come next
  pub record IsOfNone (code : RecordCode) : Type 0 where
    pub entry : Entry (Step Call)
    pub has_line : HasLine entry
    pub text : line ≡ entry_text entry
    pub not_next : IsNotNext stations (last entry.station) entry code

  -- why the line is refused: it is no entry's, or that of one which may not come next
  abbrev pub IsRefusedAs : RecordCode → Type 0
  IsRefusedAs H1 = IsNoEntry line
  IsRefusedAs H4 = IsOfNone H4
  IsRefusedAs H6 = IsOfNone H6
  IsRefusedAs H7 = IsOfNone H7

  abbrev pub IsRefusedFor : RecordFault → Type 0
  IsRefusedFor (Refused code) = IsRefusedAs code
  IsRefusedFor Memory = Unit {0}
