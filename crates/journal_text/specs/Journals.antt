-- The text of a journal: a line with the count of its entries, and then a line for each entry, with its station, its
-- number and its step. Each line ends with a line feed.
use Rattle.std.specs.Prelude.{◌≡◌, ◌≤◌, ℕ, List, [], ◌++◌, Vec, vec_capacity, length, codes, decimal}
use Rattle.std.specs.Global.{Global}
use Rattle.std.specs.List.{flat_map, All}
use Rattle.edit_calls.specs.declared.asks.Call.{Call}
use Rattle.room_core.specs.declared.entry.Entry.{Entry}
use Rattle.take_back.specs.declared.step.Step.{Step}
use Rattle.room_core.specs.History.{NumbersRise, most_entries}
use Rattle.journal_text.specs.declared.journal.TheConstants.{MAX_JOURNAL_TEXT}
use Rattle.journal_text.specs.declared.journal_reading.TheConstants.{LAST_STATION}
use Rattle.line_table.specs.CallTexts.{step_text_of, IsSmall, IsWrittenStep}

-- an entry's line, without its line feed
abbrev pub entry_text : Entry (Step Call) → List ℕ
entry_text entry =
    decimal entry.station ++ codes " " ++ decimal entry.number ++ codes " "
    ++ step_text_of entry.call

abbrev pub entry_line : Entry (Step Call) → List ℕ
entry_line entry = entry_text entry ++ codes "\n"

-- the first line, without its line feed
abbrev pub count_text : ℕ → List ℕ
count_text count = codes "journal " ++ decimal count

abbrev pub count_line : ℕ → List ℕ
count_line count = count_text count ++ codes "\n"

abbrev pub journal_text_of : List (Entry (Step Call)) → List ℕ
journal_text_of entries = count_line (length entries) ++ flat_map entry_line entries

-- an entry that has a line: its station is at most 15, its number has 32 bits, and a line can name its step, which that
-- station asks for
pub record HasLine (entry : Entry (Step Call)) : Type 0 where
  pub station : entry.station ≤ LAST_STATION
  pub number : IsSmall entry.number
  pub by : entry.call.by ≡ entry.station
  pub call : IsWrittenStep entry.call

-- entries that have a text which is read again: at most 100,000, and the numbers of each station rise
pub record HasText (entries : List (Entry (Step Call))) : Type 0 where
  pub within : length entries ≤ most_entries
  pub lines : All HasLine entries
  pub rise : NumbersRise entries

-- memory for the text of any journal that can be written, and nothing in it
abbrev pub HasRoomForText : Vec ℕ Global → Type 0
HasRoomForText text = (text.items ≡ []) × (MAX_JOURNAL_TEXT ≤ vec_capacity text)
