-- What texts of journals mean.
use Rattle.std.specs.Prelude.{◌≡◌, ◌<◌, ◌≤◌, ℕ, List, length}
use Rattle.edit_calls.specs.declared.asks.Call.{Call}
use Rattle.room_core.specs.declared.entry.Entry.{Entry}
use Rattle.take_back.specs.declared.step.Step.{Step}
use Rattle.journal_text.specs.declared.journal_fault.JournalCode.{JournalCode}
use Rattle.journal_text.specs.declared.journal.TheConstants.{MAX_ENTRY_LINE, MAX_JOURNAL_TEXT}
use Rattle.journal_text.specs.JournalFaults.{AreEntriesOf, HasNoLineFeed, IsFaulty}
use Rattle.journal_text.specs.Journals.{entry_text, journal_text_of, HasLine, HasText}

-- no text is that of two journals
abbrev pub IsOneJournal : Type 0
IsOneJournal =
    (text : List ℕ) (entries others : List (Entry (Step Call)))
    → AreEntriesOf text entries → AreEntriesOf text others → entries ≡ others

-- no text has two faults
abbrev pub HasOneJournalFault : Type 0
HasOneJournalFault =
    (text : List ℕ) (code other : JournalCode) (line further : ℕ)
    → IsFaulty text code line → IsFaulty text other further → (code ≡ other) × (line ≡ further)

-- no text of a journal has a fault
abbrev pub HasNoFault : Type 0
HasNoFault =
    (text : List ℕ) (entries : List (Entry (Step Call))) (code : JournalCode) (line : ℕ)
    → AreEntriesOf text entries → IsFaulty text code line → ⊥

-- the text of an entry is a line: it has some bytes, not too many with a line feed, and none of them is a line feed
pub record IsEntryLine (text : List ℕ) : Type 0 where
  pub some : 0 < length text
  pub most : length text < MAX_ENTRY_LINE
  pub one : HasNoLineFeed text

-- that of each entry that can be written is one
abbrev pub EntriesFitLines : Type 0
EntriesFitLines = (entry : Entry (Step Call)) → HasLine entry → IsEntryLine (entry_text entry)

-- the text of a journal that can be written is not too long
abbrev pub JournalsFit : Type 0
JournalsFit = (entries : List (Entry (Step Call))) → HasText entries → length (journal_text_of entries) ≤ MAX_JOURNAL_TEXT
