-- Why a text is no journal's. The first of these that holds: a line is not as the text of a journal has it; the count
-- is not that of the entries, or is over 100,000; an entry's number does not rise within its station. A fault has a
-- line, counted from 1: the line of the count is line 1, and that of the first entry line 2.
use Rattle.std.specs.Prelude.{◌≡◌, ◌≢◌, ℕ, ◌+◌, ◌<◌, ◌≤◌, ◌⊎◌, List, [], ◌∷◌, ◌++◌, false, length}
use Rattle.std.specs.List.{flat_map, All}
use Rattle.line_words.specs.Lines.{is_lf}
use Rattle.edit_calls.specs.declared.asks.Call.{Call}
use Rattle.room_core.specs.declared.entry.Entry.{Entry}
use Rattle.take_back.specs.declared.step.Step.{Step}
use Rattle.room_core.specs.History.{NumbersRise, most_entries}
use Rattle.journal_text.specs.declared.journal_fault.JournalCode.{JournalCode}
use Rattle.journal_text.specs.declared.journal_fault.JournalCode.TheVariants.{H1, H2, H4}
use Rattle.journal_text.specs.declared.journal_fault.JournalFault.{JournalFault}
use Rattle.journal_text.specs.declared.journal_fault.JournalFault.TheVariants.{Refused, Memory}
use Rattle.journal_text.specs.declared.journal_fault.EntryFault.{EntryFault}
use Rattle.journal_text.specs.declared.journal_fault.EntryFault.TheVariants as entry
use Rattle.line_table.specs.CallTexts.{IsSmall}
use Rattle.journal_text.specs.Journals.{count_line, entry_line, entry_text, journal_text_of, HasLine, HasText}

-- no line feed among the bytes
abbrev pub HasNoLineFeed : List ℕ → Type 0
HasNoLineFeed bytes = All (λ byte. is_lf byte ≡ false) bytes

-- no line with a count stands at the front of the text
abbrev pub HasNoCount : List ℕ → Type 0
HasNoCount text = (count : ℕ) (rest : List ℕ) → IsSmall count → text ≢ count_line count ++ rest

-- no line of an entry stands at the front of the text
abbrev pub HasNoEntry : List ℕ → Type 0
HasNoEntry text =
    (entry : Entry (Step Call)) (rest : List ℕ) → HasLine entry → text ≢ entry_line entry ++ rest

-- the line is no entry's
abbrev pub IsNoEntry : List ℕ → Type 0
IsNoEntry line = (entry : Entry (Step Call)) → HasLine entry → line ≢ entry_text entry

-- the line is no entry's, or there was no memory
abbrev pub IsNoEntryFor : List ℕ → EntryFault → Type 0
IsNoEntryFor line entry.H1 = IsNoEntry line
IsNoEntryFor line entry.Memory = Unit {0}

-- the text is the lines of these entries
abbrev pub AreLines : List ℕ → List (Entry (Step Call)) → Type 0
AreLines text entries = All HasLine entries × (text ≡ flat_map entry_line entries)

-- the text begins with the lines of a count and of these entries, and goes on so
pub record Begins (text : List ℕ) (count : ℕ) (entries : List (Entry (Step Call))) (rest : List ℕ)
    : Type 0 where
  pub small : IsSmall count
  pub lines : All HasLine entries
  pub spelled : text ≡ count_line count ++ (flat_map entry_line entries ++ rest)

-- the line behind these is none of an entry
abbrev pub StopsBehind : List ℕ → ℕ → List (Entry (Step Call)) → List ℕ → Type 0
StopsBehind text count entries rest =
    Begins text count entries rest × (0 < length rest) × HasNoEntry rest

-- an entry of its station stands before it, and its number is not above that one's
abbrev pub IsLate : List (Entry (Step Call)) → Entry (Step Call) → Type 0
IsLate [] entry = ⊥
IsLate (before ∷ others) entry =
    ((before.station ≡ entry.station) × (entry.number ≤ before.number)) ⊎ IsLate others entry

-- the first entry whose number does not rise within its station stands behind these
pub record IsFirstLate (entries before : List (Entry (Step Call))) : Type 0 where
  pub rise : NumbersRise before
  pub late : (entry : Entry (Step Call)) × (behind : List (Entry (Step Call)))
      × (entries ≡ before ++ entry ∷ behind) × IsLate before entry

-- why a text is no journal's, and the line
abbrev pub IsFaulty : List ℕ → JournalCode → ℕ → Type 0
IsFaulty text H1 line =
    (HasNoCount text × (line ≡ 1))
    ⊎ ((count : ℕ) × (entries : List (Entry (Step Call))) × (rest : List ℕ)
    × StopsBehind text count entries rest × (line ≡ length entries + 2))
IsFaulty text H2 line =
    (count : ℕ) × (entries : List (Entry (Step Call))) × Begins text count entries []
    × ((count ≢ length entries) ⊎ (most_entries < count)) × (line ≡ 1)
IsFaulty text H4 line =
    (entries before : List (Entry (Step Call))) × Begins text (length entries) entries []
    × (length entries ≤ most_entries) × IsFirstLate entries before × (line ≡ length before + 2)

-- behind the line of a count the text has a line that is none of an entry, or there was no memory
abbrev pub StopsFor : List ℕ → JournalFault → Type 0
StopsFor text (Refused code line) =
    (code ≡ H1)
    × (entries : List (Entry (Step Call))) × (rest : List ℕ) × All HasLine entries
    × (text ≡ flat_map entry_line entries ++ rest) × (0 < length rest) × HasNoEntry rest
    × (line ≡ length entries + 2)
StopsFor text Memory = Unit {0}

-- these are the entries of the journal whose text this is
abbrev pub AreEntriesOf : List ℕ → List (Entry (Step Call)) → Type 0
AreEntriesOf text entries = HasText entries × (text ≡ journal_text_of entries)

-- the text is refused for its fault, or there was no memory
abbrev pub IsRefusedFor : List ℕ → JournalFault → Type 0
IsRefusedFor text (Refused code line) = IsFaulty text code line
IsRefusedFor text Memory = Unit {0}
