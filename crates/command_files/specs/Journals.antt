-- A journal out of a file: its entries, or why it is refused.
use Rattle.std.specs.Prelude.{◌≡◌, ℕ, ◌≤◌, ◌⊎◌, List, Vec, Result, length, codes}
use Rattle.std.specs.Global.{Global}
use Rattle.take_back.specs.declared.step.Step.{Step}
use Rattle.edit_calls.specs.declared.asks.Call.{Call}
use Rattle.room_core.specs.declared.entry.Entry.{Entry}
use Rattle.room_files.specs.Files.{Content, IsWhole, IsLonger, FitsIn}
use Rattle.journal_text.specs.declared.journal_fault.JournalCode.{JournalCode}
use Rattle.journal_text.specs.declared.journal_fault.JournalCode.TheVariants.{H1, H2, H4}
use Rattle.journal_text.specs.declared.journal_reading.TheConstants.{MAX_JOURNAL}
use Rattle.journal_text.specs.JournalFaults.{AreEntriesOf, IsFaulty}
use Rattle.command_files.specs.Texts.{refusal_text}
use Rattle.command_files.specs.declared.faults.InputFault.{InputFault}
use Rattle.command_files.specs.declared.journals.JournalRefusal.{JournalRefusal}
use Rattle.command_files.specs.Unopened.{OpensAs}

-- a file of these contents
module _ (content : Content) where
  -- its bytes, where they are told, are the text of a journal of these entries
  abbrev pub HoldsJournal : List (Entry (Step Call)) → Type 0
  HoldsJournal entries = (bytes : List ℕ) × IsWhole content bytes × (length bytes ≤ MAX_JOURNAL) × AreEntriesOf bytes entries

  -- a file of more than 64 MiB is not read
  abbrev pub IsTooLarge : JournalRefusal → Type 0
  IsTooLarge r = IsLonger content MAX_JOURNAL × (r.code ≡ H1) × (r.line ≡ 0)

  -- its bytes have this fault first, at this line
  abbrev pub HasFault : JournalRefusal → Type 0
  HasFault r = (bytes : List ℕ) × IsWhole content bytes × (length bytes ≤ MAX_JOURNAL) × IsFaulty bytes r.code r.line

  abbrev pub IsJournalRefused : JournalRefusal → Type 0
  IsJournalRefused r = IsTooLarge r ⊎ HasFault r

  -- what comes of opening it
  abbrev pub Opens : Result (Vec (Entry (Step Call)) Global) (InputFault JournalRefusal) → Type 0
  Opens result = OpensAs (λ entries. HoldsJournal entries.items) IsJournalRefused (FitsIn content MAX_JOURNAL) result

abbrev pub code_text : JournalCode → List ℕ
code_text H1 = codes "H1"
code_text H2 = codes "H2"
code_text H4 = codes "H4"

-- the line of a refusal
abbrev pub journal_line : JournalRefusal → List ℕ
journal_line r = refusal_text (code_text r.code) r.line
