-- An edit decision list out of a file: its events, or why it is refused.
use Rattle.std.specs.Prelude.{◌≡◌, ℕ, ◌≤◌, List, ◌++◌, Ok, Err, Result, length, codes, decimal}
use Rattle.room_files.specs.Files.{Content, IsWhole, IsLonger, FitsIn}
use Rattle.timecode12.specs.declared.rate.SequenceRate.{SequenceRate}
use Rattle.edl_events.specs.declared.event.Event.{Event}
use Rattle.edl_read.specs.declared.list.TheConstants.{MAX_LIST}
use Rattle.edl_lines.specs.declared.code.LineCode.{LineCode}
use Rattle.edl_lines.specs.declared.code.LineCode.TheVariants.{P1, P2, P3, P4, P5, P6, P7, P8, P9, P10, P11, P12}
use Rattle.edl_read.specs.declared.fault.ListReadFault.TheVariants.{Refused}
use Rattle.edl_read.specs.Reading.{list_read}
use Rattle.command_files.specs.Texts.{refusal_text}
use Rattle.command_files.specs.declared.faults.InputFault.{InputFault}
use Rattle.command_files.specs.declared.lists.ListRefusal.{ListRefusal}
use Rattle.command_files.specs.declared.lists.ListRefusal.TheVariants.{TooLarge, Faulty}
use Rattle.command_files.specs.Unopened.{OpensAs}

-- a file of these contents, at a rate
module _ (rate : SequenceRate) (content : Content) where
  -- its bytes, where they are told, are a list of these events
  abbrev pub HoldsList : List Event → Type 0
  HoldsList events = (bytes : List ℕ) × IsWhole content bytes × (length bytes ≤ MAX_LIST) × (list_read rate bytes ≡ Ok events)

  -- a file of more than 32 MiB is not read; else its bytes have this fault first
  abbrev pub IsListRefused : ListRefusal → Type 0
  IsListRefused TooLarge = IsLonger content MAX_LIST
  IsListRefused (Faulty code line other) =
      (bytes : List ℕ) × IsWhole content bytes × (length bytes ≤ MAX_LIST) × (list_read rate bytes ≡ Err (Refused code line other))

  -- what comes of opening it
  abbrev pub Opens : Result (List Event) (InputFault ListRefusal) → Type 0
  Opens result = OpensAs HoldsList IsListRefused (FitsIn content MAX_LIST) result

abbrev pub code_text : LineCode → List ℕ
code_text P1 = codes "P1"
code_text P2 = codes "P2"
code_text P3 = codes "P3"
code_text P4 = codes "P4"
code_text P5 = codes "P5"
code_text P6 = codes "P6"
code_text P7 = codes "P7"
code_text P8 = codes "P8"
code_text P9 = codes "P9"
code_text P10 = codes "P10"
code_text P11 = codes "P11"
code_text P12 = codes "P12"

-- the line of a fault: an overlap tells the other line too
abbrev pub fault_line : LineCode → ℕ → ℕ → List ℕ
fault_line P10 line other = codes "refused P10 " ++ decimal line ++ codes " " ++ decimal other ++ codes "\n"
fault_line code line other = refusal_text (code_text code) line

-- the line of a refusal
abbrev pub list_line : ListRefusal → List ℕ
list_line TooLarge = refusal_text (codes "P13") 0
list_line (Faulty code line other) = fault_line code line other
