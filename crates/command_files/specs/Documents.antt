-- A document out of a file: what it describes, or why it is refused.
use Rattle.std.specs.Prelude.{◌≡◌, ℕ, ◌≤◌, ◌⊎◌, List, Ok, Result, length, codes}
use Rattle.room_files.specs.Files.{Content, IsWhole, IsLonger, FitsIn}
use Rattle.timecode12.specs.Numbers.{Counted}
use Rattle.otio_tracks.specs.declared.faults.DocCode.{DocCode}
use Rattle.otio_tracks.specs.declared.faults.DocCode.TheVariants.{J1, J2, J3, J4, J5, O1, O2, O3, O4, O5, O6, O7, O8, O9, O10, O11, O12, O13, O14, O15, O16}
use Rattle.otio_tracks.specs.Reading.{refuse}
use Rattle.otio_json.specs.Timelines.{document_read}
use Rattle.otio_json.specs.declared.opening.Opening.{Opening}
use Rattle.command_files.specs.Texts.{refusal_text}
use Rattle.command_files.specs.declared.documents.TheConstants.{MAX_DOCUMENT}
use Rattle.command_files.specs.declared.documents.DocumentRefusal.{DocumentRefusal}
use Rattle.command_files.specs.declared.faults.InputFault.{InputFault}
use Rattle.command_files.specs.Unopened.{OpensAs}

-- a file of these contents, whose frames are counted so
module _ (counting : Counted) (content : Content) where
  -- its bytes, where they are told, describe this opening
  abbrev pub Describes : Opening → Type 0
  Describes o = (bytes : List ℕ) × IsWhole content bytes × (length bytes ≤ MAX_DOCUMENT) × (document_read counting bytes ≡ Ok o)

  -- a file of more than 32 MiB is not read
  abbrev pub IsTooLarge : DocumentRefusal → Type 0
  IsTooLarge r = IsLonger content MAX_DOCUMENT × (r.code ≡ J5) × (r.at ≡ 0)

  -- its bytes have this fault first, at this place
  abbrev pub HasFault : DocumentRefusal → Type 0
  HasFault r = (bytes : List ℕ) × IsWhole content bytes × (length bytes ≤ MAX_DOCUMENT)
      × (document_read counting bytes ≡ refuse r.code r.at)

  abbrev pub IsDocumentRefused : DocumentRefusal → Type 0
  IsDocumentRefused r = IsTooLarge r ⊎ HasFault r

  -- what comes of opening it
  abbrev pub Opens : Result Opening (InputFault DocumentRefusal) → Type 0
  Opens result = OpensAs Describes IsDocumentRefused (FitsIn content MAX_DOCUMENT) result

-- ---- the line of a refusal

abbrev pub code_text : DocCode → List ℕ
code_text J1 = codes "J1"
code_text J2 = codes "J2"
code_text J3 = codes "J3"
code_text J4 = codes "J4"
code_text J5 = codes "J5"
code_text O1 = codes "O1"
code_text O2 = codes "O2"
code_text O3 = codes "O3"
code_text O4 = codes "O4"
code_text O5 = codes "O5"
code_text O6 = codes "O6"
code_text O7 = codes "O7"
code_text O8 = codes "O8"
code_text O9 = codes "O9"
code_text O10 = codes "O10"
code_text O11 = codes "O11"
code_text O12 = codes "O12"
code_text O13 = codes "O13"
code_text O14 = codes "O14"
code_text O15 = codes "O15"
code_text O16 = codes "O16"

-- the line of a refusal
abbrev pub document_line : DocumentRefusal → List ℕ
document_line r = refusal_text (code_text r.code) r.at
