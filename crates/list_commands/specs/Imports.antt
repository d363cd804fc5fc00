-- How the document of a list is put on the output: the list is the opening of a room, and what is put is the document of
-- the room's cut, in a line.
use Rattle.std.specs.Prelude.{◌≡◌, ℕ, ◌<◌, ◌≤◌, ◌⊎◌, List, length, codes}
use Rattle.room_files.specs.Files.{FilesTold, FitsIn}
use Rattle.timecode12.specs.Numbers.{Counted}
use Rattle.edl_events.specs.declared.event.Event.{Event}
use Rattle.edl_read.specs.declared.list.TheConstants.{MAX_LIST}
use Rattle.otio_json.specs.declared.opening.Opening.{Opening}
use Rattle.otio_laws.specs.Meanings.{OpensAs, line_of_cut}
use Rattle.list_import.specs.declared.fault.ImportCode.{ImportCode}
use Rattle.list_import.specs.declared.fault.ImportCode.TheVariants.{I1, I2, I3, I4}
use Rattle.list_import.specs.Imports.{Imports}
use Rattle.list_import.specs.Refusals.{IsAllowed, IsRefused}
use Rattle.list_import.specs.ShownLists.{ShowsTheTape}
use Rattle.command_files.specs.declared.status.Status.{Status}
use Rattle.command_files.specs.declared.status.Status.TheVariants.{Done, Refused, OutOfMemory}
use Rattle.command_files.specs.Ports.{Change, OutputTold}
use Rattle.command_files.specs.Texts.{PutsWith, refusal_text}
use Rattle.command_files.specs.declared.documents.TheConstants.{MAX_DOCUMENT}
use Rattle.command_files.specs.Unopened.{EndsUnopened, OnlyRead}
use Rattle.command_files.specs.Lists.{HoldsList, IsListRefused, list_line}

-- ---- why a list makes no document, with the code and the number that are told

abbrev pub code_text : ImportCode → List ℕ
code_text I1 = codes "I1"
code_text I2 = codes "I2"
code_text I3 = codes "I3"
code_text I4 = codes "I4"

-- the line of a list that is no opening
abbrev pub import_line : ImportCode → ℕ → List ℕ
import_line code number = refusal_text (code_text code) number

-- the line of a document that is too long
abbrev pub long_line : List ℕ
long_line = refusal_text (codes "I5") 0

-- these events are no opening of a room, for this reason, which is the first
abbrev pub IsNoOpening : List Event → Counted → List ℕ → Type 0
IsNoOpening events counting line =
    (code : ImportCode) × (number : ℕ) × IsRefused events counting code number × (line ≡ import_line code number)

-- they are one, but its document has more than 32 MiB with its line feed
abbrev pub IsLong : List Event → Counted → List ℕ → Type 0
IsLong events counting line =
    (o : Opening) × Imports events counting o × IsAllowed events counting o × (MAX_DOCUMENT < length (line_of_cut o)) × (line ≡ long_line)

-- the list has no document, and this line says why
abbrev pub HasNoDocument : List Event → Counted → List ℕ → Type 0
HasNoDocument events counting line = IsNoOpening events counting line ⊎ IsLong events counting line

-- ---- how the command ends

-- of an opening, whose document is put or is too long
module _ (o : Opening) (output : Change OutputTold) (status : Status) where
  abbrev pub DocumentIsPut : Type 0
  DocumentIsPut = (length (line_of_cut o) ≤ MAX_DOCUMENT) × PutsWith Done (line_of_cut o) output.before output.after status

  abbrev pub DocumentIsLong : Type 0
  DocumentIsLong = (MAX_DOCUMENT < length (line_of_cut o)) × PutsWith Refused long_line output.before output.after status

  abbrev pub OpeningEnds : Type 0
  OpeningEnds = DocumentIsPut ⊎ (DocumentIsLong ⊎ ((status ≡ OutOfMemory) × output.Untouched))

-- of a list of these events, whose frames are counted so
module _ (events : List Event) (counting : Counted) (output : Change OutputTold) (status : Status) where
  -- Its document is put. The cut in it shows what the list's tape shows, and it is what opening the document at this
  -- counting gives again.
  pub record PutsDocument : Type 0 where
    pub opening : Opening
    pub imports : Imports events counting opening
    pub allowed : IsAllowed events counting opening
    pub shows : ShowsTheTape events opening
    pub within : length (line_of_cut opening) ≤ MAX_DOCUMENT
    pub again : OpensAs opening (line_of_cut opening)
    pub put : PutsWith Done (line_of_cut opening) output.before output.after status

  -- it has none, and the line says why
  pub record RefusesImport : Type 0 where
    pub line : List ℕ
    pub why : HasNoDocument events counting line
    pub put : PutsWith Refused line output.before output.after status

  abbrev pub EventsEnd : Type 0
  EventsEnd = PutsDocument ⊎ (RefusesImport ⊎ ((status ≡ OutOfMemory) × output.Untouched))

-- of the list in the file of this name
module _ (name : List ℕ) (counting : Counted) (files : Change FilesTold) (output : Change OutputTold) (status : Status) where
  pub record OpensList : Type 0 where
    pub events : List Event
    pub holds : HoldsList counting.rate (files.before.file name) events
    pub quiet : files.after.reads ≡ files.before.reads
    pub ends : EventsEnd events counting output status

  abbrev pub ImportEnds : Type 0
  ImportEnds = OnlyRead files.before files.after
      × (OpensList ⊎ EndsUnopened files.before files.after output (IsListRefused counting.rate (files.before.file name)) list_line (FitsIn (files.before.file name) MAX_LIST) status)
