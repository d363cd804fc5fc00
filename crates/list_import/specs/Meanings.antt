-- What is true of every import.
use Rattle.std.specs.Prelude.{◌≡◌, List, None}
use Rattle.timecode12.specs.Numbers.{Counted}
use Rattle.edl_events.specs.declared.event.Event.{Event}
use Rattle.edl_read.specs.ReadLists.{CanBeRead}
use Rattle.otio_json.specs.declared.opening.Opening.{Opening}
use Rattle.otio_json.specs.Soundness.{IsSoundOpening}
use Rattle.list_import.specs.Imports.{Imports}
use Rattle.list_import.specs.Refusals.{IsAllowed, first_refused}
use Rattle.list_import.specs.ShownLists.{ShowsTheTape}

-- where nothing is refused it is sound, so that a room can be opened over it
abbrev pub ImportsAreSound : Type 0
ImportsAreSound =
    (events : List Event) (counted : Counted) (o : Opening)
    → CanBeRead events → Imports events counted o → IsAllowed events counted o → IsSoundOpening o

-- and it shows what the tape of the list shows
abbrev pub ImportsShowTheirTape : Type 0
ImportsShowTheirTape =
    (events : List Event) (counted : Counted) (o : Opening)
    → CanBeRead events → first_refused events ≡ None → Imports events counted o → ShowsTheTape events o

-- and there is one only
abbrev pub ImportsAreOne : Type 0
ImportsAreOne =
    (events : List Event) (counted : Counted) (o p : Opening)
    → CanBeRead events → first_refused events ≡ None → Imports events counted o → Imports events counted p → o ≡ p
