-- Why a list makes no opening.
use Rattle.std.specs.Prelude.{◌≡◌, ℕ, ◌<◌, ◌≤◌, ◌&&◌, ◌==◌, List, [], ◌∷◌, Option, Some, None, length, nat_lt, if◌then◌else◌}
use Rattle.timecode12.specs.Numbers.{Counted}
use Rattle.timecode12.specs.Labels.{day_of}
use Rattle.composables.specs.declared.TheConstants.{MAX_ITEMS}
use Rattle.composables.specs.Items.{items_of}
use Rattle.composables.specs.TrackState.{TrackState}
use Rattle.reel_names.specs.Names.{is_black}
use Rattle.edl_events.specs.declared.event.Event.{Event}
use Rattle.edl_events.specs.declared.event.FromLine.{FromLine}
use Rattle.otio_json.specs.declared.opening.Opening.{Opening}
use Rattle.list_import.specs.declared.fault.ImportCode.{ImportCode}
use Rattle.list_import.specs.declared.fault.ImportCode.TheVariants.{I1, I2, I3, I4}
use Rattle.list_import.specs.declared.fault.ImportFault.{ImportFault}
use Rattle.list_import.specs.declared.fault.ImportFault.TheVariants.{Refused, Memory}
use Rattle.list_import.specs.Imports.{Imports, start_of}

-- ---- events that have no place on a track

-- a dissolve of one frame that is its whole event, and else a dissolve from black to black
abbrev pub code_by : Option FromLine → ℕ → ℕ → List ℕ → Option ImportCode
code_by None n len reel = None
code_by (Some from) n len reel =
    if n == 1 && len == 1 then Some I1
    else if is_black from.reel && is_black reel then Some I2
    else None

abbrev pub event_code : Event → Option ImportCode
event_code e = code_by e.from e.frames e.len e.reel

-- a code with the line of its event, or what the events behind it have
abbrev pub told_at : Option ImportCode → ℕ → Option (ImportCode × ℕ) → Option (ImportCode × ℕ)
told_at (Some code) line behind = Some (code, line)
told_at None line behind = behind

-- the first of these events that has no place, and its line
abbrev pub first_refused : List Event → Option (ImportCode × ℕ)
first_refused [] = None
first_refused (e ∷ es) = told_at (event_code e) e.line (first_refused es)

-- ---- limits

-- the number of the first track that has too many items and gaps
abbrev pub first_full : List TrackState → Option ℕ
first_full [] = None
first_full (t ∷ ts) = if nat_lt MAX_ITEMS (length (items_of t.cells)) then Some t.number else first_full ts

-- ---- the refusals in their order

abbrev pub IsRefused : List Event → Counted → ImportCode → ℕ → Type 0
IsRefused events counted I1 n = first_refused events ≡ Some (I1, n)
IsRefused events counted I2 n = first_refused events ≡ Some (I2, n)
IsRefused events counted I3 n =
    (first_refused events ≡ None) × (n ≡ start_of events) × (length (day_of counted) ≤ n)
IsRefused events counted I4 n =
    (first_refused events ≡ None) × (start_of events < length (day_of counted))
    × ((o : Opening) × Imports events counted o × (first_full o.tracks ≡ Some n))

abbrev pub IsRefusalOf : List Event → Counted → ImportFault → Type 0
IsRefusalOf events counted (Refused code number) = IsRefused events counted code number
IsRefusalOf events counted Memory = Unit {0}

-- none of them holds
pub record IsAllowed (events : List Event) (counted : Counted) (o : Opening) : Type 0 where
  pub events_fit : first_refused events ≡ None
  pub within_day : start_of events < length (day_of counted)
  pub within_limits : first_full o.tracks ≡ None
