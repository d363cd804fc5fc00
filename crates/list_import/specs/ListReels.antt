-- The reels of an edit decision list, and what its events show of them. Media m of an import is reel m.
use Rattle.std.specs.Prelude.{ℕ, List, [], ◌∷◌, Option, Some, None, map, length, if◌then◌else◌}
use Rattle.std.specs.List.{range_with_len}
use Rattle.frame_meaning.specs.declared.cells.What.{What}
use Rattle.frame_meaning.specs.declared.cells.What.TheVariants.{Media as MediaOf}
use Rattle.frame_meaning.specs.declared.frames.Side.{Side}
use Rattle.frame_meaning.specs.declared.frames.Side.TheVariants.{Dark, Pic}
use Rattle.composables.specs.declared.media.Kind.TheVariants.{Video, Audio}
use Rattle.composables.specs.declared.media.Media.{Media}
use Rattle.composables.specs.declared.media.Table.{Table}
use Rattle.reel_table.specs.ReelNames.{with_name}
use Rattle.reel_names.specs.Names.{is_black}
use Rattle.edl_events.specs.declared.event.Event.{Event}
use Rattle.edl_events.specs.declared.event.FromLine.{FromLine}
use Rattle.otio_tracks.specs.Clips.{name_at}
use Rattle.list_import.specs.declared.shots.Shot.{Shot}

-- ---- the reels in order of first use

-- one more, unless it is black or is there
abbrev pub with_reel : List (List ℕ) → List ℕ → List (List ℕ)
with_reel reels name = if is_black name then reels else with_name reels name

abbrev pub with_from : List (List ℕ) → Option FromLine → List (List ℕ)
with_from reels None = reels
with_from reels (Some from) = with_reel reels from.reel

-- those of an event: a dissolve's outgoing one comes first
abbrev pub with_event : List (List ℕ) → Event → List (List ℕ)
with_event reels e = with_reel (with_from reels e.from) e.reel

abbrev pub reels_behind : List (List ℕ) → List Event → List (List ℕ)
reels_behind reels [] = reels
reels_behind reels (e ∷ es) = reels_behind (with_event reels e) es

abbrev pub reels_of : List Event → List (List ℕ)
reels_of events = reels_behind [] events

-- ---- what events show

-- a reel from a source frame on; black is dark
abbrev pub side_in : List (List ℕ) → List ℕ → ℕ → Side What
side_in reels name source = if is_black name then Dark else Pic (MediaOf (name_at reels name)) source

abbrev pub from_in : List (List ℕ) → Option FromLine → Option (Side What)
from_in reels None = None
from_in reels (Some from) = Some (side_in reels from.reel from.source)

-- an event as a track shows it
abbrev pub shot_of : List (List ℕ) → Event → Shot
shot_of reels e = record {
  channels = e.channels;
  place = e.place;
  len = e.len;
  from = from_in reels e.from;
  frames = e.frames;
  side = side_in reels e.reel e.source;
}

abbrev pub shots_of : List Event → List Shot
shots_of events = map (shot_of (reels_of events)) events

-- ---- the table: the picture and two channels of sound, and for each reel a media entry with all frames that one can have

abbrev pub media_of : ℕ → Media
media_of reel = record { reel = reel; from = 0; to = 16777216 }

abbrev pub track_kinds : Table
track_kinds = record { kinds = Video ∷ Audio ∷ Audio ∷ []; reels = []; media = []; nests = [] }

abbrev pub with_reels : Table → List (List ℕ) → Table
with_reels table reels = record table { reels = reels }

abbrev pub listed_table : Table → Table
listed_table table = record table { media = map media_of (range_with_len 0 (length table.reels)) }

abbrev pub table_of : List Event → Table
table_of events = listed_table (with_reels track_kinds (reels_of events))
