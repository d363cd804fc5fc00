-- Clips: the frames that a clip shows, and its reel and media entry.
use Rattle.std.specs.Prelude.{ℕ, suc, ◌+◌, ◌-◌, ℤ, pos, ◌+ℤ◌, int_le, int_lt, nat_eq, nat_lt, eqb, position, min, max, unsigned_abs, Bool, ◌&&◌, List, [], ◌∷◌, ◌++◌, length, Option, Some, None, Ok, codes, bytes_eq, if◌then◌else◌}
use Rattle.ratio_time.specs.Division.{near_pair}
use Rattle.frame_meaning.specs.declared.cells.What.TheVariants.{Media as MediaOf}
use Rattle.frame_meaning.specs.declared.frames.Side.TheVariants.{Pic}
use Rattle.composables.specs.declared.media.Kind.{Kind}
use Rattle.composables.specs.declared.media.Nest.{Nest}
use Rattle.composables.specs.declared.media.Table.{Table}
use Rattle.composables.specs.declared.media.Media.{Media}
use Rattle.reel_table.specs.ReelNames.{with_name}
use Rattle.json_tokens.specs.Reading.{◌>>=◌}
use Rattle.json_tree.specs.Tree.{Tree}
use Rattle.json_tree.specs.Parts.{place_of, kind_in, member_in, text_in}
use Rattle.otio_tracks.specs.declared.faults.DocCode.TheVariants.{O3, O4, O11, O14}
use Rattle.otio_tracks.specs.declared.values.References.{References}
use Rattle.otio_tracks.specs.declared.values.References.TheVariants.{One, ByKey}
use Rattle.otio_tracks.specs.declared.times.Span.{Span}
use Rattle.otio_tracks.specs.declared.parts.Part.{Part}
use Rattle.otio_tracks.specs.declared.clips.Frames.{Frames}
use Rattle.otio_tracks.specs.Reading.{Read, refuse, or_refuse}
use Rattle.otio_tracks.specs.Values.{given, needed, text_read, expected, is_object}
use Rattle.otio_tracks.specs.Times.{Moment, moment_read, frame_below, frame_above}
use Rattle.otio_tracks.specs.Parts.{trim_read, frames_within}

-- ---- the frames that a clip shows

-- Source frames go from 0 to 16,777,215. A range without frames has none that could be past them.
abbrev pub source_frames : Span → Option (ℕ × ℕ)
source_frames span = if nat_eq span.len 0 then Some (0, 0) else frames_within 16777216 span

abbrev pub source_if : Option Span → Read (Option (ℕ × ℕ))
source_if None = Ok None
source_if (Some span) = or_refuse (source_frames span) O11 span.at >>= λ frames. Ok (Some frames)

-- what a clip's `source_range` shows: the first source frame, and how many
unfoldable pub source_read : ℕ × ℕ → Tree → Read (Option (ℕ × ℕ))
source_read rate clip = trim_read rate clip >>= source_if

-- ---- the frames that a clip's media have

-- a frame, or the nearest of 0 to 16777216
abbrev pub clamped : ℤ → ℕ
clamped f = if int_le f (pos 0) then 0 else min (unsigned_abs f) 16777216

-- the source frames of a range [from, to), if there are any
abbrev pub in_media : ℤ → ℤ → Option (ℕ × ℕ)
in_media from to = if nat_lt (clamped from) (clamped to) then Some (clamped from, clamped to) else None

-- a range narrowed to whole frames: its start rounded up, to its start and its length each rounded down
unfoldable pub narrowed : Moment → Moment → ℕ × ℕ → Option (ℤ × ℤ)
narrowed start duration rate = near_pair (frame_above start rate) (frame_below start rate +ℤ frame_below duration rate)

abbrev pub media_if : Option (ℤ × ℤ) → ℕ → Read (Option (ℕ × ℕ))
media_if None at = refuse O4 at
media_if (Some frames) at = Ok (in_media frames.0 frames.1)

abbrev pub narrowed_read : ℕ × ℕ → ℕ → Moment → Tree → Moment → Read (Option (ℕ × ℕ))
narrowed_read rate at start length_text duration =
    if int_lt duration.value.0 (pos 0) then refuse O14 (place_of length_text) else media_if (narrowed start duration rate) at

unfoldable pub available_read : ℕ × ℕ → Tree → Read (Option (ℕ × ℕ))
available_read rate range = do
  _ ← expected (codes "TimeRange.1") range
  start_text ← needed (codes "start_time") range
  start ← moment_read start_text
  length_text ← needed (codes "duration") range
  duration ← moment_read length_text
  narrowed_read rate (place_of range) start length_text duration

abbrev pub available_if : ℕ × ℕ → Option Tree → Read (Option (ℕ × ℕ))
available_if rate None = Ok None
available_if rate (Some range) = available_read rate range

abbrev pub reference_if : ℕ × ℕ → Option Tree → Read (Option (ℕ × ℕ))
reference_if rate None = Ok None
reference_if rate (Some t) = if is_object (kind_in t) then available_if rate (given (codes "available_range") t) else refuse O3 (place_of t)

-- several media references by their keys: an object, whose schema is not asked
abbrev pub keyed_if : Option Tree → Read (Option Tree)
keyed_if None = Ok None
keyed_if (Some t) = if is_object (kind_in t) then Ok (Some t) else refuse O3 (place_of t)

unfoldable pub keyed_read : Tree → Read (Option Tree)
keyed_read clip = keyed_if (given (codes "media_references") clip)

-- the key of the active one, which is DEFAULT_MEDIA where none is given
abbrev pub key_if : Option Tree → Read (List ℕ)
key_if None = Ok (codes "DEFAULT_MEDIA")
key_if (Some t) = text_read t

unfoldable pub key_read : Tree → Read (List ℕ)
key_read clip = key_if (given (codes "active_media_reference_key") clip)

abbrev pub at_key : List ℕ → Option Tree → Option Tree
at_key key None = None
at_key key (Some t) = given key t

-- of several the active one, if it is there
unfoldable pub active_read : Tree → Read (Option Tree)
active_read clip = do
  keyed ← keyed_read clip
  key ← key_read clip
  Ok (at_key key keyed)

-- a clip's media reference, if it has one
abbrev pub reference_of : References → Tree → Read (Option Tree)
reference_of One clip = Ok (given (codes "media_reference") clip)
reference_of ByKey clip = active_read clip

-- the frames that a clip's media reference says to be there, if it has any
unfoldable pub reference_read : ℕ × ℕ → References → Tree → Read (Option (ℕ × ℕ))
reference_read rate references clip = reference_of references clip >>= reference_if rate

-- the least range that holds the frames shown and those that are there
abbrev pub widened : ℕ × ℕ → ℕ × ℕ → ℕ × ℕ
widened source there = if nat_eq source.1 0 then there else (min there.0 source.0, max there.1 (source.0 + source.1))

abbrev pub frames_of : ℕ × ℕ → ℕ × ℕ → Frames
frames_of shown media = record { source = shown.0; len = shown.1; from = media.0; to = media.1 }

-- what a clip shows, and of which frames: all that is there where it is not trimmed
abbrev pub clip_frames : Option (ℕ × ℕ) → Option (ℕ × ℕ) → Option Frames
clip_frames (Some source) (Some there) = Some (frames_of source (widened source there))
clip_frames (Some source) None = Some (frames_of source (0, 16777216))
clip_frames None (Some there) = Some (frames_of (there.0, there.1 - there.0) there)
clip_frames None None = None

-- ---- the reel

abbrev pub in_member : List ℕ → Option Tree → Option Tree
in_member name None = None
in_member name (Some t) = member_in name (kind_in t)

abbrev pub text_if : Option Tree → Option (List ℕ)
text_if None = None
text_if (Some t) = text_in (kind_in t)

-- the text at `metadata`, `cmx_3600`, `reel`
abbrev pub named_reel : Tree → Option (List ℕ)
named_reel clip = text_if (in_member (codes "reel") (in_member (codes "cmx_3600") (in_member (codes "metadata") (Some clip))))

abbrev pub name_or_ax : Option (List ℕ) → List ℕ
name_or_ax None = codes "AX"
name_or_ax (Some name) = if nat_eq (length name) 0 then codes "AX" else name

abbrev pub reel_or_name : Option (List ℕ) → Option (List ℕ) → List ℕ
reel_or_name (Some reel) name = reel
reel_or_name None name = name_or_ax name

-- else the clip's name, where it is a text that is not empty, else `AX`
abbrev pub reel_text : Tree → List ℕ
reel_text clip = reel_or_name (named_reel clip) (text_if (member_in (codes "name") (kind_in clip)))

-- ---- the table: distinct reels, and distinct entries of a reel and a range, in order of first occurrence

-- where a name stands, or how many there are
abbrev pub name_at : List (List ℕ) → List ℕ → ℕ
name_at [] name = 0
name_at (n ∷ ns) name = if bytes_eq name n then 0 else suc (name_at ns name)

abbrev pub same_media : Media → Media → Bool
same_media entry m = (eqb entry.reel m.reel && eqb entry.from m.from) && eqb entry.to m.to

abbrev pub number_or : Option ℕ → ℕ → ℕ
number_or (Some i) count = i
number_or None count = count

-- where an entry stands, or where it goes
abbrev pub entry_number : List Media → Media → ℕ
entry_number media entry = number_or (position (same_media entry) media) (length media)

abbrev pub unless_there : Option ℕ → List Media → Media → List Media
unless_there (Some i) media entry = media
unless_there None media entry = media ++ entry ∷ []

abbrev pub with_entry : List Media → Media → List Media
with_entry media entry = unless_there (position (same_media entry) media) media entry

-- how many entries a table has
abbrev pub entries : Table → ℕ
entries table = length table.reels + (length table.media + length table.nests)

abbrev pub empty_table : Table
empty_table = record { kinds = []; reels = []; media = []; nests = [] }

abbrev pub with_kind : Table → Kind → Table
with_kind table kind = record table { kinds = table.kinds ++ kind ∷ [] }

abbrev pub with_reel : Table → List ℕ → Table
with_reel table name = record table { reels = with_name table.reels name }

abbrev pub with_media : Table → Media → Table
with_media table entry = record table { media = with_entry table.media entry }

abbrev pub with_nest_last : Table → Nest → Table
with_nest_last table nest = record table { nests = table.nests ++ nest ∷ [] }

-- a reel's number, and the frames [from, to) that are there of it
abbrev pub media_of : ℕ × ℕ × ℕ → Media
media_of key = record { reel = key.0; from = key.1; to = key.2 }

abbrev pub entry_of : Table → List ℕ → Frames → Media
entry_of table reel frames = record { reel = name_at table.reels reel; from = frames.from; to = frames.to }

abbrev pub part_of : ℕ → Frames → Part
part_of number frames = record { first = Pic (MediaOf number) frames.source; len = frames.len; mark = None; from = frames.from; to = frames.to }

-- the item of a clip, and the table with its reel and its media entry
abbrev pub entered : Table → List ℕ → Frames → Part × Table
entered table reel frames = (
  part_of (entry_number table.media (entry_of table reel frames)) frames,
  record table { reels = with_name table.reels reel; media = with_entry table.media (entry_of table reel frames) },
)

-- a clip's own part
unfoldable pub clip_read : ℕ × ℕ → References → Table → Tree → Read (Part × Table)
clip_read rate references table clip = do
  source ← source_read rate clip
  there ← reference_read rate references clip
  frames ← or_refuse (clip_frames source there) O14 (place_of clip)
  Ok (entered table (reel_text clip) frames)
