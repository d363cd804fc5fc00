-- The text of a document, in one line of JSON without blanks.
use Rattle.std.specs.Prelude.{◌≡◌, ℕ, zero, suc, ◌+◌, ◌-◌, ◌<◌, ◌≤◌, nat_eq, ◌&&◌, List, [], ◌∷◌, ◌++◌, length, slice_get, Option, Some, None, Result, Ok, Err, codes, decimal, Vec, if◌then◌else◌}
use Rattle.std.specs.Global.{Global}
use Rattle.timecode12.specs.Numbers.{Counted}
use Rattle.timecode12.specs.declared.rate.SequenceRate.{SequenceRate}
use Rattle.timecode12.specs.declared.rate.SequenceRate.TheVariants.{F23976, F24, F25, F2997, F30}
use Rattle.frame_meaning.specs.declared.cells.Mark.{Mark}
use Rattle.frame_meaning.specs.declared.cells.What.{What}
use Rattle.frame_meaning.specs.declared.cells.What.TheVariants.{Media as MediaOf, Nest as NestOf}
use Rattle.frame_meaning.specs.declared.frames.Side.{Side}
use Rattle.frame_meaning.specs.declared.frames.Side.TheVariants.{Dark, Pic}
use Rattle.composables.specs.declared.items.ItemView.{ItemView}
use Rattle.composables.specs.declared.media.Table.{Table}
use Rattle.composables.specs.declared.media.Media.{Media}
use Rattle.composables.specs.declared.media.Layer.{Layer}
use Rattle.composables.specs.declared.media.Nest.{Nest}
use Rattle.composables.specs.declared.media.Kind.{Kind}
use Rattle.composables.specs.declared.media.Kind.TheVariants.{Video, Audio}
use Rattle.composables.specs.Items.{items_of}
use Rattle.composables.specs.TrackState.{TrackState}
use Rattle.json_tree.specs.Writing.{quoted}
use Rattle.otio_text.specs.declared.writing.WriteFault.{WriteFault}
use Rattle.otio_text.specs.declared.writing.WriteFault.TheVariants.{TooLarge, Memory}

-- ---- the fixed parts

abbrev pub time_open : List ℕ
time_open = codes "{\"OTIO_SCHEMA\":\"RationalTime.1\",\"rate\":"

abbrev pub time_value : List ℕ
time_value = codes ",\"value\":"

abbrev pub time_close : List ℕ
time_close = codes ".0}"

abbrev pub range_open : List ℕ
range_open = codes "{\"OTIO_SCHEMA\":\"TimeRange.1\",\"duration\":"

abbrev pub range_start : List ℕ
range_start = codes ",\"start_time\":"

abbrev pub gap_open : List ℕ
gap_open = codes "{\"OTIO_SCHEMA\":\"Gap.1\",\"name\":\"\",\"metadata\":{},\"source_range\":"

abbrev pub gap_close : List ℕ
gap_close = codes ",\"effects\":[],\"markers\":[]}"

abbrev pub clip_open : List ℕ
clip_open = codes "{\"OTIO_SCHEMA\":\"Clip.2\",\"name\":"

abbrev pub clip_reel : List ℕ
clip_reel = codes ",\"metadata\":{\"cmx_3600\":{\"reel\":"

abbrev pub clip_range : List ℕ
clip_range = codes "}},\"source_range\":"

abbrev pub clip_media : List ℕ
clip_media = codes ",\"effects\":[],\"markers\":[],\"media_references\":{\"DEFAULT_MEDIA\":{\"OTIO_SCHEMA\":\"MissingReference.1\",\"name\":\"\",\"metadata\":{},\"available_range\":"

abbrev pub clip_close : List ℕ
clip_close = codes "}},\"active_media_reference_key\":\"DEFAULT_MEDIA\"}"

abbrev pub transition_open : List ℕ
transition_open = codes "{\"OTIO_SCHEMA\":\"Transition.1\",\"name\":\"\",\"metadata\":{},\"transition_type\":\"SMPTE_Dissolve\",\"in_offset\":"

abbrev pub transition_out : List ℕ
transition_out = codes ",\"out_offset\":"

abbrev pub nest_open : List ℕ
nest_open = codes "{\"OTIO_SCHEMA\":\"Stack.1\",\"name\":\"\",\"metadata\":{},\"source_range\":"

abbrev pub nest_children : List ℕ
nest_children = codes ",\"effects\":[],\"markers\":[],\"children\":["

abbrev pub layer_open : List ℕ
layer_open = codes "{\"OTIO_SCHEMA\":\"Track.1\",\"name\":\"\",\"metadata\":{},\"source_range\":"

abbrev pub layer_children : List ℕ
layer_children = codes ",\"effects\":[],\"markers\":[],\"kind\":\"Video\",\"children\":["

abbrev pub track_open : List ℕ
track_open = codes "{\"OTIO_SCHEMA\":\"Track.1\",\"name\":\"\",\"metadata\":{},\"source_range\":null,\"effects\":[],\"markers\":[],\"kind\":"

abbrev pub track_children : List ℕ
track_children = codes ",\"children\":["

abbrev pub children_close : List ℕ
children_close = codes "]}"

abbrev pub timeline_open : List ℕ
timeline_open = codes "{\"OTIO_SCHEMA\":\"Timeline.1\",\"name\":\"\",\"metadata\":{},\"global_start_time\":"

abbrev pub timeline_tracks : List ℕ
timeline_tracks = codes ",\"tracks\":{\"OTIO_SCHEMA\":\"Stack.1\",\"name\":\"tracks\",\"metadata\":{},\"source_range\":null,\"effects\":[],\"markers\":[],\"children\":["

abbrev pub timeline_close : List ℕ
timeline_close = codes "]}}"

abbrev pub brace : List ℕ
brace = codes "}"

abbrev pub comma : List ℕ
comma = codes ","

-- ---- times

abbrev pub rate_text : SequenceRate → List ℕ
rate_text F23976 = codes "23.976"
rate_text F24 = codes "24.0"
rate_text F25 = codes "25.0"
rate_text F2997 = codes "29.97"
rate_text F30 = codes "30.0"

unfoldable pub time_text : SequenceRate → ℕ → List ℕ
time_text rate f = time_open ++ (rate_text rate ++ (time_value ++ (decimal f ++ time_close)))

unfoldable pub range_text : SequenceRate → ℕ → ℕ → List ℕ
range_text rate from len = range_open ++ (time_text rate len ++ (range_start ++ (time_text rate from ++ brace)))

-- ---- items without a nest, and transitions

unfoldable pub gap_text : SequenceRate → ℕ → List ℕ
gap_text rate len = gap_open ++ (range_text rate 0 len ++ gap_close)

unfoldable pub clip_text : SequenceRate → List ℕ → ℕ → ℕ → Media → List ℕ
clip_text rate reel source len m =
    clip_open ++ (quoted reel
    ++ (clip_reel ++ (quoted reel
    ++ (clip_range ++ (range_text rate source len
    ++ (clip_media
    ++ (range_text rate m.from (m.to - m.from) ++ clip_close)))))))

abbrev pub text_or_none : Option (List ℕ) → List ℕ
text_or_none None = []
text_or_none (Some text) = text

abbrev pub reel_name : List (List ℕ) → ℕ → List ℕ
reel_name reels n = text_or_none (slice_get reels n)

abbrev pub clip_of : List (List ℕ) → SequenceRate → Option Media → ℕ → ℕ → List ℕ
clip_of reels rate None source len = []
clip_of reels rate (Some m) source len = clip_text rate (reel_name reels m.reel) source len m

-- a clip of an entry of the table
abbrev pub clip_if : Table → SequenceRate → ℕ → ℕ → ℕ → List ℕ
clip_if table rate n source len = clip_of table.reels rate (slice_get table.media n) source len

unfoldable pub transition_text : SequenceRate → Mark → List ℕ
transition_text rate m =
    transition_open ++ (time_text rate m.a
    ++ (transition_out ++ (time_text rate m.b ++ brace)))

-- the transition at the cut before an item, behind a comma
abbrev pub mark_text : SequenceRate → Option Mark → List ℕ
mark_text rate None = []
mark_text rate (Some m) = comma ++ transition_text rate m

-- ---- items, where the layers of nest j are written as layers j

abbrev pub nest_around : SequenceRate → ℕ → ℕ → List ℕ → List ℕ
nest_around rate source len layers =
    nest_open ++ (range_text rate source len
    ++ (nest_children ++ (layers ++ children_close)))

abbrev pub layer_range : SequenceRate → Layer → List ℕ
layer_range rate l = if nat_eq l.from 0 && nat_eq l.to (length l.track.cells) then codes "null" else range_text rate l.from (l.to - l.from)

module _ (table : Table) (rate : SequenceRate) (layers : ℕ → List ℕ) where
  abbrev pub thing_in : What → ℕ → ℕ → List ℕ
  thing_in (MediaOf m) source len = clip_if table rate m source len
  thing_in (NestOf j) source len = nest_around rate source len (layers j)

  abbrev pub side_in : Side What → ℕ → List ℕ
  side_in Dark len = gap_text rate len
  side_in (Pic what source) len = thing_in what source len

  abbrev pub item_in : ItemView → List ℕ
  item_in v = side_in v.first v.len

  abbrev pub later_items_in : List ItemView → List ℕ
  later_items_in [] = []
  later_items_in (v ∷ vs) = mark_text rate v.mark ++ (comma ++ (item_in v ++ later_items_in vs))

  -- items and transitions, parted by commas
  abbrev pub items_in : List ItemView → List ℕ
  items_in [] = []
  items_in (v ∷ vs) = item_in v ++ later_items_in vs

  abbrev pub layer_in : Layer → List ℕ
  layer_in l =
      layer_open ++ (layer_range rate l
      ++ (layer_children ++ (items_in (items_of l.track.cells) ++ children_close)))

  abbrev pub later_layers_in : List Layer → List ℕ
  later_layers_in [] = []
  later_layers_in (l ∷ ls) = comma ++ (layer_in l ++ later_layers_in ls)

  abbrev pub layers_in : List Layer → List ℕ
  layers_in [] = []
  layers_in (l ∷ ls) = layer_in l ++ later_layers_in ls

  abbrev pub layers_if : Option Nest → List ℕ
  layers_if None = []
  layers_if (Some nest) = layers_in nest.layers

-- The layers of a nest. So many nests may stand in one another, which is at most as many as there are, since those in
-- a nest have lower numbers.
unfoldable pub nest_layers : Table → SequenceRate → ℕ → ℕ → List ℕ
nest_layers table rate zero j = []
nest_layers table rate (suc levels) j = layers_if table rate (nest_layers table rate levels) (slice_get table.nests j)

unfoldable pub nest_text : Table → SequenceRate → ℕ → ℕ → ℕ → ℕ → List ℕ
nest_text table rate levels j source len = nest_around rate source len (nest_layers table rate levels j)

unfoldable pub thing_text : Table → SequenceRate → ℕ → What → ℕ → ℕ → List ℕ
thing_text table rate levels what source len = thing_in table rate (nest_layers table rate levels) what source len

unfoldable pub item_text : Table → SequenceRate → ℕ → ItemView → List ℕ
item_text table rate levels v = item_in table rate (nest_layers table rate levels) v

abbrev pub later_items : Table → SequenceRate → ℕ → List ItemView → List ℕ
later_items table rate levels vs = later_items_in table rate (nest_layers table rate levels) vs

abbrev pub items_text : Table → SequenceRate → ℕ → TrackState → List ℕ
items_text table rate levels t = items_in table rate (nest_layers table rate levels) (items_of t.cells)

unfoldable pub layer_text : Table → SequenceRate → ℕ → Layer → List ℕ
layer_text table rate levels l = layer_in table rate (nest_layers table rate levels) l

abbrev pub later_layers : Table → SequenceRate → ℕ → List Layer → List ℕ
later_layers table rate levels ls = later_layers_in table rate (nest_layers table rate levels) ls

abbrev pub layers_text : Table → SequenceRate → ℕ → List Layer → List ℕ
layers_text table rate levels ls = layers_in table rate (nest_layers table rate levels) ls

-- ---- the tracks of the sequence

abbrev pub kind_text : Option Kind → List ℕ
kind_text (Some Audio) = codes "\"Audio\""
kind_text (Some Video) = codes "\"Video\""
kind_text None = codes "\"Video\""

abbrev pub kind_at : Table → ℕ → Option Kind
kind_at table i = slice_get table.kinds i

unfoldable pub track_text : Table → SequenceRate → Option Kind → TrackState → List ℕ
track_text table rate kind t =
    track_open ++ (kind_text kind
    ++ (track_children ++ (items_text table rate (length table.nests) t ++ children_close)))

abbrev pub later_tracks : Table → SequenceRate → ℕ → List TrackState → List ℕ
later_tracks table rate i [] = []
later_tracks table rate i (t ∷ ts) = comma ++ (track_text table rate (kind_at table i) t ++ later_tracks table rate (i + 1) ts)

abbrev pub tracks_text : Table → SequenceRate → List TrackState → List ℕ
tracks_text table rate [] = []
tracks_text table rate (t ∷ ts) = track_text table rate (kind_at table 0) t ++ later_tracks table rate 1 ts

-- ---- the timeline

unfoldable pub timeline_text : Table → List TrackState → Counted → ℕ → List ℕ
timeline_text table tracks c start =
    timeline_open ++ (time_text c.rate start
    ++ (timeline_tracks
    ++ (tracks_text table c.rate tracks ++ timeline_close)))

-- so many bytes, or that these are too many
abbrev pub Counts : List ℕ → Result ℕ WriteFault → Type 0
Counts text (Ok n) = (n ≡ length text) × (n ≤ 33554432)
Counts text (Err TooLarge) = 33554432 < length text
Counts text (Err Memory) = Unit {0}

-- the text after these bytes, or that it is too long
abbrev pub WritesAfter : List ℕ → List ℕ → Result (Vec ℕ Global) WriteFault → Type 0
WritesAfter head text (Ok v) = (length text ≤ 33554432) × (v.items ≡ head ++ text)
WritesAfter head text (Err TooLarge) = 33554432 < length text
WritesAfter head text (Err Memory) = Unit {0}

-- the text, or that it is too long
abbrev pub Writes : List ℕ → Result (Vec ℕ Global) WriteFault → Type 0
Writes text (Ok v) = (length text ≤ 33554432) × (v.items ≡ text)
Writes text (Err TooLarge) = 33554432 < length text
Writes text (Err Memory) = Unit {0}
