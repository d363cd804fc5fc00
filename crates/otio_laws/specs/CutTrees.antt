-- The tree that the text of a cut spells, where each place is 0. It is made from the cut as the text is.
use Rattle.std.specs.Prelude.{ℕ, zero, suc, ◌+◌, ◌-◌, pos, nat_eq, ◌&&◌, List, [], ◌∷◌, length, slice_get, Option, Some, None, codes, if◌then◌else◌}
use Rattle.timecode12.specs.Numbers.{Counted}
use Rattle.timecode12.specs.declared.rate.SequenceRate.{SequenceRate}
use Rattle.timecode12.specs.declared.rate.SequenceRate.TheVariants.{F23976, F24, F25, F2997, F30}
use Rattle.frame_meaning.specs.declared.cells.Mark.{Mark}
use Rattle.frame_meaning.specs.declared.cells.What.{What}
use Rattle.frame_meaning.specs.declared.cells.What.TheVariants.{Media as MediaOf, Nest as NestOf}
use Rattle.frame_meaning.specs.declared.frames.Side.{Side}
use Rattle.frame_meaning.specs.declared.frames.Side.TheVariants.{Dark, Pic}
use Rattle.composables.specs.declared.items.ItemView.{ItemView}
use Rattle.composables.specs.declared.media.Table.{Table}
use Rattle.composables.specs.declared.media.Media.{Media}
use Rattle.composables.specs.declared.media.Layer.{Layer}
use Rattle.composables.specs.declared.media.Nest.{Nest}
use Rattle.composables.specs.declared.media.Kind.{Kind as TrackKind}
use Rattle.composables.specs.declared.media.Kind.TheVariants.{Video, Audio}
use Rattle.composables.specs.Items.{items_of}
use Rattle.composables.specs.TrackState.{TrackState}
use Rattle.json_tree.specs.Tree.{Tree, At, Null, Wide, Numeral_of, Text_of, List_of, Object_of, trees, members}
use Rattle.otio_text.specs.Documents.{reel_name, kind_at}

-- ---- values

abbrev pub text_tree : List ℕ → Tree
text_tree s = At 0 (Text_of s)

abbrev pub object : List (List ℕ × Tree) → Tree
object ms = At 0 (Object_of (members ms))

abbrev pub list_tree : List Tree → Tree
list_tree ts = At 0 (List_of (trees ts))

abbrev pub schema : List ℕ → List ℕ × Tree
schema name = (codes "OTIO_SCHEMA", text_tree name)

abbrev pub rate_tree : SequenceRate → Tree
rate_tree F23976 = At 0 (Numeral_of (pos 23976) 3)
rate_tree F24 = At 0 (Numeral_of (pos 24) 0)
rate_tree F25 = At 0 (Numeral_of (pos 25) 0)
rate_tree F2997 = At 0 (Numeral_of (pos 2997) 2)
rate_tree F30 = At 0 (Numeral_of (pos 30) 0)

-- ---- times

unfoldable pub time_tree : SequenceRate → ℕ → Tree
time_tree rate f = object (
    schema (codes "RationalTime.1")
    ∷ (codes "rate", rate_tree rate)
    ∷ (codes "value", At 0 (Numeral_of (pos f) 0))
    ∷ [])

unfoldable pub range_tree : SequenceRate → ℕ → ℕ → Tree
range_tree rate from len = object (
    schema (codes "TimeRange.1")
    ∷ (codes "duration", time_tree rate len)
    ∷ (codes "start_time", time_tree rate from)
    ∷ [])

-- ---- items without a nest, and transitions

-- an item or a gap that shows this range, before its own part
abbrev pub gap_of_range : Tree → Tree
gap_of_range range = object (
    schema (codes "Gap.1")
    ∷ (codes "name", text_tree [])
    ∷ (codes "metadata", object [])
    ∷ (codes "source_range", range)
    ∷ (codes "effects", list_tree [])
    ∷ (codes "markers", list_tree [])
    ∷ [])

unfoldable pub gap_tree : SequenceRate → ℕ → Tree
gap_tree rate len = gap_of_range (range_tree rate 0 len)

abbrev pub reference_of_range : Tree → Tree
reference_of_range range = object (
    schema (codes "MissingReference.1")
    ∷ (codes "name", text_tree [])
    ∷ (codes "metadata", object [])
    ∷ (codes "available_range", range)
    ∷ [])

-- the references of a clip by their keys, of which it has one
abbrev pub references_of_range : Tree → Tree
references_of_range range = object ((codes "DEFAULT_MEDIA", reference_of_range range) ∷ [])

abbrev pub clip_of_ranges : List ℕ → Tree → Tree → Tree
clip_of_ranges reel range there = object (
    schema (codes "Clip.2")
    ∷ (codes "name", text_tree reel)
    ∷ (codes "metadata", object ((codes "cmx_3600", object ((codes "reel", text_tree reel) ∷ [])) ∷ []))
    ∷ (codes "source_range", range)
    ∷ (codes "effects", list_tree [])
    ∷ (codes "markers", list_tree [])
    ∷ (codes "media_references", references_of_range there)
    ∷ (codes "active_media_reference_key", text_tree (codes "DEFAULT_MEDIA"))
    ∷ [])

unfoldable pub clip_tree : SequenceRate → List ℕ → ℕ → ℕ → Media → Tree
clip_tree rate reel source len m = clip_of_ranges reel (range_tree rate source len) (range_tree rate m.from (m.to - m.from))

-- where the table has no such entry nothing is written, as of a number that is too wide
abbrev pub clip_tree_of : List (List ℕ) → SequenceRate → Option Media → ℕ → ℕ → Tree
clip_tree_of reels rate None source len = At 0 Wide
clip_tree_of reels rate (Some m) source len = clip_tree rate (reel_name reels m.reel) source len m

abbrev pub clip_tree_if : Table → SequenceRate → ℕ → ℕ → ℕ → Tree
clip_tree_if table rate n source len = clip_tree_of table.reels rate (slice_get table.media n) source len

abbrev pub transition_of_times : Tree → Tree → Tree
transition_of_times before after = object (
    schema (codes "Transition.1")
    ∷ (codes "name", text_tree [])
    ∷ (codes "metadata", object [])
    ∷ (codes "transition_type", text_tree (codes "SMPTE_Dissolve"))
    ∷ (codes "in_offset", before)
    ∷ (codes "out_offset", after)
    ∷ [])

unfoldable pub transition_tree : SequenceRate → Mark → Tree
transition_tree rate m = transition_of_times (time_tree rate m.a) (time_tree rate m.b)

-- the transition at the cut before an item, in front of others
abbrev pub mark_trees : SequenceRate → Option Mark → List Tree → List Tree
mark_trees rate None ts = ts
mark_trees rate (Some m) ts = transition_tree rate m ∷ ts

-- ---- nests, layers and tracks of what stands in them

unfoldable pub nest_of_layers : Tree → List Tree → Tree
nest_of_layers range layers = object (
    schema (codes "Stack.1")
    ∷ (codes "name", text_tree [])
    ∷ (codes "metadata", object [])
    ∷ (codes "source_range", range)
    ∷ (codes "effects", list_tree [])
    ∷ (codes "markers", list_tree [])
    ∷ (codes "children", list_tree layers)
    ∷ [])

unfoldable pub layer_of_items : Tree → List Tree → Tree
layer_of_items range items = object (
    schema (codes "Track.1")
    ∷ (codes "name", text_tree [])
    ∷ (codes "metadata", object [])
    ∷ (codes "source_range", range)
    ∷ (codes "effects", list_tree [])
    ∷ (codes "markers", list_tree [])
    ∷ (codes "kind", text_tree (codes "Video"))
    ∷ (codes "children", list_tree items)
    ∷ [])

-- the range that a layer shows of its track, and null where it shows all of it
abbrev pub layer_range_tree : SequenceRate → Layer → Tree
layer_range_tree rate l =
    if nat_eq l.from 0 && nat_eq l.to (length l.track.cells) then At 0 Null else range_tree rate l.from (l.to - l.from)

-- ---- items, where the layers of nest j are the layers j

module _ (table : Table) (rate : SequenceRate) (layers : ℕ → List Tree) where
  abbrev pub thing_tree : What → ℕ → ℕ → Tree
  thing_tree (MediaOf m) source len = clip_tree_if table rate m source len
  thing_tree (NestOf j) source len = nest_of_layers (range_tree rate source len) (layers j)

  abbrev pub side_tree : Side What → ℕ → Tree
  side_tree Dark len = gap_tree rate len
  side_tree (Pic what source) len = thing_tree what source len

  abbrev pub item_tree : ItemView → Tree
  item_tree v = side_tree v.first v.len

  abbrev pub later_item_trees : List ItemView → List Tree
  later_item_trees [] = []
  later_item_trees (v ∷ vs) = mark_trees rate v.mark (item_tree v ∷ later_item_trees vs)

  abbrev pub item_trees : List ItemView → List Tree
  item_trees [] = []
  item_trees (v ∷ vs) = item_tree v ∷ later_item_trees vs

  abbrev pub layer_tree : Layer → Tree
  layer_tree l = layer_of_items (layer_range_tree rate l) (item_trees (items_of l.track.cells))

  abbrev pub layer_trees : List Layer → List Tree
  layer_trees [] = []
  layer_trees (l ∷ ls) = layer_tree l ∷ layer_trees ls

  abbrev pub layer_trees_if : Option Nest → List Tree
  layer_trees_if None = []
  layer_trees_if (Some nest) = layer_trees nest.layers

-- The layers of a nest, where so many nests may stand in one another.
unfoldable pub nest_trees : Table → SequenceRate → ℕ → ℕ → List Tree
nest_trees table rate zero j = []
nest_trees table rate (suc levels) j = layer_trees_if table rate (nest_trees table rate levels) (slice_get table.nests j)

-- ---- the tracks of the sequence

abbrev pub kind_name : Option TrackKind → List ℕ
kind_name (Some Audio) = codes "Audio"
kind_name (Some Video) = codes "Video"
kind_name None = codes "Video"

unfoldable pub track_of_items : List ℕ → List Tree → Tree
track_of_items kind items = object (
    schema (codes "Track.1")
    ∷ (codes "name", text_tree [])
    ∷ (codes "metadata", object [])
    ∷ (codes "source_range", At 0 Null)
    ∷ (codes "effects", list_tree [])
    ∷ (codes "markers", list_tree [])
    ∷ (codes "kind", text_tree kind)
    ∷ (codes "children", list_tree items)
    ∷ [])

abbrev pub track_tree : Table → SequenceRate → Option TrackKind → TrackState → Tree
track_tree table rate kind t =
    track_of_items (kind_name kind) (item_trees table rate (nest_trees table rate (length table.nests)) (items_of t.cells))

-- the tracks from one with this number on
abbrev pub track_trees : Table → SequenceRate → ℕ → List TrackState → List Tree
track_trees table rate i [] = []
track_trees table rate i (t ∷ ts) = track_tree table rate (kind_at table i) t ∷ track_trees table rate (i + 1) ts

-- ---- the timeline

unfoldable pub stack_of_tracks : List Tree → Tree
stack_of_tracks tracks = object (
    schema (codes "Stack.1")
    ∷ (codes "name", text_tree (codes "tracks"))
    ∷ (codes "metadata", object [])
    ∷ (codes "source_range", At 0 Null)
    ∷ (codes "effects", list_tree [])
    ∷ (codes "markers", list_tree [])
    ∷ (codes "children", list_tree tracks)
    ∷ [])

unfoldable pub timeline_of : Tree → List Tree → Tree
timeline_of start tracks = object (
    schema (codes "Timeline.1")
    ∷ (codes "name", text_tree [])
    ∷ (codes "metadata", object [])
    ∷ (codes "global_start_time", start)
    ∷ (codes "tracks", stack_of_tracks tracks)
    ∷ [])

abbrev pub timeline_tree : Table → List TrackState → Counted → ℕ → Tree
timeline_tree table tracks c start = timeline_of (time_tree c.rate start) (track_trees table c.rate 0 tracks)
