-- The items of tracks, with nests in one another: a Stack, whose children are its layers, and a Track, which is a
-- nest with one layer.
use Rattle.std.specs.Prelude.{ℕ, zero, suc, ◌+◌, ◌-◌, max, List, [], ◌∷◌, ◌++◌, length, Option, Some, None, Result, Ok, Err, codes}
use Rattle.frame_meaning.specs.declared.cells.What.TheVariants.{Nest as NestOf}
use Rattle.frame_meaning.specs.declared.frames.Side.TheVariants.{Dark, Pic}
use Rattle.composables.specs.declared.media.Table.{Table}
use Rattle.composables.specs.declared.media.Layer.{Layer}
use Rattle.composables.specs.declared.media.Nest.{Nest}
use Rattle.composables.specs.TrackState.{TrackState}
use Rattle.json_tokens.specs.Reading.{◌>>=◌}
use Rattle.json_tree.specs.Tree.{Tree}
use Rattle.json_tree.specs.Parts.{place_of}
use Rattle.otio_tracks.specs.declared.faults.DocCode.{DocCode}
use Rattle.otio_tracks.specs.declared.faults.DocCode.TheVariants.{O3, O12, O13, O14}
use Rattle.otio_tracks.specs.declared.values.Schema.{Schema}
use Rattle.otio_tracks.specs.declared.values.Schema.TheVariants.{Clip, Gap, Stack, Track, Transition, Other}
use Rattle.otio_tracks.specs.declared.times.Span.{Span}
use Rattle.otio_tracks.specs.declared.parts.Part.{Part}
use Rattle.otio_json.specs.declared.nests.Nesting.{Nesting}
use Rattle.otio_json.specs.declared.nests.Nesting.TheVariants.{Forbidden, Levels}
use Rattle.otio_tracks.specs.Reading.{Read, refuse, or_refuse, each}
use Rattle.otio_tracks.specs.Values.{given, needed, list_read, schema_read}
use Rattle.otio_tracks.specs.Times.{gap_read}
use Rattle.otio_tracks.specs.Parts.{head_read, trim_read, frames_within}
use Rattle.otio_tracks.specs.Clips.{clip_read, with_nest_last}
use Rattle.otio_tracks.specs.Rows.{RowState, empty_row, waits, row_with, row_end}
use Rattle.otio_tracks.specs.Building.{track_fit}

-- ---- gaps

abbrev pub gap_part : ℕ → Part
gap_part len = record { first = Dark; len = len; mark = None; from = 0; to = 0 }

abbrev pub gap_if : ℕ × ℕ → ℕ → Option Tree → Read Part
gap_if rate at None = refuse O14 at
gap_if rate at (Some range) = gap_read rate range >>= λ len. Ok (gap_part len)

unfoldable pub gap_part_read : ℕ × ℕ → Tree → Read Part
gap_part_read rate t = gap_if rate (place_of t) (given (codes "source_range") t)

-- ---- layers

abbrev pub whole_layer : TrackState → Layer
whole_layer track = record { track = track; from = 0; to = length track.cells }

-- of so many frames, the first that is shown, and how many are
abbrev pub nest_frames : ℕ → Option Span → Read (ℕ × ℕ)
nest_frames length None = Ok (0, length)
nest_frames length (Some span) = or_refuse (frames_within length span) O14 span.at

abbrev pub trimmed_layer : TrackState → Option Span → Read Layer
trimmed_layer track trim = nest_frames (length track.cells) trim >>= λ frames. Ok (record { track = track; from = frames.0; to = frames.0 + frames.1 })

-- a layer that is one item
abbrev pub layer_of : ℕ → Part → ℕ → Read Layer
layer_of number part at = do
  row ← row_with empty_row part
  parts ← row_end row
  track ← track_fit number parts at
  Ok (whole_layer track)

-- a nest is as long as its longest layer
abbrev pub longest_from : ℕ → List Layer → ℕ
longest_from most [] = most
longest_from most (l ∷ ls) = longest_from (max most (l.to - l.from)) ls

abbrev pub longest : List Layer → ℕ
longest layers = longest_from 0 layers

abbrev pub nest_of : List Layer → Nest
nest_of layers = record { layers = layers; length = longest layers }

-- ---- items, where the own part of a nest is read so

-- what stands in a nest: its own part, of a Stack or of a Track
abbrev pub Inner : Type 0
Inner = Schema → Table → Tree → Read (Nest × Table)

-- it may stand there, or why not
abbrev pub allowed : Result Inner DocCode → ℕ → Read Inner
allowed (Ok inner) at = Ok inner
allowed (Err code) at = refuse code at

-- an item that shows a nest
abbrev pub nest_part : ℕ → ℕ → ℕ × ℕ → Part
nest_part number length frames = record { first = Pic (NestOf number) frames.0; len = frames.1; mark = None; from = 0; to = length }

-- nests are numbered when their own part has been read, so those inside come first
abbrev pub with_nest : Table → Nest → ℕ × ℕ → Part × Table
with_nest table nest frames = (nest_part (length table.nests) nest.length frames, with_nest_last table nest)

module _ (rate : ℕ × ℕ) (inner : Result Inner DocCode) where
  abbrev pub nest_item_in : Schema → Table → Tree → Read (Part × Table)
  nest_item_in schema table t = do
    own ← allowed inner (place_of t)
    _ ← head_read t
    trim ← trim_read rate t
    nest ← own schema table t
    frames ← nest_frames nest.0.length trim
    Ok (with_nest nest.1 nest.0 frames)

  abbrev pub item_in : Schema → ℕ → Table → Tree → Read (Part × Table)
  item_in (Clip references) at table t = do
    _ ← head_read t
    clip_read rate references table t
  item_in Gap at table t = do
    _ ← head_read t
    part ← gap_part_read rate t
    Ok (part, table)
  item_in Stack at table t = nest_item_in Stack table t
  item_in Track at table t = nest_item_in Track table t
  item_in Transition at table t = refuse O3 at
  item_in Other at table t = refuse O3 at

  -- a child of a track: a transition waits, an item goes behind the others
  abbrev pub add_item : Schema × ℕ → RowState × Table → Tree → Read (RowState × Table)
  add_item found state t = do
    item ← item_in found.0 found.1 state.1 t
    row ← row_with state.0 item.0
    Ok (row, item.1)

  abbrev pub child_by : Schema × ℕ → RowState × Table → Tree → Read (RowState × Table)
  child_by (Transition, at) state t = Ok (waits rate state.0 t, state.1)
  child_by (Clip references, at) state t = add_item (Clip references, at) state t
  child_by (Gap, at) state t = add_item (Gap, at) state t
  child_by (Stack, at) state t = add_item (Stack, at) state t
  child_by (Track, at) state t = add_item (Track, at) state t
  child_by (Other, at) state t = add_item (Other, at) state t

  abbrev pub child_in : RowState × Table → Tree → Read (RowState × Table)
  child_in state t = schema_read t >>= λ found. child_by found state t

  abbrev pub row_in : Table → List Tree → Read (RowState × Table)
  row_in table children = each child_in (empty_row, table) children

  -- a track of these children
  abbrev pub track_in : ℕ → Table → List Tree → ℕ → Read (TrackState × Table)
  track_in number table children at = do
    state ← row_in table children
    parts ← row_end state.0
    track ← track_fit number parts at
    Ok (track, state.1)

  -- a layer: a track shown through its `source_range`, or a track of one item
  abbrev pub track_layer_in : ℕ → Table → Tree → Read (Layer × Table)
  track_layer_in number table t = do
    _ ← head_read t
    trim ← trim_read rate t
    children_text ← needed (codes "children") t
    children ← list_read children_text
    track ← track_in number table children (place_of t)
    layer ← trimmed_layer track.0 trim
    Ok (layer, track.1)

  abbrev pub item_layer_in : Schema × ℕ → ℕ → Table → Tree → Read (Layer × Table)
  item_layer_in found number table t = do
    item ← item_in found.0 found.1 table t
    layer ← layer_of number item.0 (place_of t)
    Ok (layer, item.1)

  abbrev pub layer_by : Schema × ℕ → ℕ → Table → Tree → Read (Layer × Table)
  layer_by (Track, at) number table t = track_layer_in number table t
  layer_by (Clip references, at) number table t = item_layer_in (Clip references, at) number table t
  layer_by (Gap, at) number table t = item_layer_in (Gap, at) number table t
  layer_by (Stack, at) number table t = item_layer_in (Stack, at) number table t
  layer_by (Transition, at) number table t = item_layer_in (Transition, at) number table t
  layer_by (Other, at) number table t = item_layer_in (Other, at) number table t

  abbrev pub layer_in : ℕ → Table → Tree → Read (Layer × Table)
  layer_in number table t = schema_read t >>= λ found. layer_by found number table t

  -- a layer has its index as number
  abbrev pub next_layer : List Layer × Table → Tree → Read (List Layer × Table)
  next_layer state t = layer_in (length state.0) state.1 t >>= λ layer. Ok (state.0 ++ layer.0 ∷ [], layer.1)

  abbrev pub layers_in : Table → List Tree → Read (List Layer × Table)
  layers_in table children = each next_layer ([], table) children

  abbrev pub one_layer_in : Table → ℕ → List Tree → Read (List Layer × Table)
  one_layer_in table at children = track_in 0 table children at >>= λ track. Ok (whole_layer track.0 ∷ [], track.1)

  abbrev pub layers_by : Schema → Table → ℕ → List Tree → Read (List Layer × Table)
  layers_by Stack table at children = layers_in table children
  layers_by _ table at children = one_layer_in table at children

  -- a nest's own part
  abbrev pub nest_in : Inner
  nest_in schema table t = do
    children_text ← needed (codes "children") t
    children ← list_read children_text
    layers ← layers_by schema table (place_of t) children
    Ok (nest_of layers.0, layers.1)

-- ---- nests with at most so many levels

unfoldable pub levels_in : ℕ × ℕ → ℕ → Result Inner DocCode
levels_in rate zero = Err O13
levels_in rate (suc levels) = Ok (nest_in rate (levels_in rate levels))

abbrev pub nests_in : ℕ × ℕ → Nesting → Result Inner DocCode
nests_in rate Forbidden = Err O12
nests_in rate (Levels levels) = levels_in rate levels

abbrev pub levels_of_nesting : Nesting → ℕ → Read ℕ
levels_of_nesting Forbidden at = refuse O12 at
levels_of_nesting (Levels zero) at = refuse O13 at
levels_of_nesting (Levels (suc levels)) at = Ok levels

abbrev pub levels_inside : Nesting → Tree → Read ℕ
levels_inside nesting t = levels_of_nesting nesting (place_of t)

-- ---- the parts, by the nesting that is allowed

abbrev pub item_read : ℕ × ℕ → Nesting → Schema × ℕ → Table → Tree → Read (Part × Table)
item_read rate nesting found table t = item_in rate (nests_in rate nesting) found.0 found.1 table t

unfoldable pub nest_read : ℕ × ℕ → ℕ → Schema → Table → Tree → Read (Nest × Table)
nest_read rate levels schema table t = nest_in rate (levels_in rate levels) schema table t

unfoldable pub nest_item_read : ℕ × ℕ → Nesting → Schema → Table → Tree → Read (Part × Table)
nest_item_read rate nesting schema table t = do
  levels ← levels_inside nesting t
  _ ← head_read t
  trim ← trim_read rate t
  nest ← nest_read rate levels schema table t
  frames ← nest_frames nest.0.length trim
  Ok (with_nest nest.1 nest.0 frames)

abbrev pub one_layer_read : ℕ × ℕ → ℕ → Table → ℕ → List Tree → Read (List Layer × Table)
one_layer_read rate levels table at children = one_layer_in rate (levels_in rate levels) table at children

abbrev pub layers_read : ℕ × ℕ → ℕ → Table → List Tree → Read (List Layer × Table)
layers_read rate levels table children = layers_in rate (levels_in rate levels) table children

unfoldable pub layer_read : ℕ × ℕ → ℕ → ℕ → Table → Tree → Read (Layer × Table)
layer_read rate levels number table t = layer_in rate (levels_in rate levels) number table t

unfoldable pub track_layer_read : ℕ × ℕ → ℕ → ℕ → Table → Tree → Read (Layer × Table)
track_layer_read rate levels number table t = track_layer_in rate (levels_in rate levels) number table t

unfoldable pub track_read : ℕ × ℕ → Nesting → ℕ → Table → List Tree → ℕ → Read (TrackState × Table)
track_read rate nesting number table children at = track_in rate (nests_in rate nesting) number table children at

abbrev pub row_read : ℕ × ℕ → Nesting → Table → List Tree → Read (RowState × Table)
row_read rate nesting table children = row_in rate (nests_in rate nesting) table children

unfoldable pub child_read : ℕ × ℕ → Nesting → RowState × Table → Tree → Read (RowState × Table)
child_read rate nesting state t = child_in rate (nests_in rate nesting) state t
