-- The text of a cut is that of its tree.
use Rattle.std.proofs.Common.{◌≡◌, ℕ, zero, suc, ◌+◌, ◌-◌, ◌^◌, ◌<◌, ◌≤◌, Bool, true, false, ◌&&◌, List, [], ◌∷◌, ◌++◌, length, slice_get, Option, Some, None, IfSome, refl, sym, ap, subst, ◌∙◌, arith, if◌then◌else◌}
use Rattle.std.specs.Prelude.{codes, nat_eq}
use Rattle.std.specs.List.{All}
use Rattle.std.proofs.lemmas.List.Elements.{All-head, All-tail}
use Rattle.timecode12.specs.declared.rate.SequenceRate.{SequenceRate}
use Rattle.frame_meaning.specs.declared.cells.Mark.{Mark}
use Rattle.frame_meaning.specs.declared.cells.What.{What}
use Rattle.frame_meaning.specs.declared.cells.What.TheVariants.{Media as MediaOf, Nest as NestOf}
use Rattle.frame_meaning.specs.declared.frames.Side.{Side}
use Rattle.frame_meaning.specs.declared.frames.Side.TheVariants.{Dark, Pic}
use Rattle.composables.specs.declared.items.ItemView.{ItemView}
use Rattle.composables.specs.declared.media.Table.{Table}
use Rattle.composables.specs.declared.media.Media.{Media}
use Rattle.composables.specs.declared.media.Layer.{Layer}
use Rattle.composables.specs.declared.media.Nest.{Nest}
use Rattle.composables.specs.declared.media.Kind.{Kind as TrackKind}
use Rattle.composables.specs.Bounds.{bounds_of}
use Rattle.composables.specs.Good.{LiesIn, SideLiesIn}
use Rattle.composables.specs.Items.{items_of}
use Rattle.composables.specs.TrackFacts.{left_reach, right_reach, first_mark, HasSource}
use Rattle.composables.specs.TrackState.{TrackState}
use Rattle.json_tree.specs.Tree.{Tree, At, Null, trees}
use Rattle.json_tree.specs.Writing.{commas, tree_text, trees_texts}
use Rattle.otio_text.specs.Documents.{range_text, reel_name, clip_of, mark_text, nest_open, nest_children, layer_open, layer_children, track_open, track_children, kind_text, kind_at, children_close, timeline_open, timeline_tracks, timeline_close, thing_in, side_in, item_in, later_items_in, items_in, layer_in, later_layers_in, layers_in, layers_if, nest_layers, track_text, later_tracks, tracks_text, timeline_text}
use Rattle.otio_json.specs.Soundness.{levels_of_kind}
use Rattle.otio_laws.specs.SoundCuts.{IsCutTrack, IsCutLayer, IsCutNest, IsCutTable, IsSoundCut}
use Rattle.otio_laws.proofs.DeepTracks.{AreCutTracksFrom, tracks_deep}
use Rattle.otio_json.specs.declared.opening.Opening.{Opening}
use Rattle.otio_laws.specs.CutTrees.{time_tree, range_tree, clip_tree_of, mark_trees, layer_range_tree, thing_tree, side_tree, item_tree, later_item_trees, item_trees, layer_tree, layer_trees, layer_trees_if, nest_trees, track_tree, track_trees, timeline_tree}
use Rattle.otio_laws.proofs.Facts.{IsShown, EachIsShown, track_shown, shows_media, nest_if}
use Rattle.otio_laws.proofs.PartTexts.{listed, time_spelled, range_spelled, gap_spelled, clip_spelled, transition_spelled, nest_written, layer_written, track_written, timeline_written}

-- the texts of trees, with a comma before each
abbrev behind : List Tree → List ℕ
behind ts = commas (trees_texts (trees ts))

range_if : (t : Bool) (r : SequenceRate) (from len : ℕ) → from < 10 ^ 18 → len < 10 ^ 18
    → tree_text (if t then At 0 Null else range_tree r from len) ≡ (if t then codes "null" else range_text r from len)
range_if true r from len f l = refl
range_if false r from len f l = range_spelled r from len f l

mark_spelled : (r : SequenceRate) (mark : Option Mark) (ts : List Tree) → left_reach mark ≤ 2592000 → right_reach mark ≤ 2592000
    → behind (mark_trees r mark ts) ≡ mark_text r mark ++ behind ts
mark_spelled r None ts a b = refl
mark_spelled r (Some m) ts a b = ap (λ (x : List ℕ). 44 ∷ (x ++ behind ts)) (transition_spelled r m (omega arith) (omega arith))

module _ (table : Table) (rate : SequenceRate) (sound : IsCutTable table) (text : ℕ → List ℕ) (tree : ℕ → List Tree) (same : (j : ℕ) → listed (tree j) ≡ text j) where
  thing_spelled : (w : What) (s len before after : ℕ) → s < 10 ^ 18 → len < 10 ^ 18 → LiesIn (bounds_of table w) s len before after
      → tree_text (thing_tree table rate tree w s len) ≡ thing_in table rate text w s len
  thing_spelled (MediaOf m) s len before after small short h =
      let k = shows_media table sound m s len before after h in
      subst (λ (o : Option Media). tree_text (clip_tree_of table.reels rate o s len) ≡ clip_of table.reels rate o s len) (sym k.there)
      (clip_spelled rate (reel_name table.reels k.entry.reel) s len k.entry small short (omega (arith, k.from, small)) (omega (arith, k.sound.within)))
  thing_spelled (NestOf j) s len before after small short h =
      nest_written (range_tree rate s len) (tree j)
      ∙ (λ i. nest_open ++ (range_spelled rate s len small short i ++ (nest_children ++ (same j i ++ children_close))))

  side_spelled : (side : Side What) (len before after : ℕ) → len < 10 ^ 18 → HasSource side len before after → SideLiesIn table side len before after
      → tree_text (side_tree table rate tree side len) ≡ side_in table rate text side len
  side_spelled Dark len before after short h l = gap_spelled rate len short
  side_spelled (Pic w s) len before after short h l = thing_spelled w s len before after (omega (arith, h.1)) short l

  item_spelled : (v : ItemView) (tail : Option Mark) → IsShown table v tail → tree_text (item_tree table rate tree v) ≡ item_in table rate text v
  item_spelled v tail h = side_spelled v.first v.len (left_reach v.mark) (right_reach tail) (omega (arith, h.short)) h.holds.source h.lies

  later_spelled : (vs : List ItemView) → left_reach (first_mark vs) ≤ 2592000 → EachIsShown table vs
      → behind (later_item_trees table rate tree vs) ≡ later_items_in table rate text vs
  later_spelled [] a h = refl
  later_spelled (v ∷ vs) a h =
      let room = h.0.holds.room in
      mark_spelled rate v.mark (item_tree table rate tree v ∷ later_item_trees table rate tree vs) a (omega (arith, room, h.0.short))
      ∙ (λ i. mark_text rate v.mark ++ 44 ∷ (item_spelled v (first_mark vs) h.0 i ++ later_spelled vs (omega (arith, room, h.0.short)) h.1 i))

  items_spelled : (vs : List ItemView) → EachIsShown table vs → listed (item_trees table rate tree vs) ≡ items_in table rate text vs
  items_spelled [] h = refl
  items_spelled (v ∷ vs) h =
      let room = h.0.holds.room in
      λ i. item_spelled v (first_mark vs) h.0 i ++ later_spelled vs (omega (arith, room, h.0.short)) h.1 i

  track_items_spelled : (levels : ℕ) (t : TrackState) → IsCutTrack table levels t → listed (item_trees table rate tree (items_of t.cells)) ≡ items_in table rate text (items_of t.cells)
  track_items_spelled levels t h = items_spelled (items_of t.cells) (track_shown table t h.good)

  layer_spelled : (l : Layer) → IsCutLayer table 7 l → tree_text (layer_tree table rate tree l) ≡ layer_in table rate text l
  layer_spelled l h =
      let frames = h.track.good.frames in
      let range = range_if (nat_eq l.from 0 && nat_eq l.to (length l.track.cells)) rate l.from (l.to - l.from) (omega (arith, h.ordered, h.within, frames)) (omega (arith, h.within, frames)) in
      layer_written (layer_range_tree rate l) (item_trees table rate tree (items_of l.track.cells))
      ∙ (λ i. layer_open ++ (range i ++ (layer_children ++ (track_items_spelled 7 l.track h.track i ++ children_close))))

  later_layers_spelled : (ls : List Layer) → All (IsCutLayer table 7) ls → behind (layer_trees table rate tree ls) ≡ later_layers_in table rate text ls
  later_layers_spelled [] h = refl
  later_layers_spelled (l ∷ ls) h =
      λ i. 44 ∷ (layer_spelled l (All-head (IsCutLayer table 7) l ls h) i ++ later_layers_spelled ls (All-tail (IsCutLayer table 7) l ls h) i)

  layers_spelled : (ls : List Layer) → All (IsCutLayer table 7) ls → listed (layer_trees table rate tree ls) ≡ layers_in table rate text ls
  layers_spelled [] h = refl
  layers_spelled (l ∷ ls) h =
      λ i. layer_spelled l (All-head (IsCutLayer table 7) l ls h) i ++ later_layers_spelled ls (All-tail (IsCutLayer table 7) l ls h) i

  layers_if_spelled : (o : Option Nest) → IfSome o (IsCutNest table 7) → listed (layer_trees_if table rate tree o) ≡ layers_if table rate text o
  layers_if_spelled None h = refl
  layers_if_spelled (Some nest) h = layers_spelled nest.layers h.layers

nests_spelled : (table : Table) (rate : SequenceRate) → IsCutTable table → (levels j : ℕ) → listed (nest_trees table rate levels j) ≡ nest_layers table rate levels j
unfolding nest_trees nest_layers
nests_spelled table rate sound zero j = refl
nests_spelled table rate sound (suc levels) j =
    layers_if_spelled table rate sound (nest_layers table rate levels) (nest_trees table rate levels) (nests_spelled table rate sound levels) (slice_get table.nests j) (nest_if table sound j)

-- ---- the sequence

track_spelled : (table : Table) (rate : SequenceRate) → IsCutTable table → (kind : Option TrackKind) (levels : ℕ) (t : TrackState) → IsCutTrack table levels t
    → tree_text (track_tree table rate kind t) ≡ track_text table rate kind t
unfolding track_text
track_spelled table rate sound kind levels t h =
    let n = length table.nests in
    let items = track_items_spelled table rate sound (nest_layers table rate n) (nest_trees table rate n) (nests_spelled table rate sound n) levels t h in
    track_written kind (item_trees table rate (nest_trees table rate n) (items_of t.cells))
    ∙ ap (λ (x : List ℕ). track_open ++ (kind_text kind ++ (track_children ++ (x ++ children_close)))) items

later_tracks_spelled : (table : Table) (rate : SequenceRate) → IsCutTable table → (i n : ℕ) (ks : List TrackKind) (ts : List TrackState) → AreCutTracksFrom table n ks ts
    → behind (track_trees table rate i ts) ≡ later_tracks table rate i ts
later_tracks_spelled table rate sound i n ks [] h = refl
later_tracks_spelled table rate sound i n [] (t ∷ ts) h = absurd h
later_tracks_spelled table rate sound i n (k ∷ ks) (t ∷ ts) h =
    λ e. 44 ∷ (track_spelled table rate sound (kind_at table i) (levels_of_kind k) t h.1 e ++ later_tracks_spelled table rate sound (i + 1) (n + 1) ks ts h.2 e)

tracks_spelled : (table : Table) (rate : SequenceRate) → IsCutTable table → (ks : List TrackKind) (ts : List TrackState) → AreCutTracksFrom table 0 ks ts
    → listed (track_trees table rate 0 ts) ≡ tracks_text table rate ts
tracks_spelled table rate sound ks [] h = refl
tracks_spelled table rate sound [] (t ∷ ts) h = absurd h
tracks_spelled table rate sound (k ∷ ks) (t ∷ ts) h =
    λ e. track_spelled table rate sound (kind_at table 0) (levels_of_kind k) t h.1 e ++ later_tracks_spelled table rate sound 1 1 ks ts h.2 e

pub timeline_spelled : (o : Opening) → IsSoundCut o → o.start < 10 ^ 18
    → tree_text (timeline_tree o.table o.tracks o.counting o.start) ≡ timeline_text o.table o.tracks o.counting o.start
unfolding timeline_text
timeline_spelled o sound small =
    let rate = o.counting.rate in
    timeline_written (time_tree rate o.start) (track_trees o.table rate 0 o.tracks)
    ∙ (λ i. timeline_open ++ (time_spelled rate o.start small i ++ (timeline_tracks ++ (tracks_spelled o.table rate sound.table o.table.kinds o.tracks (tracks_deep o.table sound.table 0 o.table.kinds o.tracks sound.tracks) i ++ timeline_close))))
