-- The tree of a sound cut can be written.
use Rattle.std.proofs.Common.{◌≡◌, ℕ, zero, suc, ◌+◌, ◌-◌, ◌^◌, ◌<◌, ◌≤◌, Bool, true, false, ◌&&◌, List, [], ◌∷◌, length, slice_get, Option, Some, None, IfSome, refl, sym, subst, arith, if◌then◌else◌}
use Rattle.std.specs.Prelude.{nat_eq}
use Rattle.std.specs.List.{All}
use Rattle.std.specs.Str.{IsUtf8}
use Rattle.std.proofs.lemmas.List.Elements.{All-head, All-tail}
use Rattle.timecode12.specs.declared.rate.SequenceRate.{SequenceRate}
use Rattle.frame_meaning.specs.declared.cells.Mark.{Mark}
use Rattle.frame_meaning.specs.declared.cells.What.{What}
use Rattle.frame_meaning.specs.declared.cells.What.TheVariants.{Media as MediaOf, Nest as NestOf}
use Rattle.frame_meaning.specs.declared.frames.Side.{Side}
use Rattle.frame_meaning.specs.declared.frames.Side.TheVariants.{Dark, Pic}
use Rattle.composables.specs.declared.items.ItemView.{ItemView}
use Rattle.composables.specs.declared.media.Table.{Table}
use Rattle.composables.specs.declared.media.Media.{Media}
use Rattle.composables.specs.declared.media.Layer.{Layer}
use Rattle.composables.specs.declared.media.Nest.{Nest}
use Rattle.composables.specs.declared.media.Kind.{Kind as TrackKind}
use Rattle.composables.specs.declared.media.Kind.TheVariants.{Video, Audio}
use Rattle.composables.specs.Bounds.{bounds_of}
use Rattle.composables.specs.Good.{LiesIn, SideLiesIn}
use Rattle.composables.specs.Items.{items_of}
use Rattle.composables.specs.TrackFacts.{left_reach, right_reach, first_mark, HasSource}
use Rattle.composables.specs.TrackState.{TrackState}
use Rattle.json_tree.specs.Tree.{Tree, At, Null}
use Rattle.otio_tracks.specs.ReelTexts.{AreTexts}
use Rattle.otio_text.specs.Documents.{text_or_none, reel_name, kind_at}
use Rattle.otio_json.specs.Soundness.{SideHas, EachHas, IsDeep, levels_of_kind}
use Rattle.otio_laws.specs.SoundCuts.{IsCutTrack, IsCutLayer, IsCutNest, IsCutTable, IsSoundCut}
use Rattle.otio_laws.proofs.DeepTracks.{AreCutTracksFrom, tracks_deep}
use Rattle.otio_json.specs.declared.opening.Opening.{Opening}
use Rattle.otio_json.proofs.Growth.{deep_more}
use Rattle.otio_laws.specs.CutTrees.{time_tree, range_tree, clip_tree_of, transition_tree, mark_trees, layer_range_tree, thing_tree, side_tree, item_tree, later_item_trees, item_trees, layer_tree, layer_trees, layer_trees_if, nest_trees, track_tree, track_trees, timeline_tree}
use Rattle.otio_laws.proofs.Facts.{all_at, IsShown, EachIsShown, track_shown, shows_media, nest_if}
use Rattle.otio_laws.proofs.Lawful.{empty_utf8, IsLawful, AreLawful, null_lawful, none_lawful, more_lawful, time_lawful, range_lawful, gap_lawful, clip_lawful, transition_lawful, nest_lawful, layer_lawful, track_lawful, timeline_lawful}

-- four levels for an item without nests, and four more for each nest in it; and some more
abbrev more_levels : ℕ → ℕ → ℕ
more_levels zero m = m
more_levels (suc n) m = suc (suc (suc (suc (more_levels n m))))

abbrev pub levels_for : ℕ → ℕ → ℕ
levels_for n m = suc (suc (suc (suc (suc (more_levels n m)))))

range_if : (t : Bool) (n : ℕ) (r : SequenceRate) (from len : ℕ) → from < 10 ^ 18 → len < 10 ^ 18 → IsLawful (suc (suc n)) (if t then At 0 Null else range_tree r from len)
range_if true n r from len f l = null_lawful (suc (suc n))
range_if false n r from len f l = range_lawful n r from len f l

mark_lawful : (n : ℕ) (r : SequenceRate) (mark : Option Mark) (ts : List Tree) → left_reach mark ≤ 2592000 → right_reach mark ≤ 2592000 → AreLawful (suc (suc n)) ts → AreLawful (suc (suc n)) (mark_trees r mark ts)
mark_lawful n r None ts a b h = h
mark_lawful n r (Some m) ts a b h = more_lawful (suc (suc n)) (transition_tree r m) ts (transition_lawful n r m (omega arith) (omega arith)) h

reel_utf8 : (reels : List (List ℕ)) (n : ℕ) → AreTexts reels → IsUtf8 (reel_name reels n)
reel_utf8 reels n h = by_name (slice_get reels n) refl where
  by_name : (o : Option (List ℕ)) → slice_get reels n ≡ o → IsUtf8 (text_or_none o)
  by_name None e = empty_utf8
  by_name (Some name) e = all_at IsUtf8 reels n name h e

module _ (table : Table) (rate : SequenceRate) (sound : IsCutTable table) (texts : AreTexts table.reels) (tree : ℕ → List Tree) where
  -- what stands in a nest with so many nests in it at most
  abbrev Inside : ℕ → ℕ → Type 0
  Inside zero m = Unit {0}
  Inside (suc n) m = (j : ℕ) → IsDeep table.nests (suc n) (NestOf j) → AreLawful (suc (suc (levels_for n m))) (tree j)

  nest_in : (n m j s len : ℕ) → Inside n m → IsDeep table.nests n (NestOf j) → s < 10 ^ 18 → len < 10 ^ 18 → IsLawful (levels_for n m) (thing_tree table rate tree (NestOf j) s len)
  nest_in zero m j s len inside deep small short = absurd deep
  nest_in (suc n) m j s len inside deep small short =
      nest_lawful (suc (suc (levels_for n m))) (range_tree rate s len) (tree j) (range_lawful (suc (levels_for n m)) rate s len small short) (inside j deep)

  module _ (n m : ℕ) (inside : Inside n m) where
    thing_lawful : (w : What) (s len before after : ℕ) → s < 10 ^ 18 → len < 10 ^ 18 → LiesIn (bounds_of table w) s len before after → IsDeep table.nests n w
        → IsLawful (levels_for n m) (thing_tree table rate tree w s len)
    thing_lawful (MediaOf i) s len before after small short h d =
        let k = shows_media table sound i s len before after h in
        subst (λ (o : Option Media). IsLawful (levels_for n m) (clip_tree_of table.reels rate o s len)) (sym k.there)
        (clip_lawful (more_levels n m) rate (reel_name table.reels k.entry.reel) s len k.entry (reel_utf8 table.reels k.entry.reel texts) small short (omega (arith, k.from, small)) (omega (arith, k.sound.within)))
    thing_lawful (NestOf j) s len before after small short h d = nest_in n m j s len inside d small short

    side_lawful : (side : Side What) (len before after : ℕ) → len < 10 ^ 18 → HasSource side len before after → SideLiesIn table side len before after → SideHas (IsDeep table.nests n) side
        → IsLawful (levels_for n m) (side_tree table rate tree side len)
    side_lawful Dark len before after short h l d = gap_lawful (suc (suc (more_levels n m))) rate len short
    side_lawful (Pic w s) len before after short h l d = thing_lawful w s len before after (omega (arith, h.1)) short l d

    item_lawful : (v : ItemView) (tail : Option Mark) → IsShown table v tail → SideHas (IsDeep table.nests n) v.first → IsLawful (levels_for n m) (item_tree table rate tree v)
    item_lawful v tail h d = side_lawful v.first v.len (left_reach v.mark) (right_reach tail) (omega (arith, h.short)) h.holds.source h.lies d

    later_lawful : (vs : List ItemView) → left_reach (first_mark vs) ≤ 2592000 → EachIsShown table vs → EachHas (IsDeep table.nests n) vs → AreLawful (levels_for n m) (later_item_trees table rate tree vs)
    later_lawful [] a h d = none_lawful (levels_for n m)
    later_lawful (v ∷ vs) a h d =
        let room = h.0.holds.room in
        let later = later_lawful vs (omega (arith, room, h.0.short)) h.1 d.1 in
        mark_lawful (suc (suc (suc (more_levels n m)))) rate v.mark (item_tree table rate tree v ∷ later_item_trees table rate tree vs) a (omega (arith, room, h.0.short))
        (more_lawful (levels_for n m) (item_tree table rate tree v) (later_item_trees table rate tree vs) (item_lawful v (first_mark vs) h.0 d.0) later)

    items_lawful : (vs : List ItemView) → EachIsShown table vs → EachHas (IsDeep table.nests n) vs → AreLawful (levels_for n m) (item_trees table rate tree vs)
    items_lawful [] h d = none_lawful (levels_for n m)
    items_lawful (v ∷ vs) h d =
        let later = later_lawful vs (omega (arith, h.0.holds.room, h.0.short)) h.1 d.1 in
        more_lawful (levels_for n m) (item_tree table rate tree v) (later_item_trees table rate tree vs) (item_lawful v (first_mark vs) h.0 d.0) later

    layer_in_lawful : (l : Layer) → IsCutLayer table 7 l → EachHas (IsDeep table.nests n) (items_of l.track.cells) → IsLawful (suc (suc (levels_for n m))) (layer_tree table rate tree l)
    layer_in_lawful l h d =
        let frames = h.track.good.frames in
        layer_lawful (levels_for n m) (layer_range_tree rate l) (item_trees table rate tree (items_of l.track.cells))
        (range_if (nat_eq l.from 0 && nat_eq l.to (length l.track.cells)) (suc (suc (suc (suc (more_levels n m))))) rate l.from (l.to - l.from) (omega (arith, h.ordered, h.within, frames)) (omega (arith, h.within, frames)))
        (items_lawful (items_of l.track.cells) (track_shown table l.track h.track.good) d)

    layers_lawful : (ls : List Layer) → All (IsCutLayer table 7) ls → All (λ (l : Layer). EachHas (IsDeep table.nests n) (items_of l.track.cells)) ls → AreLawful (suc (suc (levels_for n m))) (layer_trees table rate tree ls)
    layers_lawful [] h d = none_lawful (suc (suc (levels_for n m)))
    layers_lawful (l ∷ ls) h d =
        more_lawful (suc (suc (levels_for n m))) (layer_tree table rate tree l) (layer_trees table rate tree ls)
        (layer_in_lawful l (All-head (IsCutLayer table 7) l ls h) (All-head (λ (k : Layer). EachHas (IsDeep table.nests n) (items_of k.track.cells)) l ls d))
        (layers_lawful ls (All-tail (IsCutLayer table 7) l ls h) (All-tail (λ (k : Layer). EachHas (IsDeep table.nests n) (items_of k.track.cells)) l ls d))

-- ---- nests

inside_of : (table : Table) (tree : ℕ → List Tree) (rate : SequenceRate) (sound : IsCutTable table) (texts : AreTexts table.reels)
    → ((n m j : ℕ) → IsDeep table.nests (suc n) (NestOf j) → AreLawful (suc (suc (levels_for n m))) (tree j)) → (n m : ℕ) → Inside table rate sound texts tree n m
inside_of table tree rate sound texts h zero m = tt
inside_of table tree rate sound texts h (suc n) m = h n m

nests_lawful : (table : Table) (rate : SequenceRate) (sound : IsCutTable table) (texts : AreTexts table.reels) (levels n m j : ℕ) → IsDeep table.nests (suc n) (NestOf j) → AreLawful (suc (suc (levels_for n m))) (nest_trees table rate levels j)
unfolding nest_trees
nests_lawful table rate sound texts zero n m j d = none_lawful (suc (suc (levels_for n m)))
nests_lawful table rate sound texts (suc levels) n m j d =
    let inner = nest_trees table rate levels in
    let inside = inside_of table inner rate sound texts (nests_lawful table rate sound texts levels) n m in
    let s : IsCutNest table 7 d.0 = subst (λ (o : Option Nest). IfSome o (IsCutNest table 7)) d.1 (nest_if table sound j) in
    subst (λ (o : Option Nest). AreLawful (suc (suc (levels_for n m))) (layer_trees_if table rate inner o)) (sym d.1)
    (layers_lawful table rate sound texts inner n m inside d.0.layers s.layers d.2)

-- ---- the sequence

track_in_lawful : (table : Table) (rate : SequenceRate) (sound : IsCutTable table) (texts : AreTexts table.reels) (kind : Option TrackKind) (n m : ℕ) (t : TrackState) → IsCutTrack table n t
    → IsLawful (suc (suc (levels_for n m))) (track_tree table rate kind t)
track_in_lawful table rate sound texts kind n m t h =
    let inner = nest_trees table rate (length table.nests) in
    let inside = inside_of table inner rate sound texts (nests_lawful table rate sound texts (length table.nests)) n m in
    track_lawful (levels_for n m) kind (item_trees table rate inner (items_of t.cells)) (items_lawful table rate sound texts inner n m inside (items_of t.cells) (track_shown table t h.good) h.deep)

-- a track of either kind has at most 8 nests in one another
at_most_eight : (table : Table) (k : TrackKind) (t : TrackState) → IsCutTrack table (levels_of_kind k) t → IsCutTrack table 8 t
at_most_eight table k t h = record {
  good = h.good;
  deep = each_deeper (items_of t.cells) h.deep;
}
  where
    levels_few : (k : TrackKind) → levels_of_kind k ≤ 8
    levels_few Video = omega arith
    levels_few Audio = omega arith

    side_deeper : (side : Side What) → SideHas (IsDeep table.nests (levels_of_kind k)) side → SideHas (IsDeep table.nests 8) side
    side_deeper Dark d = tt
    side_deeper (Pic w s) d = deep_more table.nests (levels_of_kind k) 8 (levels_few k) w d

    each_deeper : (vs : List ItemView) → EachHas (IsDeep table.nests (levels_of_kind k)) vs → EachHas (IsDeep table.nests 8) vs
    each_deeper [] d = tt
    each_deeper (v ∷ vs) d = (side_deeper v.first d.0, each_deeper vs d.1)

tracks_lawful : (table : Table) (rate : SequenceRate) (sound : IsCutTable table) (texts : AreTexts table.reels) (m i n : ℕ) (ks : List TrackKind) (ts : List TrackState) → AreCutTracksFrom table n ks ts
    → AreLawful (suc (suc (levels_for 8 m))) (track_trees table rate i ts)
tracks_lawful table rate sound texts m i n ks [] h = none_lawful (suc (suc (levels_for 8 m)))
tracks_lawful table rate sound texts m i n [] (t ∷ ts) h = absurd h
tracks_lawful table rate sound texts m i n (k ∷ ks) (t ∷ ts) h =
    more_lawful (suc (suc (levels_for 8 m))) (track_tree table rate (kind_at table i) t) (track_trees table rate (i + 1) ts)
    (track_in_lawful table rate sound texts (kind_at table i) 8 m t (at_most_eight table k t h.1))
    (tracks_lawful table rate sound texts m (i + 1) (n + 1) ks ts h.2)

pub cut_lawful : (o : Opening) → IsSoundCut o → AreTexts o.table.reels → o.start < 10 ^ 18 → IsLawful 64 (timeline_tree o.table o.tracks o.counting o.start)
cut_lawful o sound texts small =
    let rate = o.counting.rate in
    timeline_lawful (suc (suc (levels_for 8 22))) (time_tree rate o.start) (track_trees o.table rate 0 o.tracks)
    (time_lawful (suc (suc (suc (levels_for 8 22)))) rate o.start small)
    (tracks_lawful o.table rate sound.table texts 22 0 0 o.table.kinds o.tracks (tracks_deep o.table sound.table 0 o.table.kinds o.tracks sound.tracks))
