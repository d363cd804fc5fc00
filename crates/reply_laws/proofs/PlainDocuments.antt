-- No line feed stands in the text of a document.
use Rattle.std.proofs.Common.{◌≡◌, ℕ, zero, suc, ◌+◌, ◌-◌, List, [], ◌∷◌, ◌++◌, ◌&&◌, Bool, true, false, Option, Some, None, length, slice_get, nat_eq, if◌then◌else◌, refl, codes}
use Rattle.std.specs.Fmt.{decimal}
use Rattle.timecode12.specs.Numbers.{Counted}
use Rattle.timecode12.specs.declared.rate.SequenceRate.{SequenceRate}
use Rattle.timecode12.specs.declared.rate.SequenceRate.TheVariants.{F23976, F24, F25, F2997, F30}
use Rattle.frame_meaning.specs.declared.cells.Mark.{Mark}
use Rattle.frame_meaning.specs.declared.cells.What.{What}
use Rattle.frame_meaning.specs.declared.cells.What.TheVariants.{Media as MediaOf, Nest as NestOf}
use Rattle.frame_meaning.specs.declared.frames.Side.{Side}
use Rattle.frame_meaning.specs.declared.frames.Side.TheVariants.{Dark, Pic}
use Rattle.composables.specs.declared.items.ItemView.{ItemView}
use Rattle.composables.specs.declared.media.Table.{Table}
use Rattle.composables.specs.declared.media.Media.{Media}
use Rattle.composables.specs.declared.media.Layer.{Layer}
use Rattle.composables.specs.declared.media.Nest.{Nest}
use Rattle.composables.specs.declared.media.Kind.{Kind}
use Rattle.composables.specs.declared.media.Kind.TheVariants.{Video, Audio}
use Rattle.composables.specs.Items.{items_of}
use Rattle.composables.specs.TrackState.{TrackState}
use Rattle.json_tree.specs.Writing.{quoted}
use Rattle.otio_text.specs.Documents.{rate_text, time_value, time_close, time_text, range_start, brace, range_text, gap_close, gap_text, clip_reel, clip_range, clip_media, clip_close, clip_text, reel_name, clip_of, clip_if, transition_out, transition_text, mark_text, nest_children, children_close, nest_around, layer_children, layer_range, thing_in, side_in, item_in, later_items_in, items_in, layer_in, later_layers_in, layers_in, layers_if, nest_layers, track_children, kind_text, kind_at, track_text, later_tracks, tracks_text, timeline_tracks, timeline_close, timeline_text, items_text, comma}
use Rattle.reply_laws.proofs.PlainTexts.{is_plain, both, either, number, name}

rate_plain : (rate : SequenceRate) → is_plain (rate_text rate) ≡ true
rate_plain F23976 = refl
rate_plain F24 = refl
rate_plain F25 = refl
rate_plain F2997 = refl
rate_plain F30 = refl

time_plain : (rate : SequenceRate) (f : ℕ) → is_plain (time_text rate f) ≡ true
unfolding time_text
time_plain rate f = both (rate_text rate) (time_value ++ (decimal f ++ time_close)) (rate_plain rate) (both (decimal f) time_close (number f) refl)

range_plain : (rate : SequenceRate) (from len : ℕ) → is_plain (range_text rate from len) ≡ true
unfolding range_text
range_plain rate from len =
    both (time_text rate len) (range_start ++ (time_text rate from ++ brace)) (time_plain rate len) (both (time_text rate from) brace (time_plain rate from) refl)

gap_plain : (rate : SequenceRate) (len : ℕ) → is_plain (gap_text rate len) ≡ true
unfolding gap_text
gap_plain rate len = both (range_text rate 0 len) gap_close (range_plain rate 0 len) refl

clip_plain : (rate : SequenceRate) (reel : List ℕ) (source len : ℕ) (m : Media) → is_plain (clip_text rate reel source len m) ≡ true
unfolding clip_text
clip_plain rate reel source len m =
    let media = both (range_text rate m.from (m.to - m.from)) clip_close (range_plain rate m.from (m.to - m.from)) refl in
    let range = both (range_text rate source len) (clip_media ++ (range_text rate m.from (m.to - m.from) ++ clip_close)) (range_plain rate source len) media in
    let again = both (quoted reel) (clip_range ++ (range_text rate source len ++ (clip_media ++ (range_text rate m.from (m.to - m.from) ++ clip_close)))) (name reel) range in
    both (quoted reel) (clip_reel ++ (quoted reel ++ (clip_range ++ (range_text rate source len ++ (clip_media ++ (range_text rate m.from (m.to - m.from) ++ clip_close)))))) (name reel) again

clip_of_plain : (reels : List (List ℕ)) (rate : SequenceRate) (m : Option Media) (source len : ℕ) → is_plain (clip_of reels rate m source len) ≡ true
clip_of_plain reels rate None source len = refl
clip_of_plain reels rate (Some m) source len = clip_plain rate (reel_name reels m.reel) source len m

transition_plain : (rate : SequenceRate) (m : Mark) → is_plain (transition_text rate m) ≡ true
unfolding transition_text
transition_plain rate m =
    both (time_text rate m.a) (transition_out ++ (time_text rate m.b ++ brace)) (time_plain rate m.a) (both (time_text rate m.b) brace (time_plain rate m.b) refl)

mark_plain : (rate : SequenceRate) (m : Option Mark) → is_plain (mark_text rate m) ≡ true
mark_plain rate None = refl
mark_plain rate (Some m) = transition_plain rate m

nest_plain : (rate : SequenceRate) (source len : ℕ) (layers : List ℕ) → is_plain layers ≡ true → is_plain (nest_around rate source len layers) ≡ true
nest_plain rate source len layers h =
    both (range_text rate source len) (nest_children ++ (layers ++ children_close)) (range_plain rate source len) (both layers children_close h refl)

layer_range_plain : (rate : SequenceRate) (l : Layer) → is_plain (layer_range rate l) ≡ true
layer_range_plain rate l =
    either (nat_eq l.from 0 && nat_eq l.to (length l.track.cells)) (codes "null") (range_text rate l.from (l.to - l.from)) refl (range_plain rate l.from (l.to - l.from))

module _ (table : Table) (rate : SequenceRate) (layers : ℕ → List ℕ) (h : (j : ℕ) → is_plain (layers j) ≡ true) where
  thing_plain : (what : What) (source len : ℕ) → is_plain (thing_in table rate layers what source len) ≡ true
  thing_plain (MediaOf m) source len = clip_of_plain table.reels rate (slice_get table.media m) source len
  thing_plain (NestOf j) source len = nest_plain rate source len (layers j) (h j)

  side_plain : (side : Side What) (len : ℕ) → is_plain (side_in table rate layers side len) ≡ true
  side_plain Dark len = gap_plain rate len
  side_plain (Pic what source) len = thing_plain what source len

  later_plain : (vs : List ItemView) → is_plain (later_items_in table rate layers vs) ≡ true
  later_plain [] = refl
  later_plain (v ∷ vs) =
      both (mark_text rate v.mark) (comma ++ (item_in table rate layers v ++ later_items_in table rate layers vs)) (mark_plain rate v.mark)
      (both (item_in table rate layers v) (later_items_in table rate layers vs) (side_plain v.first v.len) (later_plain vs))

  items_plain : (vs : List ItemView) → is_plain (items_in table rate layers vs) ≡ true
  items_plain [] = refl
  items_plain (v ∷ vs) = both (item_in table rate layers v) (later_items_in table rate layers vs) (side_plain v.first v.len) (later_plain vs)

  layer_plain : (l : Layer) → is_plain (layer_in table rate layers l) ≡ true
  layer_plain l =
      both (layer_range rate l) (layer_children ++ (items_in table rate layers (items_of l.track.cells) ++ children_close)) (layer_range_plain rate l)
      (both (items_in table rate layers (items_of l.track.cells)) children_close (items_plain (items_of l.track.cells)) refl)

  later_layers_plain : (ls : List Layer) → is_plain (later_layers_in table rate layers ls) ≡ true
  later_layers_plain [] = refl
  later_layers_plain (l ∷ ls) = both (layer_in table rate layers l) (later_layers_in table rate layers ls) (layer_plain l) (later_layers_plain ls)

  layers_plain : (ls : List Layer) → is_plain (layers_in table rate layers ls) ≡ true
  layers_plain [] = refl
  layers_plain (l ∷ ls) = both (layer_in table rate layers l) (later_layers_in table rate layers ls) (layer_plain l) (later_layers_plain ls)

  layers_if_plain : (nest : Option Nest) → is_plain (layers_if table rate layers nest) ≡ true
  layers_if_plain None = refl
  layers_if_plain (Some nest) = layers_plain nest.layers

nests_plain : (table : Table) (rate : SequenceRate) (levels j : ℕ) → is_plain (nest_layers table rate levels j) ≡ true
unfolding nest_layers
nests_plain table rate zero j = refl
nests_plain table rate (suc levels) j = layers_if_plain table rate (nest_layers table rate levels) (nests_plain table rate levels) (slice_get table.nests j)

kind_plain : (kind : Option Kind) → is_plain (kind_text kind) ≡ true
kind_plain (Some Audio) = refl
kind_plain (Some Video) = refl
kind_plain None = refl

track_plain : (table : Table) (rate : SequenceRate) (kind : Option Kind) (t : TrackState) → is_plain (track_text table rate kind t) ≡ true
unfolding track_text
track_plain table rate kind t =
    let items = items_plain table rate (nest_layers table rate (length table.nests)) (nests_plain table rate (length table.nests)) (items_of t.cells) in
    both (kind_text kind) (track_children ++ (items_text table rate (length table.nests) t ++ children_close)) (kind_plain kind)
    (both (items_text table rate (length table.nests) t) children_close items refl)

later_tracks_plain : (table : Table) (rate : SequenceRate) (i : ℕ) (ts : List TrackState) → is_plain (later_tracks table rate i ts) ≡ true
later_tracks_plain table rate i [] = refl
later_tracks_plain table rate i (t ∷ ts) =
    both (track_text table rate (kind_at table i) t) (later_tracks table rate (i + 1) ts) (track_plain table rate (kind_at table i) t) (later_tracks_plain table rate (i + 1) ts)

tracks_plain : (table : Table) (rate : SequenceRate) (ts : List TrackState) → is_plain (tracks_text table rate ts) ≡ true
tracks_plain table rate [] = refl
tracks_plain table rate (t ∷ ts) =
    both (track_text table rate (kind_at table 0) t) (later_tracks table rate 1 ts) (track_plain table rate (kind_at table 0) t) (later_tracks_plain table rate 1 ts)

pub document_plain : (table : Table) (tracks : List TrackState) (c : Counted) (start : ℕ) → is_plain (timeline_text table tracks c start) ≡ true
unfolding timeline_text
document_plain table tracks c start =
    both (time_text c.rate start) (timeline_tracks ++ (tracks_text table c.rate tracks ++ timeline_close)) (time_plain c.rate start)
    (both (tracks_text table c.rate tracks) timeline_close (tracks_plain table c.rate tracks) refl)
