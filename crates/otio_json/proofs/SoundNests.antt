-- Tracks, layers and nests that are read are sound.
use Rattle.std.proofs.Common.{◌≡◌, ℕ, zero, suc, ◌+◌, ◌-◌, ◌≤◌, max, int_le, codes, nat_le, unsigned_abs, pos, Bool, true, false, ◌&&◌, List, [], ◌∷◌, ◌++◌, length, slice_get, option_map, Option, Some, None, IfSome, Result, Ok, Err, IfOk, refl, sym, ap, arith, subst, if◌then◌else◌}
use Rattle.std.specs.List.{All}
use Rattle.std.proofs.lemmas.List.Elements.{All-append, All-weaker, All-cons, All-nil, All-head, All-tail}
use Rattle.frame_meaning.specs.declared.frames.Side.TheVariants.{Dark}
use Rattle.composables.specs.declared.media.Table.{Table}
use Rattle.composables.specs.declared.media.Layer.{Layer}
use Rattle.composables.specs.declared.media.Nest.{Nest}
use Rattle.composables.specs.Items.{items_of}
use Rattle.composables.specs.TrackState.{TrackState}
use Rattle.json_tokens.specs.Reading.{◌>>=◌}
use Rattle.json_tree.specs.Tree.{Tree}
use Rattle.json_tree.specs.Parts.{place_of}
use Rattle.otio_tracks.specs.declared.faults.DocCode.{DocCode}
use Rattle.otio_tracks.specs.declared.faults.DocCode.TheVariants.{O14}
use Rattle.otio_tracks.specs.declared.values.Schema.{Schema}
use Rattle.otio_tracks.specs.declared.values.Schema.TheVariants.{Clip, Gap, Stack, Track, Transition, Other}
use Rattle.otio_tracks.specs.declared.times.Span.{Span}
use Rattle.otio_tracks.specs.declared.parts.Part.{Part}
use Rattle.otio_tracks.specs.Values.{given, needed, list_read, schema_read}
use Rattle.otio_tracks.specs.Times.{gap_read}
use Rattle.otio_tracks.specs.Parts.{head_read, trim_read, frames_within}
use Rattle.otio_tracks.specs.Rows.{RowState, empty_row, waiting_with, row_with, row_end}
use Rattle.otio_tracks.specs.Building.{track_fit}
use Rattle.otio_tracks.specs.SoundParts.{SideLies}
use Rattle.otio_json.specs.declared.nests.Nesting.{Nesting}
use Rattle.otio_json.specs.declared.nests.Nesting.TheVariants.{Forbidden, Levels}
use Rattle.otio_json.specs.Nests.{gap_if, gap_part_read, whole_layer, nest_frames, trimmed_layer, layer_of, longest_from, Inner, allowed, with_nest, nest_item_in, item_in, add_item, child_by, child_in, row_in, track_in, track_layer_in, item_layer_in, layer_by, layer_in, next_layer, layers_in, one_layer_in, layers_by, nest_in, levels_in, nests_in, track_read}
use Rattle.otio_json.specs.Soundness.{SideHas, EachHas, IsDeep, IsReadTrack, IsSoundLayer, IsSoundNest, IsSoundTable, IsSoundMedia}
use Rattle.otio_json.proofs.Growth.{get_left, get_last, Keeps, HasBounds, layer_kept, nest_kept, nest_more, media_kept, Grown, grown_self, grown_on}
use Rattle.otio_json.proofs.SoundClips.{IsRead, ReadFrom, clip_sound}
use Rattle.otio_json.proofs.SoundTracks.{IsNumbered, fit_by, IsReadRow, empty_row_read, row_kept, waiting_row, row_more, AreRead, row_parts}
use Rattle.otio_json.proofs.Nesting.{levels_of}
use Rattle.otio_json.proofs.Steps.{after, past, chosen, each_keeps, and_parts}

-- ---- layers

pub whole_sound : (table : Table) (levels : ℕ) (t : TrackState) → IsReadTrack table levels t → IsSoundLayer table levels (whole_layer t)
whole_sound table levels t h = record { track = h; ordered = omega arith; within = omega arith }

within_by : (span : Span) (most : ℕ) (b : Bool) → (int_le (pos 0) span.start && nat_le (unsigned_abs span.start + span.len) most) ≡ b
    → IfSome (if b then Some (unsigned_abs span.start, span.len) else None) (λ (f : ℕ × ℕ). f.0 + f.1 ≤ most)
within_by span most true e = nat_le_true (unsigned_abs span.start + span.len) most (and_parts (int_le (pos 0) span.start) (nat_le (unsigned_abs span.start + span.len) most) e).1 where
  nat_le_true : (a b : ℕ) → nat_le a b ≡ true → a ≤ b
  nat_le_true a b t = grind arith
within_by span most false e = tt

shown_within : (length : ℕ) (trim : Option Span) → IfOk (nest_frames length trim) (λ f. f.0 + f.1 ≤ length)
shown_within length None = omega arith
shown_within length (Some span) = chosen (frames_within length span) O14 span.at (λ f. f.0 + f.1 ≤ length) (within_by span length (int_le (pos 0) span.start && nat_le (unsigned_abs span.start + span.len) length) refl)

trimmed_sound : (table : Table) (levels : ℕ) (t : TrackState) (trim : Option Span) → IsReadTrack table levels t → IfOk (trimmed_layer t trim) (IsSoundLayer table levels)
trimmed_sound table levels t trim h =
    after (nest_frames (length t.cells) trim) _ (λ f. f.0 + f.1 ≤ length t.cells) (IsSoundLayer table levels) (shown_within (length t.cells) trim) (λ f w.
    record { track = h; ordered = omega arith; within = w })

-- a layer that is one item
item_sound : (table : Table) (levels number : ℕ) (p : Part) (at : ℕ) → IsRead table levels p → IfOk (layer_of number p at) (IsSoundLayer table levels)
item_sound table levels number p at h =
    after (row_with empty_row p) (λ row. row_end row >>= λ parts. track_fit number parts at >>= λ track. Ok (whole_layer track)) (IsReadRow table levels) (IsSoundLayer table levels) (row_more table levels empty_row p (empty_row_read table levels) h) (λ row r.
    after (row_end row) (λ parts. track_fit number parts at >>= λ track. Ok (whole_layer track)) (AreRead table levels) (IsSoundLayer table levels) (row_parts table levels row r) (λ ps a.
    after (track_fit number ps at) (λ track. Ok (whole_layer track)) (IsNumbered table levels number) (IsSoundLayer table levels) (fit_by table levels number ps at a.0 a.1) (λ t n.
    whole_sound table levels t n.read)))

-- ---- what stands in a nest is read so

-- a nest's own part, where nests may stand so deep
abbrev pub OwnIs : Inner → ℕ → Type 0
OwnIs own levels = (schema : Schema) (table : Table) (t : Tree) → IsSoundTable table → IfOk (own schema table t) (λ r. Grown table r.1 × IsSoundNest r.1 levels r.0)

abbrev pub InnerIs : Result Inner DocCode → ℕ → Type 0
InnerIs (Err code) levels = Unit {0}
InnerIs (Ok own) levels = (k : ℕ) × (levels ≡ suc k) × (k ≤ 7) × OwnIs own k

-- ---- an item that is a nest

with_sound : (table : Table) (nest : Nest) (k : ℕ) → k ≤ 7 → IsSoundTable table → IsSoundNest table k nest → Grown table (record table { nests = table.nests ++ nest ∷ [] })
with_sound table nest k le h n =
    let new : Table = record table { nests = table.nests ++ nest ∷ [] } in
    let keeps : Keeps table new = record { reels = omega arith; media = λ i m e. e; nests = λ i m e. get_left table.nests (nest ∷ []) i m e } in
    record {
      keeps = keeps;
      kinds = refl;
      sound = record {
        media = All-weaker (IsSoundMedia table) (IsSoundMedia new) (media_kept table new keeps) table.media h.media;
        nests = All-append (IsSoundNest new 7) table.nests (nest ∷ [])
            (All-weaker (IsSoundNest table 7) (IsSoundNest new 7) (nest_kept table new keeps 7) table.nests h.nests)
            (All-cons (IsSoundNest new 7) nest [] (nest_more new k 7 le nest (nest_kept table new keeps k nest n)) (All-nil (IsSoundNest new 7)));
      };
    }

longest_by : (table : Table) (levels most : ℕ) (ls : List Layer) → most ≤ 2592000 → All (IsSoundLayer table levels) ls → longest_from most ls ≤ 2592000
longest_by table levels most [] le h = le
longest_by table levels most (l ∷ ls) le h =
    let first = All-head (IsSoundLayer table levels) l ls h in
    longest_by table levels (max most (l.to - l.from)) ls (omega (arith, le, first.within, first.track.good.frames)) (All-tail (IsSoundLayer table levels) l ls h)

nest_read_sound : (table : Table) (nest : Nest) (k : ℕ) (frames : ℕ × ℕ) → k ≤ 7 → IsSoundTable table → IsSoundNest table k nest → frames.0 + frames.1 ≤ nest.length
    → ReadFrom table (suc k) (with_nest table nest frames)
nest_read_sound table nest k frames le h n w =
    let new : Table = record table { nests = table.nests ++ nest ∷ [] } in
    let grown = with_sound table nest k le h n in
    let own : IsSoundNest new k nest = nest_kept table new grown.keeps k nest n in
    let short : nest.length ≤ 2592000 = omega (arith, n.as_long, longest_by table k 0 nest.layers (omega arith) n.layers) in
    let last : slice_get new.nests (length table.nests) ≡ Some nest = get_last table.nests nest in (
      grown,
      record {
        item = λ more. (omega arith, omega (arith, w), omega (arith, short));
        placed = record {
          bounds = ap (option_map (λ (e : Nest). (0, e.length))) last;
          deep = (nest, last, All-weaker (IsSoundLayer new k) (λ (l : Layer). EachHas (IsDeep new.nests k) (items_of l.track.cells)) (λ l s. s.track.deep) nest.layers own.layers);
        };
      },
    )

own_then : (rate : ℕ × ℕ) (inner : Result Inner DocCode) (levels : ℕ) (at : ℕ) → InnerIs inner levels → IfOk (allowed inner at) (λ own. InnerIs (Ok own) levels)
own_then rate (Ok own) levels at h = h
own_then rate (Err code) levels at h = tt

gap_then : (rate : ℕ × ℕ) (at : ℕ) (o : Option Tree) → IfOk (gap_if rate at o) (λ p. p.first ≡ Dark)
gap_then rate at None = tt
gap_then rate at (Some t) = past (gap_read rate t) _ _ (λ len. refl)

gap_sound : (rate : ℕ × ℕ) (t : Tree) → IfOk (gap_part_read rate t) (λ p. p.first ≡ Dark)
unfolding gap_part_read
gap_sound rate t = gap_then rate (place_of t) (given (codes "source_range") t)

dark_read : (table : Table) (levels : ℕ) (p : Part) → p.first ≡ Dark → IsRead table levels p
dark_read table levels p e = record {
  item = λ more. subst (λ s. SideLies s p.len p.from p.to 0 0) (sym e) tt;
  placed = record { bounds = subst (λ s. HasBounds table s p.from p.to) (sym e) tt; deep = subst (λ s. SideHas (IsDeep table.nests levels) s) (sym e) tt };
}

grown_placed : (a b : Table) (levels : ℕ) (r : Part × Table) → Grown a b → ReadFrom b levels r → ReadFrom a levels r
grown_placed a b levels r g h = (grown_on a b r.1 g h.0, h.1)

-- ---- the parts, where nests are read so

-- a row, layers, a track that were read, and the table since then
abbrev pub RowFrom : Table → ℕ → RowState × Table → Type 0
RowFrom table levels s = Grown table s.1 × IsReadRow s.1 levels s.0

abbrev pub LayersFrom : Table → ℕ → List Layer × Table → Type 0
LayersFrom table levels s = Grown table s.1 × All (IsSoundLayer s.1 levels) s.0

abbrev pub LayerFrom : Table → ℕ → Layer × Table → Type 0
LayerFrom table levels s = Grown table s.1 × IsSoundLayer s.1 levels s.0

abbrev pub TrackFrom : Table → ℕ → ℕ → TrackState × Table → Type 0
TrackFrom table levels number s = Grown table s.1 × IsNumbered s.1 levels number s.0

module _ (rate : ℕ × ℕ) (inner : Result Inner DocCode) (levels : ℕ) (own_is : InnerIs inner levels) where
  nest_item_sound : (schema : Schema) (table : Table) (t : Tree) → IsSoundTable table → IfOk (nest_item_in rate inner schema table t) (ReadFrom table levels)
  nest_item_sound schema table t h =
      after (allowed inner (place_of t)) _ (λ own. InnerIs (Ok own) levels) (ReadFrom table levels) (own_then rate inner levels (place_of t) own_is) (λ own k.
      past (head_read t) _ _ (λ x. past (trim_read rate t) _ _ (λ trim.
      after (own schema table t) _ (λ r. Grown table r.1 × IsSoundNest r.1 k.0 r.0) (ReadFrom table levels) (k.3 schema table t h) (λ nest n.
      after (nest_frames nest.0.length trim) _ (λ f. f.0 + f.1 ≤ nest.0.length) (ReadFrom table levels) (shown_within nest.0.length trim) (λ f w.
      grown_placed table nest.1 levels (with_nest nest.1 nest.0 f) n.0 (subst (λ m. ReadFrom nest.1 m (with_nest nest.1 nest.0 f)) (sym k.1) (nest_read_sound nest.1 nest.0 k.0 f k.2 n.0.sound n.1 w)))))))

  item_in_sound : (schema : Schema) (at : ℕ) (table : Table) (t : Tree) → IsSoundTable table → IfOk (item_in rate inner schema at table t) (ReadFrom table levels)
  item_in_sound (Clip references) at table t h = past (head_read t) _ _ (λ x. clip_sound rate references table levels t h)
  item_in_sound Gap at table t h =
      past (head_read t) _ _ (λ x. after (gap_part_read rate t) _ (λ p. p.first ≡ Dark) (ReadFrom table levels) (gap_sound rate t) (λ p e.
      (grown_self table h, dark_read table levels p e)))
  item_in_sound Stack at table t h = nest_item_sound Stack table t h
  item_in_sound Track at table t h = nest_item_sound Track table t h
  item_in_sound Transition at table t h = tt
  item_in_sound Other at table t h = tt

  add_sound : (table : Table) (found : Schema × ℕ) (s : RowState × Table) (t : Tree) → RowFrom table levels s → IfOk (add_item rate inner found s t) (RowFrom table levels)
  add_sound table found s t h =
      after (item_in rate inner found.0 found.1 s.1 t) _ (ReadFrom s.1 levels) (RowFrom table levels) (item_in_sound found.0 found.1 s.1 t h.0.sound) (λ item r.
      after (row_with s.0 item.0) _ (IsReadRow item.1 levels) (RowFrom table levels) (row_more item.1 levels s.0 item.0 (row_kept s.1 item.1 r.0.keeps levels s.0 h.1) r.1) (λ row k.
      (grown_on table s.1 item.1 h.0 r.0, k)))

  child_sound : (table : Table) (found : Schema × ℕ) (s : RowState × Table) (t : Tree) → RowFrom table levels s → IfOk (child_by rate inner found s t) (RowFrom table levels)
  child_sound table (Transition, at) s t h = (h.0, waiting_row s.1 levels s.0 (Some (waiting_with rate s.0.waiting t)) h.1)
  child_sound table (Clip references, at) s t h = add_sound table (Clip references, at) s t h
  child_sound table (Gap, at) s t h = add_sound table (Gap, at) s t h
  child_sound table (Stack, at) s t h = add_sound table (Stack, at) s t h
  child_sound table (Track, at) s t h = add_sound table (Track, at) s t h
  child_sound table (Other, at) s t h = add_sound table (Other, at) s t h

  row_sound : (table : Table) (children : List Tree) → IsSoundTable table → IfOk (row_in rate inner table children) (RowFrom table levels)
  row_sound table children h =
      each_keeps (child_in rate inner) (RowFrom table levels) (λ s t k. past (schema_read t) _ _ (λ found. child_sound table found s t k)) (empty_row, table) children (grown_self table h, empty_row_read table levels)

  track_sound : (number : ℕ) (table : Table) (children : List Tree) (at : ℕ) → IsSoundTable table → IfOk (track_in rate inner number table children at) (TrackFrom table levels number)
  track_sound number table children at h =
      after (row_in rate inner table children) _ (RowFrom table levels) (TrackFrom table levels number) (row_sound table children h) (λ s r.
      after (row_end s.0) _ (AreRead s.1 levels) (TrackFrom table levels number) (row_parts s.1 levels s.0 r.1) (λ ps a.
      after (track_fit number ps at) _ (IsNumbered s.1 levels number) (TrackFrom table levels number) (fit_by s.1 levels number ps at a.0 a.1) (λ track n.
      (r.0, n))))

  track_layer_sound : (number : ℕ) (table : Table) (t : Tree) → IsSoundTable table → IfOk (track_layer_in rate inner number table t) (LayerFrom table levels)
  track_layer_sound number table t h =
      past (head_read t) _ _ (λ x. past (trim_read rate t) _ _ (λ trim. past (needed (codes "children") t) _ _ (λ children_text. past (list_read children_text) _ _ (λ children.
      after (track_in rate inner number table children (place_of t)) _ (TrackFrom table levels number) (LayerFrom table levels) (track_sound number table children (place_of t) h) (λ track n.
      after (trimmed_layer track.0 trim) _ (IsSoundLayer track.1 levels) (LayerFrom table levels) (trimmed_sound track.1 levels track.0 trim n.1.read) (λ layer l.
      (n.0, l)))))))

  item_layer_sound : (found : Schema × ℕ) (number : ℕ) (table : Table) (t : Tree) → IsSoundTable table → IfOk (item_layer_in rate inner found number table t) (LayerFrom table levels)
  item_layer_sound found number table t h =
      after (item_in rate inner found.0 found.1 table t) _ (ReadFrom table levels) (LayerFrom table levels) (item_in_sound found.0 found.1 table t h) (λ item r.
      after (layer_of number item.0 (place_of t)) _ (IsSoundLayer item.1 levels) (LayerFrom table levels) (item_sound item.1 levels number item.0 (place_of t) r.1) (λ layer l.
      (r.0, l)))

  layer_sound : (found : Schema × ℕ) (number : ℕ) (table : Table) (t : Tree) → IsSoundTable table → IfOk (layer_by rate inner found number table t) (LayerFrom table levels)
  layer_sound (Track, at) number table t h = track_layer_sound number table t h
  layer_sound (Clip references, at) number table t h = item_layer_sound (Clip references, at) number table t h
  layer_sound (Gap, at) number table t h = item_layer_sound (Gap, at) number table t h
  layer_sound (Stack, at) number table t h = item_layer_sound (Stack, at) number table t h
  layer_sound (Transition, at) number table t h = item_layer_sound (Transition, at) number table t h
  layer_sound (Other, at) number table t h = item_layer_sound (Other, at) number table t h

  next_sound : (table : Table) (s : List Layer × Table) (t : Tree) → LayersFrom table levels s → IfOk (next_layer rate inner s t) (LayersFrom table levels)
  next_sound table s t h =
      after (layer_in rate inner (length s.0) s.1 t) _ (LayerFrom s.1 levels) (LayersFrom table levels) (past (schema_read t) _ _ (λ found. layer_sound found (length s.0) s.1 t h.0.sound)) (λ layer l. (
        grown_on table s.1 layer.1 h.0 l.0,
        All-append (IsSoundLayer layer.1 levels) s.0 (layer.0 ∷ []) (All-weaker (IsSoundLayer s.1 levels) (IsSoundLayer layer.1 levels) (layer_kept s.1 layer.1 l.0.keeps levels) s.0 h.1)
            (All-cons (IsSoundLayer layer.1 levels) layer.0 [] l.1 (All-nil (IsSoundLayer layer.1 levels))),
      ))

  layers_sound : (table : Table) (children : List Tree) → IsSoundTable table → IfOk (layers_in rate inner table children) (LayersFrom table levels)
  layers_sound table children h = each_keeps (next_layer rate inner) (LayersFrom table levels) (next_sound table) ([], table) children (grown_self table h, All-nil (IsSoundLayer table levels))

  one_sound : (table : Table) (at : ℕ) (children : List Tree) → IsSoundTable table → IfOk (one_layer_in rate inner table at children) (LayersFrom table levels)
  one_sound table at children h =
      after (track_in rate inner 0 table children at) _ (TrackFrom table levels 0) (LayersFrom table levels) (track_sound 0 table children at h) (λ track n.
      (n.0, All-cons (IsSoundLayer track.1 levels) (whole_layer track.0) [] (whole_sound track.1 levels track.0 n.1.read) (All-nil (IsSoundLayer track.1 levels))))

  by_schema : (schema : Schema) (table : Table) (at : ℕ) (children : List Tree) → IsSoundTable table → IfOk (layers_by rate inner schema table at children) (LayersFrom table levels)
  by_schema Stack table at children h = layers_sound table children h
  by_schema (Clip references) table at children h = one_sound table at children h
  by_schema Gap table at children h = one_sound table at children h
  by_schema Track table at children h = one_sound table at children h
  by_schema Transition table at children h = one_sound table at children h
  by_schema Other table at children h = one_sound table at children h

  own_sound : OwnIs (nest_in rate inner) levels
  own_sound schema table t h =
      past (needed (codes "children") t) _ _ (λ children_text. past (list_read children_text) _ _ (λ children.
      after (layers_by rate inner schema table (place_of t) children) _ (LayersFrom table levels) (λ r. Grown table r.1 × IsSoundNest r.1 levels r.0) (by_schema schema table (place_of t) children h) (λ layers l.
      (l.0, record { layers = l.1; as_long = refl }))))

-- ---- nests in one another

levels_sound : (rate : ℕ × ℕ) (levels : ℕ) → levels ≤ 8 → InnerIs (levels_in rate levels) levels
unfolding levels_in
levels_sound rate zero le = tt
levels_sound rate (suc k) le = (k, refl, omega (arith, le), own_sound rate (levels_in rate k) k (levels_sound rate k (omega (arith, le))))

nests_sound : (rate : ℕ × ℕ) (nesting : Nesting) → levels_of nesting ≤ 8 → InnerIs (nests_in rate nesting) (levels_of nesting)
nests_sound rate Forbidden le = tt
nests_sound rate (Levels n) le = levels_sound rate n le

pub track_read_sound : (rate : ℕ × ℕ) (nesting : Nesting) (number : ℕ) (table : Table) (children : List Tree) (at : ℕ) → levels_of nesting ≤ 8 → IsSoundTable table
    → IfOk (track_read rate nesting number table children at) (TrackFrom table (levels_of nesting) number)
unfolding track_read
track_read_sound rate nesting number table children at le h = track_sound rate (nests_in rate nesting) (levels_of nesting) (nests_sound rate nesting le) number table children at h
