-- The text of each part of a cut is that of its tree.
use Rattle.std.proofs.Common.{◌≡◌, ℕ, ◌-◌, ◌^◌, ◌<◌, List, [], ◌∷◌, ◌++◌, Some, None, ap, ◌∙◌, append_assoc, arith}
use Rattle.std.specs.Prelude.{codes, Option}
use Rattle.std.specs.List.{flat_map}
use Rattle.std.proofs.lemmas.List.{append-nil}
use Rattle.timecode12.specs.declared.rate.SequenceRate.{SequenceRate}
use Rattle.timecode12.specs.declared.rate.SequenceRate.TheVariants.{F23976, F24, F25, F2997, F30}
use Rattle.frame_meaning.specs.declared.cells.Mark.{Mark}
use Rattle.composables.specs.declared.media.Media.{Media}
use Rattle.composables.specs.declared.media.Kind.{Kind as TrackKind}
use Rattle.composables.specs.declared.media.Kind.TheVariants.{Video, Audio}
use Rattle.json_tree.specs.Tree.{Tree, trees}
use Rattle.json_tree.specs.Writing.{numeral_text, whole_text, digits_needed, escaped, quoted, joined, tree_text, trees_texts}
use Rattle.otio_text.specs.Documents.{time_text, range_open, range_start, brace, range_text, gap_open, gap_close, gap_text, clip_open, clip_reel, clip_range, clip_media, clip_close, clip_text, transition_open, transition_out, transition_text, nest_open, nest_children, layer_open, layer_children, track_open, track_children, kind_text, children_close, timeline_open, timeline_tracks, timeline_close}
use Rattle.otio_laws.specs.CutTrees.{time_tree, range_tree, gap_of_range, gap_tree, clip_of_ranges, clip_tree, transition_of_times, transition_tree, nest_of_layers, layer_of_items, kind_name, track_of_items, stack_of_tracks, timeline_of}
use Rattle.otio_laws.proofs.Decimals.{numeral_is_decimal}

-- ---- what stands between fixed texts, as the tree writes it and as the cut is written

two_shape : (s l t e : List ℕ) → (s ++ (l ++ (t ++ []))) ++ e ≡ s ++ (l ++ (t ++ e))
two_shape s l t e = simp (append_assoc, append-nil)

clip_shape : (q l b m r n s k : List ℕ)
    → (q ++ (l ++ (((((q ++ []) ++ b) ++ []) ++ b) ++ (m ++ (r ++ (n ++ (((((s ++ []) ++ b) ++ []) ++ b) ++ (k ++ [])))))))) ++ b
    ≡ q ++ (l ++ (q ++ (b ++ (b ++ (m ++ (r ++ (n ++ (s ++ (b ++ (b ++ (k ++ b)))))))))))
clip_shape q l b m r n s k = simp (append_assoc, append-nil)

list_shape : (j c b : List ℕ) → ((j ++ c) ++ []) ++ b ≡ j ++ (c ++ b)
list_shape j c b = simp (append_assoc, append-nil)

nest_shape : (r l j c b : List ℕ) → (r ++ (l ++ ((j ++ c) ++ []))) ++ b ≡ r ++ (l ++ (j ++ (c ++ b)))
nest_shape r l j c b = simp (append_assoc, append-nil)

timeline_shape : (t l j c b : List ℕ) → (t ++ (l ++ ((((j ++ c) ++ []) ++ b) ++ []))) ++ b ≡ t ++ (l ++ (j ++ (c ++ (b ++ b))))
timeline_shape t l j c b = simp (append_assoc, append-nil)

-- ---- times

pub time_spelled : (r : SequenceRate) (f : ℕ) → f < 10 ^ 18 → tree_text (time_tree r f) ≡ time_text r f
unfolding time_tree time_text numeral_text whole_text digits_needed
time_spelled F23976 f lt = rw (numeral_is_decimal f lt) (simp (append_assoc, append-nil))
time_spelled F24 f lt = rw (numeral_is_decimal f lt) (simp (append_assoc, append-nil))
time_spelled F25 f lt = rw (numeral_is_decimal f lt) (simp (append_assoc, append-nil))
time_spelled F2997 f lt = rw (numeral_is_decimal f lt) (simp (append_assoc, append-nil))
time_spelled F30 f lt = rw (numeral_is_decimal f lt) (simp (append_assoc, append-nil))

pub range_spelled : (r : SequenceRate) (from len : ℕ) → from < 10 ^ 18 → len < 10 ^ 18 → tree_text (range_tree r from len) ≡ range_text r from len
unfolding range_tree range_text
range_spelled r from len f l =
    ap (λ (x : List ℕ). range_open ++ x) (two_shape (tree_text (time_tree r len)) range_start (tree_text (time_tree r from)) brace)
    ∙ (λ i. range_open ++ (time_spelled r len l i ++ (range_start ++ (time_spelled r from f i ++ brace))))

-- ---- items without a nest, and transitions

gap_written : (range : Tree) → tree_text (gap_of_range range) ≡ gap_open ++ (tree_text range ++ gap_close)
gap_written range = ap (λ (x : List ℕ). gap_open ++ x) (append_assoc (tree_text range) (codes ",\"effects\":[],\"markers\":[]") brace)

pub gap_spelled : (r : SequenceRate) (len : ℕ) → len < 10 ^ 18 → tree_text (gap_tree r len) ≡ gap_text r len
unfolding gap_tree gap_text
gap_spelled r len l = gap_written (range_tree r 0 len) ∙ ap (λ (x : List ℕ). gap_open ++ (x ++ gap_close)) (range_spelled r 0 len (omega arith) l)

clip_written : (reel : List ℕ) (range there : Tree) → tree_text (clip_of_ranges reel range there)
    ≡ clip_open ++ (quoted reel ++ (clip_reel ++ (quoted reel ++ (clip_range ++ (tree_text range ++ (clip_media ++ (tree_text there ++ clip_close)))))))
clip_written reel range there =
    ap (λ (x : List ℕ). clip_open ++ 34 ∷ x)
    (clip_shape (flat_map escaped reel ++ 34 ∷ []) (codes ",\"metadata\":{\"cmx_3600\":{\"reel\":\"") brace (codes ",\"source_range\":") (tree_text range) clip_media (tree_text there) (codes ",\"active_media_reference_key\":\"DEFAULT_MEDIA\""))

pub clip_spelled : (r : SequenceRate) (reel : List ℕ) (source len : ℕ) (m : Media) → source < 10 ^ 18 → len < 10 ^ 18 → m.from < 10 ^ 18 → m.to < 10 ^ 18 → tree_text (clip_tree r reel source len m) ≡ clip_text r reel source len m
unfolding clip_tree clip_text
clip_spelled r reel source len m s l f t =
    clip_written reel (range_tree r source len) (range_tree r m.from (m.to - m.from))
    ∙ (λ i. clip_open ++ (quoted reel ++ (clip_reel ++ (quoted reel ++ (clip_range ++ (range_spelled r source len s l i ++ (clip_media ++ (range_spelled r m.from (m.to - m.from) f (omega arith) i ++ clip_close))))))))

transition_written : (before after : Tree) → tree_text (transition_of_times before after) ≡ transition_open ++ (tree_text before ++ (transition_out ++ (tree_text after ++ brace)))
transition_written before after = ap (λ (x : List ℕ). transition_open ++ x) (two_shape (tree_text before) transition_out (tree_text after) brace)

pub transition_spelled : (r : SequenceRate) (m : Mark) → m.a < 10 ^ 18 → m.b < 10 ^ 18 → tree_text (transition_tree r m) ≡ transition_text r m
unfolding transition_tree transition_text
transition_spelled r m a b =
    transition_written (time_tree r m.a) (time_tree r m.b)
    ∙ (λ i. transition_open ++ (time_spelled r m.a a i ++ (transition_out ++ (time_spelled r m.b b i ++ brace))))

-- ---- nests, layers, tracks and the timeline

-- what stands in a list
abbrev pub listed : List Tree → List ℕ
listed ts = joined (trees_texts (trees ts))

pub nest_written : (range : Tree) (layers : List Tree) → tree_text (nest_of_layers range layers) ≡ nest_open ++ (tree_text range ++ (nest_children ++ (listed layers ++ children_close)))
unfolding nest_of_layers
nest_written range layers = ap (λ (x : List ℕ). nest_open ++ x) (nest_shape (tree_text range) nest_children (listed layers) (codes "]") brace)

pub layer_written : (range : Tree) (items : List Tree) → tree_text (layer_of_items range items) ≡ layer_open ++ (tree_text range ++ (layer_children ++ (listed items ++ children_close)))
unfolding layer_of_items
layer_written range items = ap (λ (x : List ℕ). layer_open ++ x) (nest_shape (tree_text range) layer_children (listed items) (codes "]") brace)

pub track_written : (kind : Option TrackKind) (items : List Tree) → tree_text (track_of_items (kind_name kind) items) ≡ track_open ++ (kind_text kind ++ (track_children ++ (listed items ++ children_close)))
unfolding track_of_items
track_written (Some Audio) items = ap (λ (x : List ℕ). track_open ++ (kind_text (Some Audio) ++ (track_children ++ x))) (list_shape (listed items) (codes "]") brace)
track_written (Some Video) items = ap (λ (x : List ℕ). track_open ++ (kind_text (Some Video) ++ (track_children ++ x))) (list_shape (listed items) (codes "]") brace)
track_written None items = ap (λ (x : List ℕ). track_open ++ (kind_text None ++ (track_children ++ x))) (list_shape (listed items) (codes "]") brace)

pub timeline_written : (start : Tree) (tracks : List Tree) → tree_text (timeline_of start tracks) ≡ timeline_open ++ (tree_text start ++ (timeline_tracks ++ (listed tracks ++ timeline_close)))
unfolding timeline_of stack_of_tracks
timeline_written start tracks = ap (λ (x : List ℕ). timeline_open ++ x) (timeline_shape (tree_text start) timeline_tracks (listed tracks) (codes "]") brace)
