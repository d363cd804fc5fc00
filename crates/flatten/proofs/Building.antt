-- Lists of channels, made one by one.
use Rattle.std.proofs.Common.{◌≡◌, ℕ, zero, suc, ◌+◌, ◌-◌, ◌<◌, ◌≤◌, ◌^◌, Bool, true, false, cond, List, [], ◌∷◌, ◌++◌, map, length, get_or, take, drop, slice_get, refl, sym, ap, ◌∙◌, arith, subst, append_assoc}
use Rattle.std.proofs.lemmas.List.{append-nil, length-map, map-append}
use Rattle.std.proofs.lemmas.List.FromFn.{length-range_with_len}
use Rattle.std.proofs.Math.ListN.{drop_of_length-le}
use Rattle.std.proofs.Math.Seq.{take-length}
use Rattle.std.specs.List.{range_with_len}
use Rattle.frame_meaning.specs.declared.cells.Cell.{Cell}
use Rattle.frame_meaning.specs.declared.frames.Frame.{Frame}
use Rattle.frame_meaning.specs.declared.frames.Run.{Run}
use Rattle.frame_meaning.specs.Render.{render, shown_at}
use Rattle.composables.specs.declared.media.Kind.{Kind}
use Rattle.composables.specs.declared.media.Layer.{Layer}
use Rattle.composables.specs.declared.media.Media.{Media}
use Rattle.composables.specs.declared.media.Nest.{Nest}
use Rattle.composables.specs.declared.media.Table.{Table}
use Rattle.composables.specs.TrackState.{TrackState}
use Rattle.dissolves.specs.Pieces.{cut}
use Rattle.flatten.specs.Stacks.{longest, stacked, topmost}
use Rattle.flatten.specs.Nests.{layer_frames, nest_frames, nests_behind, resolved, track_frames}
use Rattle.flatten.specs.Channels.{AreSound, EachIsShort, EachLiesInTrack, IsShort, LiesInTrack, channels, is_of_kind, of_kind, same_kind}
use Rattle.flatten.specs.Strips.{AllFit, AreBelow, AreFit, frames_of, laid_on, padded}
use Rattle.flatten.proofs.Over.{drop_at}
use Rattle.flatten.proofs.Stacking.{all_stacked, first_stacked}

-- one channel more

pub strip_more : (all new : List (List (Run ℕ))) (rs : List (Run ℕ)) (fs : List (Frame ℕ)) → new ≡ all ++ rs ∷ [] → frames_of rs ≡ fs → map frames_of new ≡ map frames_of all ++ fs ∷ []
strip_more all new rs fs pushed are =
    ap (map frames_of) pushed ∙ (map-append frames_of all (rs ∷ []) ∙ ap (λ (gs : List (Frame ℕ)). map frames_of all ++ gs ∷ []) are)

pub fit_more : (all new : List (List (Run ℕ))) (rs : List (Run ℕ)) → new ≡ all ++ rs ∷ [] → AllFit all → AreFit rs → AllFit new
fit_more all new rs pushed f h = subst AllFit (sym pushed) (push all f) where
  push : (qss : List (List (Run ℕ))) → AllFit qss → AllFit (qss ++ rs ∷ [])
  push [] f = (h, tt)
  push (qs ∷ qss) f = (f.0, push qss f.1)

pub still_meant : (done more rest meant : List (List (Frame ℕ))) (fs : List (Frame ℕ)) → more ≡ done ++ fs ∷ [] → done ++ fs ∷ rest ≡ meant → more ++ rest ≡ meant
still_meant done more rest meant fs is h = ap (λ (xs : List (List (Frame ℕ))). xs ++ rest) is ∙ (append_assoc done (fs ∷ []) rest ∙ h)

pub drop_read : {A : Type 0} (xs : List A) (i : ℕ) (x : A) → i < length xs → x ≡ get_or xs i x → drop i xs ≡ x ∷ drop (i + 1) xs
drop_read xs i x h is =
    let past : suc i ≡ i + 1 = omega arith in
    drop_at xs i x h ∙ (ap (λ y. y ∷ drop (suc i) xs) (sym is) ∙ ap (λ (k : ℕ). x ∷ drop k xs) past)

-- layers and nests

pub layer_lies : (ls : List Layer) (i : ℕ) (l : Layer) → i < length ls → l ≡ get_or ls i l → EachLiesInTrack ls → LiesInTrack l
layer_lies [] i l h is e = absurd (omega arith)
layer_lies (k ∷ ls) zero l h is e = subst LiesInTrack (sym is) e.0
layer_lies (k ∷ ls) (suc i) l h is e = layer_lies ls i l (omega arith) is e.1

pub nest_lies : (ns : List Nest) (i : ℕ) (n : Nest) → i < length ns → n ≡ get_or ns i n → AreSound ns → EachLiesInTrack n.layers
nest_lies [] i n h is e = absurd (omega arith)
nest_lies (m ∷ ns) zero n h is e = subst (λ (x : Nest). EachLiesInTrack x.layers) (sym is) e.0
nest_lies (m ∷ ns) (suc i) n h is e = nest_lies ns i n (omega arith) is e.1

pub next_layer : (media : List Media) (nests : List (List (Frame ℕ))) (ls : List Layer) (i : ℕ) (l : Layer) (done more meant : List (List (Frame ℕ))) → i < length ls → l ≡ get_or ls i l
    → more ≡ done ++ layer_frames media nests l ∷ [] → done ++ map (layer_frames media nests) (drop i ls) ≡ meant → more ++ map (layer_frames media nests) (drop (i + 1) ls) ≡ meant
next_layer media nests ls i l done more meant h is pushed same =
    still_meant done more (map (layer_frames media nests) (drop (i + 1) ls)) meant (layer_frames media nests l) pushed
    (sym (ap (λ (ks : List Layer). done ++ map (layer_frames media nests) ks) (drop_read ls i l h is)) ∙ same)

pub next_nest : (media : List Media) (now ns : List Nest) (i : ℕ) (n : Nest) (done more meant : List (List (Frame ℕ))) → now ≡ ns → i < length now → n ≡ get_or now i n
    → more ≡ done ++ nest_frames media done n ∷ [] → nests_behind media done (drop i ns) ≡ meant → nests_behind media more (drop (i + 1) ns) ≡ meant
next_nest media now ns i n done more meant these h is pushed same =
    ap (λ (xs : List (List (Frame ℕ))). nests_behind media xs (drop (i + 1) ns)) pushed
    ∙ (ap (λ (ms : List Nest). nests_behind media (done ++ nest_frames media done n ∷ []) (drop (i + 1) ms)) (sym these)
    ∙ (sym (ap (nests_behind media done) (drop_read now i n h is))
    ∙ (ap (λ (ms : List Nest). nests_behind media done (drop i ms)) these ∙ same)))

-- the tracks of a kind

pub of_kind_more : (kind : Kind) (ks : List Kind) (ts : List TrackState) (i : ℕ) (t : TrackState) → i < length ts → t ≡ get_or ts i t → is_of_kind kind (slice_get ks i) ≡ true
    → of_kind kind (drop i ks) (drop i ts) ≡ t ∷ of_kind kind (drop (suc i) ks) (drop (suc i) ts)
of_kind_more kind [] ts zero t h is k = absurd cc
of_kind_more kind [] ts (suc i) t h is k = absurd cc
of_kind_more kind (j ∷ ks) [] i t h is k = absurd (omega arith)
of_kind_more kind (j ∷ ks) (u ∷ ts) zero t h is k =
    ap (λ (b : Bool). cond b (u ∷ of_kind kind ks ts) (of_kind kind ks ts)) k ∙ ap (λ (x : TrackState). x ∷ of_kind kind ks ts) (sym is)
of_kind_more kind (j ∷ ks) (u ∷ ts) (suc i) t h is k = of_kind_more kind ks ts i t (omega arith) is k

pub of_kind_same : (kind : Kind) (ks : List Kind) (ts : List TrackState) (i : ℕ) → i < length ts → is_of_kind kind (slice_get ks i) ≡ false
    → of_kind kind (drop i ks) (drop i ts) ≡ of_kind kind (drop (suc i) ks) (drop (suc i) ts)
of_kind_same kind [] ts zero h k = refl
of_kind_same kind [] ts (suc i) h k = refl
of_kind_same kind (j ∷ ks) [] i h k = absurd (omega arith)
of_kind_same kind (j ∷ ks) (u ∷ ts) zero h k = ap (λ (b : Bool). cond b (u ∷ of_kind kind ks ts) (of_kind kind ks ts)) k
of_kind_same kind (j ∷ ks) (u ∷ ts) (suc i) h k = of_kind_same kind ks ts i (omega arith) k

pub of_kind_end : (kind : Kind) (ks : List Kind) (ts : List TrackState) (i : ℕ) → length ts ≤ i → of_kind kind (drop i ks) (drop i ts) ≡ []
of_kind_end kind ks ts i h = ap (of_kind kind (drop i ks)) (drop_of_length-le ts h) ∙ none (drop i ks) where
  none : (js : List Kind) → of_kind kind js [] ≡ []
  none [] = refl
  none (j ∷ js) = refl

pub track_short : (ts : List TrackState) (i : ℕ) (t : TrackState) → i < length ts → t ≡ get_or ts i t → EachIsShort ts → IsShort t
track_short [] i t h is e = absurd (omega arith)
track_short (u ∷ ts) zero t h is e = subst IsShort (sym is) e.0
track_short (u ∷ ts) (suc i) t h is e = track_short ts i t (omega arith) is e.1

pub length_render : (cells : List Cell) → length (render cells) ≡ length cells
length_render cells = length-map (range_with_len 0 (length cells)) (shown_at cells) ∙ length-range_with_len 0 (length cells)

pub whole_track : (cells : List Cell) (n : ℕ) → n ≡ length cells → cut 0 n (render cells) ≡ render cells
whole_track cells n is =
    let e : n - 0 ≡ length (render cells) = omega (arith, is, length_render cells) in
    ap (λ (k : ℕ). take k (render cells)) e ∙ take-length (render cells)

length_track : (media : List Media) (nests : List (List (Frame ℕ))) (t : TrackState) → length (track_frames media nests t) ≡ length t.cells
length_track media nests t = length-map (render t.cells) (resolved media nests) ∙ length_render t.cells

short_either : (b : Bool) (t : TrackState) (ts : List TrackState) → IsShort t → EachIsShort ts → EachIsShort (cond b (t ∷ ts) ts)
short_either true t ts h e = (h, e)
short_either false t ts h e = e

pub kind_short : (kind : Kind) (ks : List Kind) (ts : List TrackState) → EachIsShort ts → EachIsShort (of_kind kind ks ts)
kind_short kind [] ts e = tt
kind_short kind (k ∷ ks) [] e = tt
kind_short kind (k ∷ ks) (t ∷ ts) e = short_either (same_kind k kind) t (of_kind kind ks ts) e.0 (kind_short kind ks ts e.1)

tracks_below : (media : List Media) (nests : List (List (Frame ℕ))) (ts : List TrackState) → EachIsShort ts → AreBelow (2 ^ 32) (map (track_frames media nests) ts)
tracks_below media nests [] e = tt
tracks_below media nests (t ∷ ts) e = let h : length (track_frames media nests t) < 2 ^ 32 = omega (arith, length_track media nests t, e.0) in (h, tracks_below media nests ts e.1)

pub channels_below : (kind : Kind) (table : Table) (nests : List (List (Frame ℕ))) (ts : List TrackState) → EachIsShort ts → AreBelow (2 ^ 32) (map (track_frames table.media nests) (of_kind kind table.kinds ts))
channels_below kind table nests ts e = tracks_below table.media nests (of_kind kind table.kinds ts) (kind_short kind table.kinds ts e)

pub longest_below : (fss : List (List (Frame ℕ))) → AreBelow (2 ^ 32) fss → longest fss < 2 ^ 32
longest_below [] h = omega arith
longest_below (fs ∷ fss) h = omega (arith, h.0, longest_below fss h.1)

pub below_get : (fss : List (List (Run ℕ))) (i : ℕ) (rs : List (Run ℕ)) → i < length fss → rs ≡ get_or fss i rs → AreBelow (2 ^ 32) (map frames_of fss) → length (frames_of rs) < 2 ^ 32
below_get [] i rs h is b = absurd (omega arith)
below_get (qs ∷ qss) zero rs h is b = omega (arith, ap (λ (x : List (Run ℕ)). length (frames_of x)) is, b.0)
below_get (qs ∷ qss) (suc i) rs h is b = below_get qss i rs (omega arith) is b.1

-- what is made of strips, one after another

pub nest_meant : (media : List Media) (nests : List (List (Frame ℕ))) (n : Nest) (layers : List Layer) (strips channels : List (List (Run ℕ))) (below lower : List (Run ℕ))
    → layers ≡ n.layers → map frames_of strips ≡ map (layer_frames media nests) layers → channels ≡ strips → frames_of below ≡ laid_on [] (map frames_of channels) → lower ≡ below
    → padded n.length (frames_of lower) ≡ nest_frames media nests n
nest_meant media nests n layers strips channels below lower ls shown cs laid low =
    let frames : List (List (Frame ℕ)) = map (layer_frames media nests) n.layers in
    let under : frames_of lower ≡ laid_on [] frames =
    ap frames_of low
    ∙ (laid
    ∙ (ap (λ (rss : List (List (Run ℕ))). laid_on [] (map frames_of rss)) cs
    ∙ (ap (laid_on []) shown ∙ ap (λ (ks : List Layer). laid_on [] (map (layer_frames media nests) ks)) ls))) in
    ap (padded n.length) under ∙ first_stacked n.length frames

length-padded : (n : ℕ) (fs : List (Frame ℕ)) → length (padded n fs) ≡ n
length-padded zero fs = refl
length-padded (suc n) [] = ap suc (length-padded n [])
length-padded (suc n) (f ∷ fs) = ap suc (length-padded n fs)

pub added_to_none : (empty all : List (Run ℕ)) (fs : List (Frame ℕ)) → empty ≡ [] → frames_of all ≡ frames_of empty ++ fs → frames_of all ≡ fs
added_to_none empty all fs none added = added ∙ ap (λ (rs : List (Run ℕ)). frames_of rs ++ fs) none

pub length-added : (empty all : List (Run ℕ)) (n : ℕ) (fs : List (Frame ℕ)) → empty ≡ [] → frames_of all ≡ frames_of empty ++ padded n fs → length (frames_of all) ≡ n
length-added empty all n fs none added = ap length (added_to_none empty all (padded n fs) none added) ∙ length-padded n fs

pub video_meant : (fss : List (List (Frame ℕ))) (strips channels : List (List (Run ℕ))) (rs now : List (Run ℕ)) → map frames_of strips ≡ fss → channels ≡ strips → frames_of rs ≡ laid_on [] (map frames_of channels)
    → now ≡ rs → frames_of now ≡ stacked (longest fss) fss
video_meant fss strips channels rs now are cs laid is =
    ap frames_of is
    ∙ (laid ∙ (ap (λ (rss : List (List (Run ℕ))). laid_on [] (map frames_of rss)) cs ∙ (ap (laid_on []) are ∙ all_stacked fss)))

length_stacked : (fss : List (List (Frame ℕ))) → length (stacked (longest fss) fss) ≡ longest fss
length_stacked fss = length-map (range_with_len 0 (longest fss)) (topmost fss) ∙ length-range_with_len 0 (longest fss)

pub video_short : (fss : List (List (Frame ℕ))) (fs : List (Frame ℕ)) → fs ≡ stacked (longest fss) fss → AreBelow (2 ^ 32) fss → length fs < 2 ^ 32
video_short fss fs is below = omega (arith, ap length is, length_stacked fss, longest_below fss below)

pub shown_track : (media now : List Media) (nests frames : List (List (Frame ℕ))) (t : TrackState) (n : ℕ) → now ≡ media → frames ≡ nests → n ≡ length t.cells
    → map (resolved now frames) (cut 0 n (render t.cells)) ≡ track_frames media nests t
shown_track media now nests frames t n m f l =
    ap (map (resolved now frames)) (whole_track t.cells n l)
    ∙ (ap (λ (x : List Media). map (resolved x frames) (render t.cells)) m ∙ ap (λ (x : List (List (Frame ℕ))). map (resolved media x) (render t.cells)) f)

pub next_track : (kind : Kind) (table : Table) (nests : List (List (Frame ℕ))) (ts : List TrackState) (i : ℕ) (t : TrackState) (b : Bool) (done more meant : List (List (Frame ℕ))) → i < length ts → t ≡ get_or ts i t
    → b ≡ is_of_kind kind (slice_get table.kinds i) → b ≡ true → more ≡ done ++ track_frames table.media nests t ∷ []
    → done ++ map (track_frames table.media nests) (of_kind kind (drop i table.kinds) (drop i ts)) ≡ meant
    → more ++ map (track_frames table.media nests) (of_kind kind (drop (i + 1) table.kinds) (drop (i + 1) ts)) ≡ meant
next_track kind table nests ts i t b done more meant h is test is_one pushed same =
    let past : i + 1 ≡ suc i = omega arith in
    let f : TrackState → List (Frame ℕ) = track_frames table.media nests in
    ap (λ (k : ℕ). more ++ map f (of_kind kind (drop k table.kinds) (drop k ts))) past
    ∙ still_meant done more (map f (of_kind kind (drop (suc i) table.kinds) (drop (suc i) ts))) meant (f t) pushed
    (sym (ap (λ (us : List TrackState). done ++ map f us) (of_kind_more kind table.kinds ts i t h is (sym test ∙ is_one))) ∙ same)

pub other_track : (kind : Kind) (table : Table) (nests : List (List (Frame ℕ))) (ts : List TrackState) (i : ℕ) (b : Bool) (done meant : List (List (Frame ℕ))) → i < length ts
    → b ≡ is_of_kind kind (slice_get table.kinds i) → b ≡ false
    → done ++ map (track_frames table.media nests) (of_kind kind (drop i table.kinds) (drop i ts)) ≡ meant
    → done ++ map (track_frames table.media nests) (of_kind kind (drop (i + 1) table.kinds) (drop (i + 1) ts)) ≡ meant
other_track kind table nests ts i b done meant h test is_none same =
    let past : i + 1 ≡ suc i = omega arith in
    let f : TrackState → List (Frame ℕ) = track_frames table.media nests in
    ap (λ (k : ℕ). done ++ map f (of_kind kind (drop k table.kinds) (drop k ts))) past
    ∙ (sym (ap (λ (us : List TrackState). done ++ map f us) (of_kind_same kind table.kinds ts i h (sym test ∙ is_none))) ∙ same)

pub last_track : (kind : Kind) (table : Table) (nests : List (List (Frame ℕ))) (ts : List TrackState) (i : ℕ) (done meant : List (List (Frame ℕ))) → length ts ≤ i
    → done ++ map (track_frames table.media nests) (of_kind kind (drop i table.kinds) (drop i ts)) ≡ meant → done ≡ meant
last_track kind table nests ts i done meant h same =
    sym (append-nil done)
    ∙ (sym (ap (λ (us : List TrackState). done ++ map (track_frames table.media nests) us) (of_kind_end kind table.kinds ts i h)) ∙ same)
