-- Fades within nests, and the places where fades hide something.
use Rattle.std.proofs.Common.{◌≡◌, ℕ, zero, suc, ◌+◌, ◌-◌, ◌<◌, ◌≤◌, ◌^◌, Bool, true, false, cond, ◌&&◌, ◌||◌, ◌⊎◌, inl, inr, nat_le, nat_lt, List, [], ◌∷◌, ◌++◌, map, length, get_or, drop, slice_get, slice_index_or, refl, sym, ap, ◌∙◌, arith, subst, append_assoc}
use Rattle.std.proofs.lemmas.Bool.{le-leb, cases_lt, le-ltb, lt-leb, lt-ltb, or_left}
use Rattle.std.proofs.lemmas.List.{append-nil, length-map, map-append}
use Rattle.std.proofs.Math.ListN.{drop_of_length-le}
use Rattle.std.specs.List.{range_with_len}
use Rattle.frame_meaning.specs.declared.cells.What.{What}
use Rattle.frame_meaning.specs.declared.cells.What.TheVariants.{Media as MediaOf, Nest as NestOf}
use Rattle.frame_meaning.specs.declared.frames.Frame.{Frame}
use Rattle.frame_meaning.specs.declared.frames.Frame.TheVariants.{Dark, Pic, Mix}
use Rattle.frame_meaning.specs.declared.frames.Run.{Run}
use Rattle.frame_meaning.specs.Render.{render}
use Rattle.frame_meaning.specs.RunFrames.{next_frame, frames_from}
use Rattle.composables.specs.declared.media.Kind.{Kind}
use Rattle.composables.specs.declared.media.Kind.TheVariants.{Video}
use Rattle.composables.specs.declared.media.Layer.{Layer}
use Rattle.composables.specs.declared.media.Media.{Media}
use Rattle.composables.specs.declared.media.Nest.{Nest}
use Rattle.composables.specs.declared.media.Table.{Table}
use Rattle.composables.specs.TrackState.{TrackState}
use Rattle.dissolves.specs.Pieces.{cut}
use Rattle.flatten.specs.declared.hiding.HidingFade.{HidingFade}
use Rattle.flatten.specs.declared.sights.Sights.{Sights}
use Rattle.flatten.specs.Channels.{EachIsShort, is_of_kind, of_kind}
use Rattle.flatten.specs.Hiding.{Seen, Sight, hides_behind, hides_of_nests, hides_within, layer_of, lies_in, nest_hides, nest_layer, nothing, seen_on, sight_at, track_layer}
use Rattle.flatten.specs.Marks.{AllComposed, IsComposed, extent, fades_from, hides_of, is_hiding, seen_of}
use Rattle.flatten.specs.Nests.{frames_of_nests, resolved}
use Rattle.flatten.specs.Stacks.{frame_at}
use Rattle.flatten.specs.Strips.{frames_of, padded}
use Rattle.flatten.proofs.Building.{drop_read, kind_short, length_render, of_kind_end, of_kind_more, of_kind_same, whole_track}
use Rattle.flatten.proofs.Marking.{hides_there}
use Rattle.flatten.proofs.Over.{drop_at}
use Rattle.flatten.proofs.Stacking.{places}

-- marks of nests, where a nest is seen

nest_mark : (marks : List (List (Run ℕ))) (j s : ℕ) → is_hiding (frame_at (slice_index_or (map frames_of marks) j []) s) ≡ slice_index_or (slice_index_or (map hides_of marks) j []) s false
nest_mark [] j s = refl
nest_mark (m ∷ marks) zero s = sym (hides_there (frames_of m) s)
nest_mark (m ∷ marks) (suc j) s = nest_mark marks j s

within_one : (marks : List (List (Run ℕ))) (f : Frame What) → is_hiding (resolved [] (map frames_of marks) f) ≡ hides_within (map hides_of marks) f
within_one marks Dark = refl
within_one marks (Pic (MediaOf m) s) = refl
within_one marks (Pic (NestOf j) s) = nest_mark marks j s
within_one marks (Mix l r n d) = refl

pub within_each : (marks : List (List (Run ℕ))) (fs : List (Frame What)) → map is_hiding (map (resolved [] (map frames_of marks)) fs) ≡ map (hides_within (map hides_of marks)) fs
within_each marks [] = refl
within_each marks (f ∷ fs) =
    ap (λ (t : Bool). t ∷ map is_hiding (map (resolved [] (map frames_of marks)) fs)) (within_one marks f)
    ∙ ap (λ (ts : List Bool). hides_within (map hides_of marks) f ∷ ts) (within_each marks fs)

-- the marks of a nest

hides_at_each : (fs : List (Frame ℕ)) (layers : List Seen) (qs : List ℕ) → ((q : ℕ) → is_hiding (frame_at fs q) ≡ (seen_on nothing layers q).hides)
    → map is_hiding (map (frame_at fs) qs) ≡ map (λ (q : ℕ). (seen_on nothing layers q).hides) qs
hides_at_each fs layers [] h = refl
hides_at_each fs layers (q ∷ qs) h =
    ap (λ (t : Bool). t ∷ map is_hiding (map (frame_at fs) qs)) (h q) ∙ ap (λ (ts : List Bool). (seen_on nothing layers q).hides ∷ ts) (hides_at_each fs layers qs h)

pub marked_there : (s : Sights) (layers : List Seen) (q : ℕ) → sight_at (seen_of s) q ≡ seen_on nothing layers q → is_hiding (frame_at (frames_of s.marks) q) ≡ (seen_on nothing layers q).hides
marked_there s layers q is = sym (hides_there (frames_of s.marks) q) ∙ ap (λ (x : Sight). x.hides) is

pub nest_marked : (s : Sights) (layers : List Seen) (n : ℕ) (strip : List (Run ℕ)) → ((q : ℕ) → sight_at (seen_of s) q ≡ seen_on nothing layers q) → frames_of strip ≡ padded n (frames_of s.marks)
    → hides_of strip ≡ map (λ (q : ℕ). (seen_on nothing layers q).hides) (range_with_len 0 n)
nest_marked s layers n strip same are =
    ap (map is_hiding) (are ∙ sym (places (frames_of s.marks) 0 n))
    ∙ hides_at_each (frames_of s.marks) layers (range_with_len 0 n) (λ (q : ℕ). marked_there s layers q (same q))

pub next_hides : (media : List Media) (shown : List (List (Frame ℕ))) (now ns : List Nest) (i : ℕ) (n : Nest) (done more meant : List (List Bool)) → now ≡ ns → i < length now → n ≡ get_or now i n
    → more ≡ done ++ nest_hides media shown done n ∷ [] → hides_behind media shown done (drop i ns) ≡ meant → hides_behind media shown more (drop (i + 1) ns) ≡ meant
next_hides media shown now ns i n done more meant these h is pushed same =
    ap (λ (xs : List (List Bool)). hides_behind media shown xs (drop (i + 1) ns)) pushed
    ∙ (ap (λ (ms : List Nest). hides_behind media shown (done ++ nest_hides media shown done n ∷ []) (drop (i + 1) ms)) (sym these)
    ∙ (sym (ap (hides_behind media shown done) (drop_read now i n h is))
    ∙ (ap (λ (ms : List Nest). hides_behind media shown done (drop i ms)) these ∙ same)))

pub marks_more : (all new : List (List (Run ℕ))) (rs : List (Run ℕ)) (ts : List Bool) → new ≡ all ++ rs ∷ [] → hides_of rs ≡ ts → map hides_of new ≡ map hides_of all ++ ts ∷ []
marks_more all new rs ts pushed are = ap (map hides_of) pushed ∙ (map-append hides_of all (rs ∷ []) ∙ ap (λ (xs : List Bool). map hides_of all ++ xs ∷ []) are)

-- layers, one after another

pub layers_more : (all new : List Sights) (s : Sights) (l : Seen) → new ≡ all ++ s ∷ [] → seen_of s ≡ l → map seen_of new ≡ map seen_of all ++ l ∷ []
layers_more all new s l pushed is = ap (map seen_of) pushed ∙ (map-append seen_of all (s ∷ []) ∙ ap (λ (x : Seen). map seen_of all ++ x ∷ []) is)

pub composed_more : (all new : List Sights) (s : Sights) → new ≡ all ++ s ∷ [] → AllComposed all → IsComposed s → AllComposed new
composed_more all new s pushed f h = subst AllComposed (sym pushed) (push all f) where
  push : (ss : List Sights) → AllComposed ss → AllComposed (ss ++ s ∷ [])
  push [] f = (h, tt)
  push (x ∷ ss) f = (f.0, push ss f.1)

still_seen : (done more rest meant : List Seen) (l : Seen) → more ≡ done ++ l ∷ [] → done ++ l ∷ rest ≡ meant → more ++ rest ≡ meant
still_seen done more rest meant l is h = ap (λ (xs : List Seen). xs ++ rest) is ∙ (append_assoc done (l ∷ []) rest ∙ h)

pub next_nest_layer : (media : List Media) (shown : List (List (Frame ℕ))) (hides : List (List Bool)) (ls : List Layer) (i : ℕ) (l : Layer) (done more meant : List Seen) → i < length ls → l ≡ get_or ls i l
    → more ≡ done ++ nest_layer media shown hides l ∷ [] → done ++ map (nest_layer media shown hides) (drop i ls) ≡ meant → more ++ map (nest_layer media shown hides) (drop (i + 1) ls) ≡ meant
next_nest_layer media shown hides ls i l done more meant h is pushed same =
    still_seen done more (map (nest_layer media shown hides) (drop (i + 1) ls)) meant (nest_layer media shown hides l) pushed
    (sym (ap (λ (ks : List Layer). done ++ map (nest_layer media shown hides) ks) (drop_read ls i l h is)) ∙ same)

pub next_track_layer : (kind : Kind) (table : Table) (ts : List TrackState) (i : ℕ) (t : TrackState) (b : Bool) (done more meant : List Seen) → i < length ts → t ≡ get_or ts i t
    → b ≡ is_of_kind kind (slice_get table.kinds i) → b ≡ true → more ≡ done ++ track_layer table t ∷ []
    → done ++ map (track_layer table) (of_kind kind (drop i table.kinds) (drop i ts)) ≡ meant → more ++ map (track_layer table) (of_kind kind (drop (i + 1) table.kinds) (drop (i + 1) ts)) ≡ meant
next_track_layer kind table ts i t b done more meant h is test is_one pushed same =
    let past : i + 1 ≡ suc i = omega arith in
    let f : TrackState → Seen = track_layer table in
    ap (λ (k : ℕ). more ++ map f (of_kind kind (drop k table.kinds) (drop k ts))) past
    ∙ still_seen done more (map f (of_kind kind (drop (suc i) table.kinds) (drop (suc i) ts))) meant (f t) pushed
    (sym (ap (λ (us : List TrackState). done ++ map f us) (of_kind_more kind table.kinds ts i t h is (sym test ∙ is_one))) ∙ same)

pub other_track_layer : (kind : Kind) (table : Table) (ts : List TrackState) (i : ℕ) (b : Bool) (done meant : List Seen) → i < length ts → b ≡ is_of_kind kind (slice_get table.kinds i) → b ≡ false
    → done ++ map (track_layer table) (of_kind kind (drop i table.kinds) (drop i ts)) ≡ meant → done ++ map (track_layer table) (of_kind kind (drop (i + 1) table.kinds) (drop (i + 1) ts)) ≡ meant
other_track_layer kind table ts i b done meant h test is_none same =
    let past : i + 1 ≡ suc i = omega arith in
    let f : TrackState → Seen = track_layer table in
    ap (λ (k : ℕ). done ++ map f (of_kind kind (drop k table.kinds) (drop k ts))) past
    ∙ (sym (ap (λ (us : List TrackState). done ++ map f us) (of_kind_same kind table.kinds ts i h (sym test ∙ is_none))) ∙ same)

pub last_track_layer : (kind : Kind) (table : Table) (ts : List TrackState) (i : ℕ) (done meant : List Seen) → length ts ≤ i
    → done ++ map (track_layer table) (of_kind kind (drop i table.kinds) (drop i ts)) ≡ meant → done ≡ meant
last_track_layer kind table ts i done meant h same =
    sym (append-nil done) ∙ (sym (ap (λ (us : List TrackState). done ++ map (track_layer table) us) (of_kind_end kind table.kinds ts i h)) ∙ same)

-- how long the tracks are

tracks_extent : (table : Table) (ts : List TrackState) → EachIsShort ts → extent (map (track_layer table) ts) < 2 ^ 32
tracks_extent table [] e = omega arith
tracks_extent table (t ∷ ts) e =
    let l : Seen = track_layer table t in
    let frames : length l.frames < 2 ^ 32 = omega (arith, e.0, length-map (render t.cells) (resolved table.media (frames_of_nests table)), length_render t.cells) in
    let hides : length l.hides < 2 ^ 32 = omega (arith, e.0, length-map (render t.cells) (hides_within (hides_of_nests table)), length_render t.cells) in
    omega (arith, frames, hides, tracks_extent table ts e.1)

pub video_extent : (table : Table) (ts : List TrackState) → EachIsShort ts → extent (map (track_layer table) (of_kind Video table.kinds ts)) < 2 ^ 32
video_extent table ts e = tracks_extent table (of_kind Video table.kinds ts) (kind_short Video table.kinds ts e)

-- the places that marks tell

one_mark : (f : Frame ℕ) → is_hiding (next_frame f) ≡ is_hiding f
one_mark Dark = refl
one_mark (Pic w s) = refl
one_mark (Mix l r n d) = refl

in_run : (f : Frame ℕ) (n k : ℕ) (rest : List (Frame ℕ)) → k < n → is_hiding (frame_at (frames_from f n ++ rest) k) ≡ is_hiding f
in_run f zero k rest h = absurd (omega arith)
in_run f (suc n) zero rest h = refl
in_run f (suc n) (suc k) rest h = in_run (next_frame f) n k rest (omega arith) ∙ one_mark f

past_run : (f : Frame ℕ) (n k : ℕ) (rest : List (Frame ℕ)) → frame_at (frames_from f n ++ rest) (n + k) ≡ frame_at rest k
past_run f zero k rest = let e : 0 + k ≡ k = omega arith in ap (frame_at rest) e
past_run f (suc n) k rest = let e : suc n + k ≡ suc (n + k) = omega arith in ap (frame_at (frames_from f (suc n) ++ rest)) e ∙ past_run (next_frame f) n k rest

le_is : (a b : ℕ) → a ≤ b → nat_le a b ≡ true
le_is a b h = le-leb a b h

lt_is : (a b : ℕ) → a < b → nat_lt a b ≡ true
lt_is a b h = lt-ltb a b h

le_not : (a b : ℕ) → b < a → nat_le a b ≡ false
le_not a b h = lt-leb a b h

lt_not : (a b : ℕ) → b ≤ a → nat_lt a b ≡ false
lt_not a b h = le-ltb a b h

and_false : (b : Bool) → (b && false) ≡ false
and_false true = refl
and_false false = refl

before_first : (t : Bool) (at to q : ℕ) (fs : List HidingFade) → q < at → lies_in fs q ≡ false → lies_in (cond t (record { from = at; to = to } ∷ fs) fs) q ≡ false
before_first true at to q fs h rest = ap (λ (b : Bool). (b && nat_lt q to) || lies_in fs q) (le_not at q h) ∙ rest
before_first false at to q fs h rest = rest

before_all : (rs : List (Run ℕ)) (at q : ℕ) → q < at → lies_in (fades_from at rs) q ≡ false
before_all [] at q h = refl
before_all (r ∷ rs) at q h = before_first (is_hiding r.frame) at (at + r.len) q (fades_from (at + r.len) rs) h (before_all rs (at + r.len) q (omega (arith, h)))

-- one place of a run and of those behind it
module _ (r : Run ℕ) (rs : List (Run ℕ)) (at : ℕ) where
  in_first : (k : ℕ) → k < r.len → lies_in (fades_from at (r ∷ rs)) (at + k) ≡ is_hiding r.frame
  in_first k h = by_mark (is_hiding r.frame) where
    rest : lies_in (fades_from (at + r.len) rs) (at + k) ≡ false
    rest = before_all rs (at + r.len) (at + k) (omega (arith, h))

    by_mark : (t : Bool) → lies_in (cond t (record { from = at; to = at + r.len } ∷ fades_from (at + r.len) rs) (fades_from (at + r.len) rs)) (at + k) ≡ t
    by_mark true =
        or_left (nat_le at (at + k) && nat_lt (at + k) (at + r.len)) (lies_in (fades_from (at + r.len) rs) (at + k))
        (ap (λ (b : Bool). b && nat_lt (at + k) (at + r.len)) (le_is at (at + k) (omega arith)) ∙ lt_is (at + k) (at + r.len) (omega (arith, h)))
    by_mark false = rest

  past_first : (q : ℕ) → at + r.len ≤ q → lies_in (fades_from at (r ∷ rs)) q ≡ lies_in (fades_from (at + r.len) rs) q
  past_first q h = by_mark (is_hiding r.frame) where
    by_mark : (t : Bool) → lies_in (cond t (record { from = at; to = at + r.len } ∷ fades_from (at + r.len) rs) (fades_from (at + r.len) rs)) q ≡ lies_in (fades_from (at + r.len) rs) q
    by_mark true =
        ap (λ (b : Bool). (nat_le at q && b) || lies_in (fades_from (at + r.len) rs) q) (lt_not q (at + r.len) h)
        ∙ ap (λ (b : Bool). b || lies_in (fades_from (at + r.len) rs) q) (and_false (nat_le at q))
    by_mark false = refl

in_either : (r : Run ℕ) (rs : List (Run ℕ)) (at k : ℕ) → (k < r.len) ⊎ (r.len ≤ k)
    → lies_in (fades_from (at + r.len) rs) (at + r.len + (k - r.len)) ≡ is_hiding (frame_at (frames_of rs) (k - r.len)) → lies_in (fades_from at (r ∷ rs)) (at + k) ≡ is_hiding (frame_at (frames_of (r ∷ rs)) k)
in_either r rs at k (inl h) rest = in_first r rs at k h ∙ sym (in_run r.frame r.len k (frames_of rs) h)
in_either r rs at k (inr h) rest =
    let e : at + k ≡ at + r.len + (k - r.len) = omega (arith, h) in
    let d : r.len + (k - r.len) ≡ k = omega (arith, h) in
    past_first r rs at (at + k) (omega (arith, h))
    ∙ (ap (λ (q : ℕ). lies_in (fades_from (at + r.len) rs) q) e
    ∙ (rest ∙ (ap is_hiding (sym (past_run r.frame r.len (k - r.len) (frames_of rs))) ∙ ap (λ (j : ℕ). is_hiding (frame_at (frames_of (r ∷ rs)) j)) d)))

fades_at : (rs : List (Run ℕ)) (at k : ℕ) → lies_in (fades_from at rs) (at + k) ≡ is_hiding (frame_at (frames_of rs) k)
fades_at [] at k = refl
fades_at (r ∷ rs) at k = in_either r rs at k (cases_lt k r.len) (fades_at rs (at + r.len) (k - r.len))

pub fades_told : (rs : List (Run ℕ)) (q : ℕ) → lies_in (fades_from 0 rs) q ≡ is_hiding (frame_at (frames_of rs) q)
fades_told rs q = let e : q ≡ 0 + q = omega arith in ap (λ (p : ℕ). lies_in (fades_from 0 rs) p) e ∙ fades_at rs 0 q

-- one run more

one_run : (at : ℕ) (r : Run ℕ) (rs : List (Run ℕ)) → fades_from at (r ∷ rs) ≡ fades_from at (r ∷ []) ++ fades_from (at + r.len) rs
one_run at r rs = by_mark (is_hiding r.frame) where
  by_mark : (t : Bool) → cond t (record { from = at; to = at + r.len } ∷ fades_from (at + r.len) rs) (fades_from (at + r.len) rs)
      ≡ cond t (record { from = at; to = at + r.len } ∷ fades_from (at + r.len) []) (fades_from (at + r.len) []) ++ fades_from (at + r.len) rs
  by_mark true = refl
  by_mark false = refl

pub fades_more : (done new : List HidingFade) (at to : ℕ) (rs : List (Run ℕ)) (i : ℕ) (d : Run ℕ) (meant : List HidingFade) → i < length rs → to ≡ at + (get_or rs i d).len
    → new ≡ done ++ fades_from at (get_or rs i d ∷ []) → done ++ fades_from at (drop i rs) ≡ meant → new ++ fades_from to (drop (i + 1) rs) ≡ meant
fades_more done new at to rs i d meant h end added same =
    let past : i + 1 ≡ suc i = omega arith in
    let r : Run ℕ = get_or rs i d in
    let rest : List (Run ℕ) = drop (suc i) rs in
    ap (λ (k : ℕ). new ++ fades_from to (drop k rs)) past
    ∙ (ap (λ (k : ℕ). new ++ fades_from k rest) end
    ∙ (ap (λ (xs : List HidingFade). xs ++ fades_from (at + r.len) rest) added
    ∙ (append_assoc done (fades_from at (r ∷ [])) (fades_from (at + r.len) rest)
    ∙ (ap (λ (xs : List HidingFade). done ++ xs) (sym (one_run at r rest) ∙ ap (fades_from at) (sym (drop_at rs i d h))) ∙ same))))

pub fades_end : (done : List HidingFade) (at : ℕ) (rs : List (Run ℕ)) (i : ℕ) (meant : List HidingFade) → length rs ≤ i → done ++ fades_from at (drop i rs) ≡ meant → done ≡ meant
fades_end done at rs i meant h same = sym (append-nil done) ∙ (sym (ap (λ (qs : List (Run ℕ)). done ++ fades_from at qs) (drop_of_length-le rs h)) ∙ same)

-- a whole track as a layer

pub whole_layer : (media now : List Media) (shown frames : List (List (Frame ℕ))) (hides marks : List (List Bool)) (t : TrackState) (n : ℕ) → now ≡ media → frames ≡ shown → marks ≡ hides → n ≡ length t.cells
    → layer_of now frames marks (cut 0 n (render t.cells)) ≡ layer_of media shown hides (render t.cells)
whole_layer media now shown frames hides marks t n m f h l =
    ap (layer_of now frames marks) (whole_track t.cells n l)
    ∙ (ap (λ (x : List Media). layer_of x frames marks (render t.cells)) m
    ∙ (ap (λ (x : List (List (Frame ℕ))). layer_of media x marks (render t.cells)) f ∙ ap (λ (x : List (List Bool)). layer_of media shown x (render t.cells)) h))

-- what is seen of a place in a layer of a nest or the record
pub layer_meant : (media : List Media) (shown : List (List (Frame ℕ))) (hides : List (List Bool)) (fs : List (Frame What)) (s : Sights) → frames_of s.frames ≡ map (resolved media shown) fs → hides_of s.marks ≡ map (hides_within hides) fs
    → seen_of s ≡ layer_of media shown hides fs
layer_meant media shown hides fs s f h =
    ap (λ (x : List (Frame ℕ)). record { frames = x; hides = hides_of s.marks }) f ∙ ap (λ (x : List Bool). record { frames = map (resolved media shown) fs; hides = x }) h
