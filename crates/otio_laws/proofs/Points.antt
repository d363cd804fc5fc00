-- A cut at any point of a history is a sound one, and is read again.
use Rattle.std.proofs.Common.{◌≡◌, ℕ, zero, suc, ◌+◌, ◌-◌, ◌^◌, ◌≤◌, Bool, true, false, cond, max, List, [], ◌∷◌, length, take, Option, Some, None, IfSome, IsSomeAnd, option_map, slice_get, refl, sym, arith, subst}
use Rattle.std.specs.List.{All}
use Rattle.std.proofs.lemmas.List.Elements.{All-nil, All-cons, All-head, All-tail}
use Rattle.frame_meaning.specs.declared.cells.Cell.{Cell}
use Rattle.frame_meaning.specs.declared.cells.What.{What}
use Rattle.frame_meaning.specs.declared.cells.What.TheVariants.{Media as MediaOf, Nest as NestOf}
use Rattle.frame_meaning.specs.declared.frames.Side.{Side}
use Rattle.frame_meaning.specs.declared.frames.Side.TheVariants.{Dark, Pic}
use Rattle.frame_meaning.specs.Cells.{same_number}
use Rattle.composables.specs.declared.items.ItemView.{ItemView}
use Rattle.composables.specs.declared.media.Kind.{Kind}
use Rattle.composables.specs.declared.media.Kind.TheVariants.{Video, Audio}
use Rattle.composables.specs.declared.media.Layer.{Layer}
use Rattle.composables.specs.declared.media.Media.{Media}
use Rattle.composables.specs.declared.media.Nest.{Nest}
use Rattle.composables.specs.declared.media.Table.{Table}
use Rattle.composables.specs.declared.TheConstants.{MAX_FRAMES}
use Rattle.composables.specs.Good.{IsGood}
use Rattle.composables.specs.Items.{items_of, view_from, with_cell}
use Rattle.composables.specs.TrackState.{TrackState}
use Rattle.edit_insert.specs.Sources.{suits}
use Rattle.room_core.specs.declared.entry.Entry.{Entry}
use Rattle.room_core.specs.History.{replay}
use Rattle.room_core.specs.Whole.{whole}
use Rattle.link_laws.specs.Wholes.{AreBare, Numbered}
use Rattle.link_laws.proofs.Openings.{bare-given}
use Rattle.track_laws.specs.Goods.{IsBounded}
use Rattle.track_laws.proofs.ShownCells.{CellsHave, SideHas, ViewsHave, have-views}
use Rattle.track_laws.proofs.ShownTracks.{IsShown}
use Rattle.edit_calls.specs.declared.asks.Call.{Call}
use Rattle.edit_apply.specs.Apply.{editing}
use Rattle.edit_apply.proofs.Fronts.{front-applies}
use Rattle.edit_apply.proofs.Goodness.{IsRoomAt, room-history}
use Rattle.edit_apply.proofs.KindLaws.{rooms-shown}
use Rattle.otio_json.specs.Nests.{longest_from}
use Rattle.otio_json.specs.Soundness.{AreTracksFrom, EachHas, IsSoundOpening, SideHas as ItemHas}
use Rattle.otio_json.specs.declared.opening.Opening.{Opening}
use Rattle.otio_laws.specs.Meanings.{IsReadAgain}
use Rattle.otio_laws.specs.Points.{PointsAreReadAgain, PointsAreSoundCuts, cut_of}
use Rattle.otio_laws.specs.SoundCuts.{AreGoodFrom, IsCutLayer, IsCutMedia, IsCutNest, IsCutTable, IsMedia, IsSoundCut, SuitsKind}
use Rattle.otio_laws.proofs.CutBack.{written_is_read_again}
use Rattle.otio_laws.proofs.SoundOpenings.{openings_are_sound_cuts}

-- the source frames of each thing of the table of a cut end by 2^32

media_end : (table : Table) (ms : List Media) (m : ℕ) → All (IsCutMedia table) ms → IfSome {T = ℕ × ℕ} (option_map (λ (e : Media). (e.from, e.to)) (slice_get ms m)) (λ r. r.1 ≤ 2 ^ 32)
media_end table [] zero h = tt
media_end table [] (suc m) h = tt
media_end table (e ∷ es) zero h = let first = All-head (IsCutMedia table) e es h in omega (arith, first.within)
media_end table (e ∷ es) (suc m) h = media_end table es m (All-tail (IsCutMedia table) e es h)

longest_within : (table : Table) (most : ℕ) (ls : List Layer) → most ≤ MAX_FRAMES → All (IsCutLayer table 7) ls → longest_from most ls ≤ MAX_FRAMES
longest_within table most [] le h = le
longest_within table most (l ∷ ls) le h =
    let first = All-head (IsCutLayer table 7) l ls h in
    longest_within table (max most (l.to - l.from)) ls (omega (arith, le, first.within, first.track.good.frames)) (All-tail (IsCutLayer table 7) l ls h)

nests_end : (table : Table) (ns : List Nest) (j : ℕ) → All (IsCutNest table 7) ns → IfSome {T = ℕ × ℕ} (option_map (λ (e : Nest). (0, e.length)) (slice_get ns j)) (λ r. r.1 ≤ 2 ^ 32)
nests_end table [] zero h = tt
nests_end table [] (suc j) h = tt
nests_end table (n ∷ ns) zero h =
    let first = All-head (IsCutNest table 7) n ns h in
    omega (arith, first.as_long, longest_within table 0 n.layers (omega arith) first.layers)
nests_end table (n ∷ ns) (suc j) h = nests_end table ns j (All-tail (IsCutNest table 7) n ns h)

things_end : (table : Table) → IsCutTable table → IsBounded table
things_end table h (MediaOf m) = media_end table table.media m h.media
things_end table h (NestOf j) = nests_end table table.nests j h.nests

-- the things that items show, and their cells

side_has : (Has : What → Type 0) (s : Side What) → ItemHas Has s → SideHas Has s
side_has Has Dark h = tt
side_has Has (Pic w s) h = h

views_have : (Has : What → Type 0) (vs : List ItemView) → EachHas Has vs → ViewsHave Has vs
views_have Has [] h = tt
views_have Has (v ∷ vs) h = (side_has Has v.first h.0, views_have Has vs h.1)

item_has : (Has : What → Type 0) (s : Side What) → SideHas Has s → ItemHas Has s
item_has Has Dark h = tt
item_has Has (Pic w s) h = h

items_have : (Has : What → Type 0) (cs : List Cell) → CellsHave Has cs → EachHas Has (items_of cs)
items_have Has [] h = tt
items_have Has (c ∷ cs) h = by (items_of cs) (items_have Has cs h.1) where
  first : ItemHas Has c.side
  first = item_has Has c.side h.0

  joins : (b : Bool) (v : ItemView) (vs : List ItemView) → EachHas Has (v ∷ vs) → EachHas Has (cond b (view_from c v.len ∷ vs) (view_from c 0 ∷ v ∷ vs))
  joins true v vs r = (first, r.1)
  joins false v vs r = (first, r)

  by : (vs : List ItemView) → EachHas Has vs → EachHas Has (with_cell c vs)
  by [] r = (first, tt)
  by (v ∷ vs) r = joins (same_number c.item v.item) v vs r

each_is : (P Q : What → Type 0) → ((w : What) → P w → Q w) → (vs : List ItemView) → EachHas P vs → EachHas Q vs
each_is P Q f [] h = tt
each_is P Q f (v ∷ vs) h = (side_is v.first h.0, each_is P Q f vs h.1) where
  side_is : (s : Side What) → ItemHas P s → ItemHas Q s
  side_is Dark h = tt
  side_is (Pic w s) h = f w h

-- a thing suits the kind of a track if it is media, or the track one of pictures

all_suit : (vs : List ItemView) → EachHas (λ w. suits (Some Video) w ≡ true) vs
all_suit [] = tt
all_suit (v ∷ vs) = (by v.first, all_suit vs) where
  by : (s : Side What) → ItemHas (λ w. suits (Some Video) w ≡ true) s
  by Dark = tt
  by (Pic w s) = refl

media_suits : (w : What) → IsMedia w → suits (Some Audio) w ≡ true
media_suits (MediaOf m) h = refl
media_suits (NestOf j) h = absurd h

suits_media : (w : What) → suits (Some Audio) w ≡ true → IsMedia w
suits_media (MediaOf m) h = tt
suits_media (NestOf j) h = absurd (Prim.grind (arith, h))

shown_of : (k : Kind) (t : TrackState) → SuitsKind k t → EachHas (λ w. suits (Some k) w ≡ true) (items_of t.cells)
shown_of Video t h = all_suit (items_of t.cells)
shown_of Audio t h = each_is IsMedia (λ w. suits (Some Audio) w ≡ true) media_suits (items_of t.cells) h

kind_of : (k : Kind) (t : TrackState) → CellsHave (λ w. suits (Some k) w ≡ true) t.cells → SuitsKind k t
kind_of Video t h = tt
kind_of Audio t h =
    each_is (λ w. suits (Some Audio) w ≡ true) IsMedia suits_media (items_of t.cells) (items_have (λ w. suits (Some Audio) w ≡ true) t.cells h)

module _ (table : Table) where
  abbrev May : ℕ → What → Type 0
  May n w = suits (slice_get table.kinds n) w ≡ true

  next_kinds : (n : ℕ) (k : Kind) (ks : List Kind) → ((i : ℕ) → slice_get table.kinds (n + i) ≡ slice_get (k ∷ ks) i) → (i : ℕ) → slice_get table.kinds (n + 1 + i) ≡ slice_get ks i
  next_kinds n k ks same i =
      let e : n + suc i ≡ n + 1 + i = omega arith in
      subst (λ (m : ℕ). slice_get table.kinds m ≡ slice_get ks i) e (same (suc i))

  here : (n : ℕ) (k : Kind) (ks : List Kind) → ((i : ℕ) → slice_get table.kinds (n + i) ≡ slice_get (k ∷ ks) i) → slice_get table.kinds n ≡ Some k
  here n k ks same = let e : n + 0 ≡ n = omega arith in subst (λ (m : ℕ). slice_get table.kinds m ≡ Some k) e (same 0)

  -- tracks that are good and suit these kinds show what suits them, and back

  shown_from : (n : ℕ) (ks : List Kind) (ts : List TrackState) → ((i : ℕ) → slice_get table.kinds (n + i) ≡ slice_get ks i) → AreGoodFrom table n ks ts → All (IsShown May) ts
  shown_from n [] [] same h = All-nil (IsShown May)
  shown_from n [] (t ∷ ts) same h = absurd h
  shown_from n (k ∷ ks) [] same h = absurd h
  shown_from n (k ∷ ks) (t ∷ ts) same h =
      All-cons (IsShown May) t ts
      (subst (λ (m : ℕ). CellsHave (May m) t.cells) (sym h.0)
      (subst (λ (o : Option Kind). CellsHave (λ w. suits o w ≡ true) t.cells) (sym (here n k ks same))
      (subst (CellsHave (λ w. suits (Some k) w ≡ true)) h.1.0.kept.whole
      (have-views (λ w. suits (Some k) w ≡ true) (items_of t.cells) (views_have (λ w. suits (Some k) w ≡ true) (items_of t.cells) (shown_of k t h.1.1))))))
      (shown_from (n + 1) ks ts (next_kinds n k ks same) h.2)

  good_from : (n : ℕ) (ks : List Kind) (ts : List TrackState) → ((i : ℕ) → slice_get table.kinds (n + i) ≡ slice_get ks i) → length ts ≡ length ks
      → Numbered n ts → All (IsGood table) ts → All (IsShown May) ts → AreGoodFrom table n ks ts
  good_from n [] [] same l h g s = tt
  good_from n [] (t ∷ ts) same l h g s = absurd (omega (arith, l))
  good_from n (k ∷ ks) [] same l h g s = absurd (omega (arith, l))
  good_from n (k ∷ ks) (t ∷ ts) same l h g s = (
    h.0,
    (
      All-head (IsGood table) t ts g,
      kind_of k t (subst (λ (o : Option Kind). CellsHave (λ w. suits o w ≡ true) t.cells) (here n k ks same)
          (subst (λ (m : ℕ). CellsHave (May m) t.cells) h.0 (All-head (IsShown May) t ts s))),
    ),
    good_from (n + 1) ks ts (next_kinds n k ks same) (omega (arith, l)) h.1 (All-tail (IsGood table) t ts g) (All-tail (IsShown May) t ts s),
  )

  -- the tracks that a room begins with

  numbered_from : (n : ℕ) (ks : List Kind) (ts : List TrackState) → AreTracksFrom table n ks ts → Numbered n ts × (length ts ≡ length ks) × AreBare table ts
  numbered_from n [] [] h = (tt, refl, tt)
  numbered_from n [] (t ∷ ts) h = absurd h
  numbered_from n (k ∷ ks) [] h = absurd h
  numbered_from n (k ∷ ks) (t ∷ ts) h =
      let r = numbered_from (n + 1) ks ts h.2 in
      ((h.0, r.0), omega (arith, r.1), (h.1.good, h.1.unlinked, r.2))

  good_bare : (ts : List TrackState) → AreBare table ts → All (IsGood table) ts
  good_bare [] h = All-nil (IsGood table)
  good_bare (t ∷ ts) h = All-cons (IsGood table) t ts h.0 (good_bare ts h.2)

-- at a point of a history
point_is_sound : (o : Opening) (entries : List (Entry Call)) (tracks : List TrackState) → IsSoundOpening o
    → replay (whole (editing o.table)) o.tracks entries ≡ Some tracks → IsSoundCut (cut_of o tracks)
point_is_sound o entries tracks sound comes =
    let cut = openings_are_sound_cuts o sound in
    let r = numbered_from o.table 0 o.table.kinds o.tracks sound.tracks in
    let few : length o.tracks ≤ 32 = sound.few in
    let opening : IsRoomAt o.table o.tracks = record { numbered = r.0; count = omega (arith, r.1, few); given = bare-given o.table o.tracks r.2; good = good_bare o.table o.tracks r.2 } in
    let room = room-history o.table (things_end o.table cut.table) o.tracks tracks entries opening comes in
    let same = λ (i : ℕ). kinds_are i in
    let shown = rooms-shown o.table (May o.table) (λ n w s. s) o.tracks tracks entries (shown_from o.table 0 o.table.kinds o.tracks same cut.tracks) comes in
    let count : length tracks ≡ length o.table.kinds = omega (arith, room.1.count, r.1, few) in
    record {
      table = cut.table;
      tracks = good_from o.table 0 o.table.kinds tracks same count room.1.numbered room.1.good shown;
      few = omega (arith, count, r.1, few);
      start = cut.start;
    } where
      kinds_are : (i : ℕ) → slice_get o.table.kinds (0 + i) ≡ slice_get o.table.kinds i
      kinds_are i = let e : i ≡ 0 + i = omega arith in subst (λ (m : ℕ). slice_get o.table.kinds m ≡ slice_get o.table.kinds i) e refl

pub points_are_sound_cuts : PointsAreSoundCuts
points_are_sound_cuts o entries n sound legal = by (replay (whole (editing o.table)) o.tracks (take n entries)) refl where
  by : (found : Option (List TrackState)) → replay (whole (editing o.table)) o.tracks (take n entries) ≡ found → IsSomeAnd found (λ tracks. IsSoundCut (cut_of o tracks))
  by None e = absurd (front-applies (whole (editing o.table)) o.tracks entries n legal.applies e)
  by (Some tracks) e = point_is_sound o (take n entries) tracks sound e

pub points_are_read_again : PointsAreReadAgain
points_are_read_again o entries n sound texts legal = by (replay (whole (editing o.table)) o.tracks (take n entries)) (points_are_sound_cuts o entries n sound legal) where
  by : (found : Option (List TrackState)) → IsSomeAnd found (λ tracks. IsSoundCut (cut_of o tracks)) → IsSomeAnd found (λ tracks. IsReadAgain (cut_of o tracks))
  by None cut = cut
  by (Some tracks) cut = written_is_read_again (cut_of o tracks) cut texts
