-- What stays as a table grows, and as more nests may stand in one another.
use Rattle.std.proofs.Common.{◌≡◌, ℕ, zero, suc, ◌<◌, ◌≤◌, List, [], ◌∷◌, ◌++◌, length, slice_get, Option, Some, None, option_map, refl, sym, ap, ◌∙◌, arith, subst}
use Rattle.std.proofs.lemmas.List.{length-append, get_or_append_left}
use Rattle.std.proofs.lemmas.List.Elements.{All-weaker}
use Rattle.std.proofs.lemmas.Option.{slice_get_within, slice_get-get_or, get_or_from_slice_get}
use Rattle.std.proofs.Math.Seq.{get_or-append_seam}
use Rattle.frame_meaning.specs.declared.cells.What.{What}
use Rattle.frame_meaning.specs.declared.cells.What.TheVariants.{Media as MediaOf, Nest as NestOf}
use Rattle.frame_meaning.specs.declared.frames.Side.{Side}
use Rattle.frame_meaning.specs.declared.frames.Side.TheVariants.{Dark, Pic}
use Rattle.composables.specs.declared.items.ItemView.{ItemView}
use Rattle.composables.specs.declared.media.Table.{Table}
use Rattle.composables.specs.declared.media.Media.{Media}
use Rattle.composables.specs.declared.media.Layer.{Layer}
use Rattle.composables.specs.declared.media.Nest.{Nest}
use Rattle.composables.specs.Bounds.{bounds_of}
use Rattle.composables.specs.Good.{LiesIn, SideLiesIn, EachLiesIn, IsGood}
use Rattle.composables.specs.Items.{items_of}
use Rattle.composables.specs.TrackFacts.{left_reach, right_reach, first_mark}
use Rattle.composables.specs.TrackState.{TrackState}
use Rattle.otio_json.specs.Soundness.{SideHas, EachHas, IsDeep, IsReadTrack, IsSoundMedia, IsSoundLayer, IsSoundNest, IsSoundTable}

-- ---- lists

pub get_left : {X : Type 0} (xs ys : List X) (i : ℕ) (x : X) → slice_get xs i ≡ Some x → slice_get (xs ++ ys) i ≡ Some x
get_left xs ys i x e =
    let there : i < length xs = slice_get_within xs i x e in
    slice_get-get_or (xs ++ ys) i x (omega (arith, there, length-append xs ys)) ∙ (ap Some (get_or_append_left xs ys x i there) ∙ ap Some (get_or_from_slice_get xs i x x e))

pub get_last : {X : Type 0} (xs : List X) (x : X) → slice_get (xs ++ x ∷ []) (length xs) ≡ Some x
get_last xs x =
    let there : length xs < length (xs ++ x ∷ []) = omega (arith, length-append xs (x ∷ [])) in
    slice_get-get_or (xs ++ x ∷ []) (length xs) x there ∙ ap Some (get_or-append_seam xs x [] x)

-- ---- the table

pub record Keeps (old new : Table) : Type 0 where
  pub reels : length old.reels ≤ length new.reels
  pub media : (i : ℕ) (m : Media) → slice_get old.media i ≡ Some m → slice_get new.media i ≡ Some m
  pub nests : (i : ℕ) (n : Nest) → slice_get old.nests i ≡ Some n → slice_get new.nests i ≡ Some n

pub keeps_self : (t : Table) → Keeps t t
keeps_self t = record { reels = omega arith; media = λ i m e. e; nests = λ i n e. e }

pub keeps_on : (a b c : Table) → Keeps a b → Keeps b c → Keeps a c
keeps_on a b c h k = record {
  reels = omega (arith, h.reels, k.reels);
  media = λ i m e. k.media i m (h.media i m e);
  nests = λ i n e. k.nests i n (h.nests i n e);
}

bounds_kept : (old new : Table) → Keeps old new → (what : What) (b : ℕ × ℕ) → bounds_of old what ≡ Some b → bounds_of new what ≡ Some b
bounds_kept old new k (MediaOf i) b h = by_entry (slice_get old.media i) refl h where
  by_entry : (o : Option Media) → slice_get old.media i ≡ o → option_map (λ (e : Media). (e.from, e.to)) o ≡ Some b → option_map (λ (e : Media). (e.from, e.to)) (slice_get new.media i) ≡ Some b
  by_entry None e g = cc
  by_entry (Some m) e g = ap (option_map (λ (e : Media). (e.from, e.to))) (k.media i m e) ∙ g
bounds_kept old new k (NestOf i) b h = by_entry (slice_get old.nests i) refl h where
  by_entry : (o : Option Nest) → slice_get old.nests i ≡ o → option_map (λ (e : Nest). (0, e.length)) o ≡ Some b → option_map (λ (e : Nest). (0, e.length)) (slice_get new.nests i) ≡ Some b
  by_entry None e g = cc
  by_entry (Some n) e g = ap (option_map (λ (e : Nest). (0, e.length))) (k.nests i n e) ∙ g

-- an item or gap has the source frames [from, to) of its thing
abbrev pub HasBounds : Table → Side What → ℕ → ℕ → Type 0
HasBounds table Dark from to = Unit {0}
HasBounds table (Pic what source) from to = bounds_of table what ≡ Some (from, to)

pub has_bounds_kept : (old new : Table) → Keeps old new → (side : Side What) (from to : ℕ) → HasBounds old side from to → HasBounds new side from to
has_bounds_kept old new k Dark from to h = tt
has_bounds_kept old new k (Pic what source) from to h = bounds_kept old new k what (from, to) h

side_kept : (old new : Table) → Keeps old new → (side : Side What) (len before after : ℕ) → SideLiesIn old side len before after → SideLiesIn new side len before after
side_kept old new k Dark len before after h = tt
side_kept old new k (Pic what s) len before after h = by_bounds (bounds_of old what) refl h where
  by_bounds : (o : Option (ℕ × ℕ)) → bounds_of old what ≡ o → LiesIn o s len before after → LiesIn (bounds_of new what) s len before after
  by_bounds None e l = absurd l
  by_bounds (Some b) e l = subst (λ q. LiesIn q s len before after) (sym (bounds_kept old new k what b e)) l

each_kept : (old new : Table) → Keeps old new → (vs : List ItemView) → EachLiesIn old vs → EachLiesIn new vs
each_kept old new k [] h = tt
each_kept old new k (v ∷ vs) h = (side_kept old new k v.first v.len (left_reach v.mark) (right_reach (first_mark vs)) h.0, each_kept old new k vs h.1)

pub good_kept : (old new : Table) → Keeps old new → (t : TrackState) → IsGood old t → IsGood new t
good_kept old new k t h = record { kept = h.kept; ranges = each_kept old new k (items_of t.cells) h.ranges; links = h.links; frames = h.frames; items = h.items }

-- ---- nests in one another

side_has : (P Q : What → Type 0) → ((w : What) → P w → Q w) → (side : Side What) → SideHas P side → SideHas Q side
side_has P Q f Dark h = tt
side_has P Q f (Pic what s) h = f what h

each_has : (P Q : What → Type 0) → ((w : What) → P w → Q w) → (vs : List ItemView) → EachHas P vs → EachHas Q vs
each_has P Q f [] h = tt
each_has P Q f (v ∷ vs) h = (side_has P Q f v.first h.0, each_has P Q f vs h.1)

pub deep_kept : (old new : Table) → Keeps old new → (n : ℕ) (w : What) → IsDeep old.nests n w → IsDeep new.nests n w
deep_kept old new k n (MediaOf m) h = tt
deep_kept old new k zero (NestOf j) h = h
deep_kept old new k (suc n) (NestOf j) h = (h.0, k.nests j h.0 h.1, All-weaker (λ (l : Layer). EachHas (IsDeep old.nests n) (items_of l.track.cells)) (λ (l : Layer). EachHas (IsDeep new.nests n) (items_of l.track.cells)) (λ l g. each_has (IsDeep old.nests n) (IsDeep new.nests n) (deep_kept old new k n) (items_of l.track.cells) g) h.0.layers h.2)

pub deep_more : (nests : List Nest) (n m : ℕ) → n ≤ m → (w : What) → IsDeep nests n w → IsDeep nests m w
deep_more nests n m le (MediaOf i) h = tt
deep_more nests zero m le (NestOf j) h = absurd h
deep_more nests (suc n) zero le (NestOf j) h = absurd (omega (arith, le))
deep_more nests (suc n) (suc m) le (NestOf j) h = (h.0, h.1, All-weaker (λ (l : Layer). EachHas (IsDeep nests n) (items_of l.track.cells)) (λ (l : Layer). EachHas (IsDeep nests m) (items_of l.track.cells)) (λ l g. each_has (IsDeep nests n) (IsDeep nests m) (deep_more nests n m (omega (arith, le))) (items_of l.track.cells) g) h.0.layers h.2)

pub side_deep_kept : (old new : Table) → Keeps old new → (n : ℕ) (side : Side What) → SideHas (IsDeep old.nests n) side → SideHas (IsDeep new.nests n) side
side_deep_kept old new k n side h = side_has (IsDeep old.nests n) (IsDeep new.nests n) (deep_kept old new k n) side h

-- ---- tracks, layers and nests

pub track_kept : (old new : Table) → Keeps old new → (n : ℕ) (t : TrackState) → IsReadTrack old n t → IsReadTrack new n t
track_kept old new k n t h = record {
  good = good_kept old new k t h.good;
  unlinked = h.unlinked;
  deep = each_has (IsDeep old.nests n) (IsDeep new.nests n) (deep_kept old new k n) (items_of t.cells) h.deep;
  next_item = h.next_item;
  next_link = h.next_link;
}

track_more : (table : Table) (n m : ℕ) → n ≤ m → (t : TrackState) → IsReadTrack table n t → IsReadTrack table m t
track_more table n m le t h = record {
  good = h.good;
  unlinked = h.unlinked;
  deep = each_has (IsDeep table.nests n) (IsDeep table.nests m) (deep_more table.nests n m le) (items_of t.cells) h.deep;
  next_item = h.next_item;
  next_link = h.next_link;
}

pub layer_kept : (old new : Table) → Keeps old new → (n : ℕ) (l : Layer) → IsSoundLayer old n l → IsSoundLayer new n l
layer_kept old new k n l h = record { track = track_kept old new k n l.track h.track; ordered = h.ordered; within = h.within }

layer_more : (table : Table) (n m : ℕ) → n ≤ m → (l : Layer) → IsSoundLayer table n l → IsSoundLayer table m l
layer_more table n m le l h = record { track = track_more table n m le l.track h.track; ordered = h.ordered; within = h.within }

pub nest_kept : (old new : Table) → Keeps old new → (n : ℕ) (nest : Nest) → IsSoundNest old n nest → IsSoundNest new n nest
nest_kept old new k n nest h = record { layers = All-weaker (IsSoundLayer old n) (IsSoundLayer new n) (layer_kept old new k n) nest.layers h.layers; as_long = h.as_long }

pub nest_more : (table : Table) (n m : ℕ) → n ≤ m → (nest : Nest) → IsSoundNest table n nest → IsSoundNest table m nest
nest_more table n m le nest h = record { layers = All-weaker (IsSoundLayer table n) (IsSoundLayer table m) (layer_more table n m le) nest.layers h.layers; as_long = h.as_long }

pub media_kept : (old new : Table) → Keeps old new → (m : Media) → IsSoundMedia old m → IsSoundMedia new m
media_kept old new k m h = record { reel = omega (arith, h.reel, k.reels); filled = h.filled; within = h.within }

-- ---- a table that was read further

pub record Grown (old new : Table) : Type 0 where
  pub keeps : Keeps old new
  pub kinds : new.kinds ≡ old.kinds
  pub sound : IsSoundTable new

pub grown_self : (t : Table) → IsSoundTable t → Grown t t
grown_self t h = record { keeps = keeps_self t; kinds = refl; sound = h }

pub grown_on : (a b c : Table) → Grown a b → Grown b c → Grown a c
grown_on a b c h k = record { keeps = keeps_on a b c h.keeps k.keeps; kinds = k.kinds ∙ h.kinds; sound = k.sound }
