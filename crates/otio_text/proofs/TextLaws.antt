-- The first of some parts of a text, and those behind it.
use Rattle.std.proofs.Common.{◌≡◌, ℕ, zero, suc, ◌+◌, ◌-◌, ◌<◌, ◌≤◌, List, [], ◌∷◌, ◌++◌, length, take, drop, get_or, drop-cons, slice_get, refl, sym, ap, ◌∙◌, arith}
use Rattle.timecode12.specs.declared.rate.SequenceRate.{SequenceRate}
use Rattle.composables.specs.declared.media.Table.{Table}
use Rattle.composables.specs.declared.media.Layer.{Layer}
use Rattle.composables.specs.TrackState.{TrackState}
use Rattle.otio_text.specs.Documents.{comma, layer_in, later_layers_in, layers_in, layers_if, nest_layers, track_text, kind_at, later_tracks, tracks_text}

split_from : {A : Type 0} (xs : List A) (i : ℕ) (d : A) → i < length xs → drop i xs ≡ get_or xs i d ∷ drop (i + 1) xs
split_from xs i d h = let e : suc i ≡ i + 1 = omega arith in drop-cons xs i d h ∙ ap (λ k. get_or xs i d ∷ drop k xs) e

take_whole : {A : Type 0} (n : ℕ) (xs : List A) → length xs ≤ n → take n xs ≡ xs
take_whole zero [] h = refl
take_whole (suc n) [] h = refl
take_whole zero (x ∷ xs) h = absurd (omega (arith, h))
take_whole (suc n) (x ∷ xs) h = ap (λ ys. x ∷ ys) (take_whole n xs (omega (arith, h)))

-- all but the first
pub all_behind : {A : Type 0} (xs : List A) → take (length xs - 1) (drop 1 xs) ≡ drop 1 xs
all_behind [] = take_whole (0 - 1) [] (omega arith)
all_behind (x ∷ xs) = take_whole (suc (length xs) - 1) xs (omega arith)

pub drop_none : {A : Type 0} (xs : List A) → drop 0 xs ≡ xs
drop_none [] = refl
drop_none (x ∷ xs) = refl

module _ (table : Table) (rate : SequenceRate) (body : ℕ → List ℕ) where
  pub first_layers : (xs : List Layer) (l : Layer) → 1 ≤ length xs → l ≡ get_or xs 0 l → layers_in table rate body xs ≡ layer_in table rate body l ++ later_layers_in table rate body (drop 1 xs)
  first_layers [] l h e = absurd (omega (arith, h))
  first_layers (x ∷ xs) l h e = ap (λ y. layer_in table rate body y ++ later_layers_in table rate body xs) (sym e)

  pub next_layers : (xs : List Layer) (i : ℕ) (l : Layer) → i < length xs → l ≡ get_or xs i l
      → later_layers_in table rate body (drop i xs) ≡ comma ++ (layer_in table rate body l ++ later_layers_in table rate body (drop (i + 1) xs))
  next_layers xs i l h e = ap (later_layers_in table rate body) (split_from xs i l h) ∙ ap (λ y. comma ++ (layer_in table rate body y ++ later_layers_in table rate body (drop (i + 1) xs))) (sym e)

pub first_tracks : (table : Table) (rate : SequenceRate) (xs : List TrackState) (t : TrackState) → 1 ≤ length xs → t ≡ get_or xs 0 t → tracks_text table rate xs ≡ track_text table rate (kind_at table 0) t ++ later_tracks table rate 1 (drop 1 xs)
first_tracks table rate [] t h e = absurd (omega (arith, h))
first_tracks table rate (x ∷ xs) t h e = ap (λ y. track_text table rate (kind_at table 0) y ++ later_tracks table rate 1 xs) (sym e)

pub next_tracks : (table : Table) (rate : SequenceRate) (k : ℕ) (xs : List TrackState) (i : ℕ) (t : TrackState) → i < length xs → t ≡ get_or xs i t
    → later_tracks table rate k (drop i xs) ≡ comma ++ (track_text table rate (kind_at table k) t ++ later_tracks table rate (k + 1) (drop (i + 1) xs))
next_tracks table rate k xs i t h e = ap (later_tracks table rate k) (split_from xs i t h) ∙ ap (λ y. comma ++ (track_text table rate (kind_at table k) y ++ later_tracks table rate (k + 1) (drop (i + 1) xs))) (sym e)

pub nest_none : (table : Table) (rate : SequenceRate) (levels j : ℕ) → levels ≡ 0 → nest_layers table rate levels j ≡ []
unfolding nest_layers
nest_none table rate zero j e = refl
nest_none table rate (suc n) j e = absurd (omega (arith, e))

pub nest_inside : (table : Table) (rate : SequenceRate) (levels j : ℕ) → 0 < levels → nest_layers table rate levels j ≡ layers_if table rate (nest_layers table rate (levels - 1)) (slice_get table.nests j)
unfolding nest_layers
nest_inside table rate zero j h = absurd (omega (arith, h))
nest_inside table rate (suc n) j h = let e : n ≡ suc n - 1 = omega arith in ap (λ m. layers_if table rate (nest_layers table rate m) (slice_get table.nests j)) e
