-- Where items and gaps of any cells stand.
use Rattle.std.proofs.Common.{◌≡◌, ℕ, ◌+◌, ◌-◌, ◌<◌, ◌≤◌, Bool, true, false, cond, ltb, List, [], ◌∷◌, length, Option, Some, None, refl, ap, arith}
use Rattle.frame_meaning.specs.declared.cells.Cell.{Cell}
use Rattle.frame_meaning.specs.Cells.{same_number}
use Rattle.composables.specs.declared.items.ItemView.{ItemView}
use Rattle.composables.specs.Items.{items_of, view_from, with_cell}
use Rattle.composables.specs.Joined.{AllFilled, frames_in}
use Rattle.composables.specs.Ranges.{gap_from, range_from, range_of}
use Rattle.composables.specs.TrackState.{TrackState}
use Rattle.link_groups.specs.LinkedItems.{item_from}

frames_with : (c : Cell) (vs : List ItemView) → frames_in (with_cell c vs) ≡ frames_in vs + 1
frames_with c [] = omega arith
frames_with c (v ∷ vs) = by (same_number c.item v.item) where
  by : (b : Bool) → frames_in (cond b (view_from c v.len ∷ vs) (view_from c 0 ∷ v ∷ vs)) ≡ v.len + frames_in vs + 1
  by true = omega arith
  by false = omega arith

pub frames-all : (cs : List Cell) → frames_in (items_of cs) ≡ length cs
frames-all [] = refl
frames-all (c ∷ cs) = omega (arith, frames_with c (items_of cs), frames-all cs)

filled_with : (c : Cell) (vs : List ItemView) → AllFilled vs → AllFilled (with_cell c vs)
filled_with c [] h = (omega arith, tt)
filled_with c (v ∷ vs) h = by (same_number c.item v.item) where
  by : (b : Bool) → AllFilled (cond b (view_from c v.len ∷ vs) (view_from c 0 ∷ v ∷ vs))
  by true = (omega arith, h.1)
  by false = (omega arith, h)

pub filled-all : (cs : List Cell) → AllFilled (items_of cs)
filled-all [] = tt
filled-all (c ∷ cs) = filled_with c (items_of cs) (filled-all cs)

-- the first place of a range, and the one after its last
abbrev pub first_of : Option (ℕ × ℕ) → ℕ
first_of None = 0
first_of (Some r) = r.0

abbrev pub end_of : Option (ℕ × ℕ) → ℕ
end_of None = 0
end_of (Some r) = r.1

pub range-within : (vs : List ItemView) (p i x y : ℕ) → AllFilled vs → range_from p vs i ≡ Some (x, y) → (p ≤ x) × (x < y) × (y ≤ p + frames_in vs)
range-within [] p i x y e h = absurd cc
range-within (v ∷ vs) p i x y e h = by (same_number v.item (Some i)) h (range-within vs (p + v.len) i x y e.1) where
  by : (b : Bool) → cond b (Some (p, p + v.len)) (range_from (p + v.len) vs i) ≡ Some (x, y)
      → (range_from (p + v.len) vs i ≡ Some (x, y) → (p + v.len ≤ x) × (x < y) × (y ≤ p + v.len + frames_in vs))
      → (p ≤ x) × (x < y) × (y ≤ p + (v.len + frames_in vs))
  by true k later =
      let a : p ≡ x = ap first_of k in
      let b : p + v.len ≡ y = ap end_of k in
      (omega (arith, a), omega (arith, a, b, e.0), omega (arith, a, b))
  by false k later =
      let r = later k in
      (omega (arith, r.0), r.1, omega (arith, r.2))

pub item-range : (t : TrackState) (i x y : ℕ) → range_of t.cells i ≡ Some (x, y) → (x < y) × (y ≤ length t.cells)
item-range t i x y e =
    let r = range-within (items_of t.cells) 0 i x y (filled-all t.cells) e in
    (r.1, omega (arith, r.2, frames-all t.cells))

pub gap-within : (vs : List ItemView) (p q x y : ℕ) → gap_from p vs q ≡ Some (x, y) → (p ≤ x) × (x ≤ p + frames_in vs)
gap-within [] p q x y e = absurd cc
gap-within (v ∷ vs) p q x y e = by (ltb q v.len) (same_number v.item None) e (gap-within vs (p + v.len) (q - v.len) x y) where
  by : (b c : Bool) → cond b (cond c (Some (p, p + v.len)) None) (gap_from (p + v.len) vs (q - v.len)) ≡ Some (x, y)
      → (gap_from (p + v.len) vs (q - v.len) ≡ Some (x, y) → (p + v.len ≤ x) × (x ≤ p + v.len + frames_in vs))
      → (p ≤ x) × (x ≤ p + (v.len + frames_in vs))
  by true true k later = let a : p ≡ x = ap first_of k in (omega (arith, a), omega (arith, a))
  by true false k later = absurd cc
  by false c k later = let r = later k in (omega (arith, r.0), omega (arith, r.1))

-- the frames of an item that was found

abbrev pub ranged : Option (ℕ × ItemView) → Option (ℕ × ℕ)
ranged None = None
ranged (Some (x, v)) = Some (x, x + v.len)

pub range-item : (vs : List ItemView) (p i : ℕ) → range_from p vs i ≡ ranged (item_from p vs i)
range-item [] p i = refl
range-item (v ∷ vs) p i = by (same_number v.item (Some i)) (range-item vs (p + v.len) i) where
  by : (b : Bool) → range_from (p + v.len) vs i ≡ ranged (item_from (p + v.len) vs i)
      → cond b (Some (p, p + v.len)) (range_from (p + v.len) vs i) ≡ ranged (cond b (Some (p, v)) (item_from (p + v.len) vs i))
  by true later = refl
  by false later = later
