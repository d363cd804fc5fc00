-- An item or gap of a track that is good in a table, with its place and its cells.
use Rattle.std.proofs.Common.{◌≡◌, ℕ, zero, suc, ◌+◌, ◌-◌, ◌<◌, ◌≤◌, false, List, [], ◌∷◌, ◌++◌, take, length, Option, Some, None, IfSome, slice_get, sym, ap, ◌∙◌, arith, subst}
use Rattle.std.proofs.Math.ListN.{get_or-append}
use Rattle.std.proofs.lemmas.List.{get_or-append-add}
use Rattle.std.proofs.lemmas.Option.{slice_get_within, get_or_from_slice_get}
use Rattle.frame_meaning.specs.declared.cells.What.{What}
use Rattle.frame_meaning.specs.declared.cells.Cell.{Cell}
use Rattle.frame_meaning.specs.declared.frames.Side.{Side}
use Rattle.frame_meaning.specs.declared.frames.Side.TheVariants.{Dark, Pic}
use Rattle.frame_meaning.specs.Cells.{dark_cell, same_number}
use Rattle.frame_meaning.specs.Render.{cell_at}
use Rattle.composables.specs.declared.items.ItemView.{ItemView}
use Rattle.composables.specs.declared.items.Place.{Place}
use Rattle.composables.specs.declared.media.Table.{Table}
use Rattle.composables.specs.Bounds.{bounds_of}
use Rattle.composables.specs.Good.{EachLiesIn, IsGood, LiesIn, SideLiesIn}
use Rattle.composables.specs.Items.{cell_in, cells_of, items_of, view_cells}
use Rattle.composables.specs.Joined.{IsTight, frames_in}
use Rattle.composables.specs.Places.{StandsAt}
use Rattle.composables.specs.TrackFacts.{EachHolds, HasSource, IsKept, NumbersBelow, first_mark, left_reach, right_reach}
use Rattle.composables.specs.TrackState.{TrackState}
use Rattle.composables.proofs.Frames.{frames_in-take_more, frames_in-take_le, no_view}
use Rattle.composables.proofs.Joining.{length-cells_of, length-view_cells}
use Rattle.composables.proofs.Spans.{cells_from, from-more, from-zero, holds-source, later-zero}

-- the cells of an item or gap
from_cell : (v : ItemView) (j k : ℕ) → j + k < v.len → cell_at (cells_from v j) k ≡ cell_in v (j + k)
from_cell v j zero h = let e : j ≡ j + 0 = omega arith in ap (λ (cs : List Cell). cell_at cs 0) (from-more v j (omega (arith, h))) ∙ ap (cell_in v) e
from_cell v j (suc k) h =
    let e : j + 1 + k ≡ j + suc k = omega arith in
    ap (λ (cs : List Cell). cell_at cs (suc k)) (from-more v j (omega (arith, h)))
    ∙ (from_cell v (j + 1) k (omega (arith, h)) ∙ ap (cell_in v) e)

view_cell : (v : ItemView) (k : ℕ) → k < v.len → cell_at (view_cells v) k ≡ cell_in v k
view_cell v k h =
    let e : 0 + k ≡ k = omega arith in
    ap (λ (cs : List Cell). cell_at cs k) (sym (from-zero v)) ∙ (from_cell v 0 k (omega (arith, h)) ∙ ap (cell_in v) e)

pub cell-there : (vs : List ItemView) (i k : ℕ) (v : ItemView) → slice_get vs i ≡ Some v → k < v.len → cell_at (cells_of vs) (frames_in (take i vs) + k) ≡ cell_in v k
cell-there [] i k v e h = absurd (omega (arith, slice_get_within [] i v e))
cell-there (w ∷ ws) zero k v e h =
    let same : w ≡ v = cc in
    let z : 0 + k ≡ k = omega arith in
    let inside : k < length (view_cells w) = omega (arith, h, length-view_cells w, ap (λ (u : ItemView). u.len) same) in
    ap (λ (p : ℕ). cell_at (view_cells w ++ cells_of ws) p) z
    ∙ (get_or-append (view_cells w) (cells_of ws) dark_cell k inside
    ∙ (view_cell w k (omega (arith, inside, length-view_cells w)) ∙ ap (λ (u : ItemView). cell_in u k) same))
cell-there (w ∷ ws) (suc i) k v e h =
    let p : w.len + frames_in (take i ws) + k ≡ length (view_cells w) + (frames_in (take i ws) + k) = omega (arith, length-view_cells w) in
    ap (λ (p : ℕ). cell_at (view_cells w ++ cells_of ws) p) p
    ∙ (get_or-append-add (view_cells w) (cells_of ws) (frames_in (take i ws) + k) dark_cell ∙ cell-there ws i k v e h)

-- of two neighbours not both are gaps
pub apart-next : (vs : List ItemView) (i : ℕ) (v w : ItemView) → IsTight vs → slice_get vs i ≡ Some v → slice_get vs (suc i) ≡ Some w → same_number v.item w.item ≡ false
apart-next [] i v w h e f = absurd (omega (arith, slice_get_within [] i v e))
apart-next (a ∷ []) i v w h e f = absurd (omega (arith, slice_get_within (a ∷ []) (suc i) w f))
apart-next (a ∷ b ∷ cs) zero v w h e f =
    let one : a ≡ v = cc in
    let two : b ≡ w = cc in
    sym (ap (λ (u : ItemView). same_number u.item b.item) one ∙ ap (λ (u : ItemView). same_number v.item u.item) two) ∙ h.0
apart-next (a ∷ b ∷ cs) (suc i) v w h e f = apart-next (b ∷ cs) i v w h.1 e f

-- what each item and gap of a good track keeps
lies_less : (table : Table) (s : Side What) (len before after : ℕ) → SideLiesIn table s len before after → SideLiesIn table s len 0 0
lies_less table Dark len before after h = tt
lies_less table (Pic w s) len before after h = by (bounds_of table w) h where
  by : (o : Option (ℕ × ℕ)) → LiesIn o s len before after → LiesIn o s len 0 0
  by None h = absurd h
  by (Some r) h = (omega (arith, h.0), omega (arith, h.1))

lies_at : (table : Table) (vs : List ItemView) (i : ℕ) (v : ItemView) → slice_get vs i ≡ Some v → EachLiesIn table vs → SideLiesIn table v.first v.len 0 0
lies_at table [] i v e h = absurd (omega (arith, slice_get_within [] i v e))
lies_at table (w ∷ ws) zero v e h =
    let same : w ≡ v = cc in
    subst (λ (u : ItemView). SideLiesIn table u.first u.len 0 0) same (lies_less table w.first w.len (left_reach w.mark) (right_reach (first_mark ws)) h.0)
lies_at table (w ∷ ws) (suc i) v e h = lies_at table ws i v e h.1

holds_at : (vs : List ItemView) (i : ℕ) (v : ItemView) → slice_get vs i ≡ Some v → EachHolds vs → (0 < v.len) × HasSource v.first v.len 0 0
holds_at [] i v e h = absurd (omega (arith, slice_get_within [] i v e))
holds_at (w ∷ ws) zero v e h =
    let same : w ≡ v = cc in
    subst (λ (u : ItemView). (0 < u.len) × HasSource u.first u.len 0 0) same (h.0.filled, holds-source w ws h)
holds_at (w ∷ ws) (suc i) v e h = holds_at ws i v e h.1

pub below-there : (n : ℕ) (vs : List ItemView) (i : ℕ) (v : ItemView) → slice_get vs i ≡ Some v → NumbersBelow n vs → IfSome v.item (λ j. j < n)
below-there n [] i v e h = absurd (omega (arith, slice_get_within [] i v e))
below-there n (w ∷ ws) zero v e h = let same : w ≡ v = cc in subst (λ (u : ItemView). IfSome u.item (λ j. j < n)) same h.0
below-there n (w ∷ ws) (suc i) v e h = below-there n ws i v e h.1

-- the item or gap v with this index takes up the record frames [x, y) of a track
pub record Spot (table : Table) (t : TrackState) (i : ℕ) (v : ItemView) (x y : ℕ) : Type 0 where
  pub read : slice_get (items_of t.cells) i ≡ Some v
  pub starts : x ≡ frames_in (take i (items_of t.cells))
  pub stops : y ≡ frames_in (take (i + 1) (items_of t.cells))
  pub long : y ≡ x + v.len
  pub filled : 0 < v.len
  pub within : y ≤ length t.cells
  pub source : HasSource v.first v.len 0 0
  pub lies : SideLiesIn table v.first v.len 0 0
  pub number : IfSome v.item (λ j. j < t.next_item)
  pub cells : (k : ℕ) → k < v.len → cell_at t.cells (x + k) ≡ cell_in v k

pub length-frames : (t : TrackState) → IsKept t → length t.cells ≡ frames_in (items_of t.cells)
length-frames t kept = sym (ap length kept.whole) ∙ length-cells_of (items_of t.cells)

pub spot-of : (table : Table) (t : TrackState) (i : ℕ) (v : ItemView) (x y : ℕ) → IsGood table t → slice_get (items_of t.cells) i ≡ Some v
    → x ≡ frames_in (take i (items_of t.cells)) → y ≡ frames_in (take (i + 1) (items_of t.cells)) → Spot table t i v x y
spot-of table t i v x y good read starts stops =
    let vs = items_of t.cells in
    let inside = slice_get_within vs i v read in
    let h = holds_at vs i v read good.kept.each in
    record {
      read = read;
      starts = starts;
      stops = stops;
      long = omega (arith, starts, stops, frames_in-take_more vs i no_view inside, ap (λ (u : ItemView). u.len) (get_or_from_slice_get vs i v no_view read));
      filled = h.0;
      within = omega (arith, stops, frames_in-take_le (i + 1) vs, length-frames t good.kept);
      source = h.1;
      lies = lies_at table vs i v read good.ranges;
      number = below-there t.next_item vs i v read good.kept.below;
      cells = λ k lt.
          ap (λ (p : ℕ). cell_at t.cells (p + k)) starts
          ∙ (ap (λ (cs : List Cell). cell_at cs (frames_in (take i vs) + k)) (sym good.kept.whole) ∙ cell-there vs i k v read lt);
    }

pub spot-at : (table : Table) (t : TrackState) (p : Place) (v : ItemView) → IsGood table t → StandsAt (items_of t.cells) p → slice_get (items_of t.cells) p.index ≡ Some v
    → Spot table t p.index v p.from p.to
spot-at table t p v good stands read = spot-of table t p.index v p.from p.to good read stands.from stands.to

pub spot-head : (table : Table) (t : TrackState) (i : ℕ) (v : ItemView) (x y : ℕ) → Spot table t i v x y → cell_at t.cells x ≡ cell_in v 0
spot-head table t i v x y s = let e : x ≡ x + 0 = omega arith in ap (cell_at t.cells) e ∙ s.cells 0 s.filled

pub spot-last : (table : Table) (t : TrackState) (i : ℕ) (v : ItemView) (x y : ℕ) → Spot table t i v x y → cell_at t.cells (y - 1) ≡ cell_in v (v.len - 1)
spot-last table t i v x y s =
    let e : y - 1 ≡ x + (v.len - 1) = omega (arith, s.long, s.filled) in
    ap (cell_at t.cells) e ∙ s.cells (v.len - 1) (omega (arith, s.filled))

pub side-head : (v : ItemView) → (cell_in v 0).side ≡ v.first
side-head v = later-zero v.first
