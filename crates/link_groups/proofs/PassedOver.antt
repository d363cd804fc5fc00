-- Items and gaps without links that are passed by.
use Rattle.std.proofs.Common.{◌≡◌, ℕ, zero, suc, ◌+◌, ◌-◌, ◌<◌, ◌≤◌, ◌^◌, List, [], ◌∷◌, ◌++◌, length, take, drop, slice_get, Some, sym, ap, ◌∙◌, arith}
use Rattle.std.specs.List.{list_any}
use Rattle.std.proofs.lemmas.List.{drop-drop, length-drop, take_all}
use Rattle.std.proofs.lemmas.List.Folds.{list_any-append}
use Rattle.frame_meaning.specs.declared.cells.Cell.{Cell}
use Rattle.composables.specs.declared.items.ItemView.{ItemView}
use Rattle.composables.specs.Good.{AllUnlinked}
use Rattle.composables.specs.Items.{cells_of, items_of}
use Rattle.composables.specs.Joined.{frames_in}
use Rattle.composables.specs.Links.{least_link, least_outside}
use Rattle.composables.specs.TrackFacts.{EachHolds, IsKept}
use Rattle.composables.specs.TrackState.{TrackState}
use Rattle.composables.proofs.Frames.{frames_in-append}
use Rattle.composables.proofs.Joining.{cells_of-append, length-cells_of}
use Rattle.composables.proofs.Pieces.{left-first, left-rest}
use Rattle.link_groups.specs.Splits.{has_key}
use Rattle.link_groups.proofs.Bare.{bare-drop, bare-keys, bare-outside, bare-take, bare-views, or_none}
use Rattle.link_groups.proofs.LeastLinks.{drop_over, frames-more, least-none, outside-append}
use Rattle.link_groups.proofs.LinkedCells.{take-over}

-- those up to an index, and so many more
pub take_parts : (i n : ℕ) (vs : List ItemView) → take (i + n) vs ≡ take i vs ++ take n (drop i vs)
take_parts zero n vs = let e : 0 + n ≡ n = omega arith in ap (λ (k : ℕ). take k vs) e
take_parts (suc i) n [] =
    let e : suc i + n ≡ suc (i + n) = omega arith in
    let none : take n (drop (suc i) []) ≡ [] = take_all {A = ItemView} n [] (omega arith) in
    ap (λ (k : ℕ). take {A = ItemView} k []) e ∙ sym none
take_parts (suc i) n (v ∷ vs) =
    let e : suc i + n ≡ suc (i + n) = omega arith in
    ap (λ (k : ℕ). take k (v ∷ vs)) e ∙ ap (λ (ws : List ItemView). v ∷ ws) (take_parts i n vs)

-- a reader of items and gaps that stands at an index, which begins at this frame
pub record Reads (vs left : List ItemView) (i at : ℕ) : Type 0 where
  pub within : i ≤ length vs
  pub left_is : left ≡ drop i vs
  pub at_is : at ≡ frames_in (take i vs)

-- it passes by some
pub reads-on : (vs old new : List ItemView) (i at n s : ℕ) → Reads vs old i at → n ≤ length old → new ≡ drop n old → s ≡ frames_in (take n old) → Reads vs new (i + n) (at + s)
reads-on vs old new i at n s r few left frames =
    let more : frames_in (take (i + n) vs) ≡ frames_in (take i vs) + frames_in (take n old) =
    ap frames_in (take_parts i n vs)
    ∙ (frames_in-append (take i vs) (take n (drop i vs)) ∙ ap (λ (ws : List ItemView). frames_in (take i vs) + frames_in (take n ws)) (sym r.left_is)) in
    record {
      within = omega (arith, r.within, few, ap length r.left_is, length-drop i vs);
      left_is = left ∙ (ap (λ (ws : List ItemView). drop n ws) r.left_is ∙ drop-drop n i vs);
      at_is = omega (arith, r.at_is, frames, more);
    }

-- and reads the first that is left
pub reads-next : (vs old new : List ItemView) (i at : ℕ) (v : ItemView) → Reads vs old i at → old ≡ v ∷ new → Reads vs new (i + 1) (at + v.len)
reads-next vs old new i at v r e =
    let read : slice_get vs i ≡ Some v = left-first vs old new i v r.left_is e in
    record {
      within = omega (arith, ap length r.left_is, length-drop i vs, ap length e);
      left_is = left-rest vs old new i v r.left_is e;
      at_is = omega (arith, r.at_is, frames-more vs i v read);
    }

-- where none is left
pub reads-none : (vs left : List ItemView) (i : ℕ) → left ≡ drop i vs → left ≡ [] → length vs ≤ i
reads-none vs left i is none = omega (arith, ap length is, ap length none, length-drop i vs)

-- a track has few items and gaps
few_filled : (vs : List ItemView) → EachHolds vs → length vs ≤ frames_in vs
few_filled [] h = omega arith
few_filled (v ∷ vs) h = omega (arith, h.0.filled, few_filled vs h.1)

pub few-kept : (t : TrackState) → IsKept t → length (items_of t.cells) < 2 ^ 32
few-kept t kept = omega (arith, few_filled (items_of t.cells) kept.each, length-cells_of (items_of t.cells), ap length kept.whole, kept.short)

-- all of them have all that stands on their track
pub front-all : (q : ℕ × ℕ) (x i : ℕ) (t : TrackState) → IsKept t → length (items_of t.cells) ≤ i
    → list_any (has_key q) (take x (cells_of (take i (items_of t.cells)))) ≡ list_any (has_key q) (take x t.cells)
front-all q x i t kept le =
    ap (λ (vs : List ItemView). list_any (has_key q) (take x (cells_of vs))) (take_all i (items_of t.cells) le)
    ∙ ap (λ (cs : List Cell). list_any (has_key q) (take x cs)) kept.whole

-- the cells of those up to an index, and of so many more
pub cells_parts : (i n : ℕ) (vs old : List ItemView) → old ≡ drop i vs → cells_of (take (i + n) vs) ≡ cells_of (take i vs) ++ cells_of (take n old)
cells_parts i n vs old is =
    ap cells_of (take_parts i n vs)
    ∙ (cells_of-append (take i vs) (take n (drop i vs)) ∙ ap (λ (ws : List ItemView). cells_of (take i vs) ++ cells_of (take n ws)) (sym is))

-- the cells before a place have no more links where those have none
pub front-bare : (q : ℕ × ℕ) (x i n : ℕ) (vs old : List ItemView) → old ≡ drop i vs → AllUnlinked (take n old)
    → list_any (has_key q) (take x (cells_of (take i vs))) ≡ list_any (has_key q) (take x (cells_of (take (i + n) vs)))
front-bare q x i n vs old is u =
    let cs = cells_of (take i vs) in
    let ds = cells_of (take n old) in
    let parts = cells_parts i n vs old is in
    or_none (list_any (has_key q) (take x cs)) (list_any (has_key q) (take (x - length cs) ds)) (bare-keys q (take (x - length cs) ds) (bare-take (x - length cs) ds (bare-views (take n old) u)))
    ∙ sym
    (ap (λ (ks : List Cell). list_any (has_key q) (take x ks)) parts
    ∙ (ap (list_any (has_key q)) (take-over x cs ds) ∙ list_any-append (has_key q) (take x cs) (take (x - length cs) ds)))

-- so have those from a place on
pub rest-bare : (q : ℕ × ℕ) (y i n : ℕ) (vs old : List ItemView) → old ≡ drop i vs → AllUnlinked (take n old)
    → list_any (has_key q) (drop y (cells_of (take i vs))) ≡ list_any (has_key q) (drop y (cells_of (take (i + n) vs)))
rest-bare q y i n vs old is u =
    let cs = cells_of (take i vs) in
    let ds = cells_of (take n old) in
    let parts = cells_parts i n vs old is in
    or_none (list_any (has_key q) (drop y cs)) (list_any (has_key q) (drop (y - length cs) ds)) (bare-keys q (drop (y - length cs) ds) (bare-drop (y - length cs) ds (bare-views (take n old) u)))
    ∙ sym
    (ap (λ (ks : List Cell). list_any (has_key q) (drop y ks)) parts
    ∙ (ap (list_any (has_key q)) (drop_over y cs ds) ∙ list_any-append (has_key q) (drop y cs) (drop (y - length cs) ds)))

pub rest-all : (q : ℕ × ℕ) (y i : ℕ) (t : TrackState) → IsKept t → length (items_of t.cells) ≤ i
    → list_any (has_key q) (drop y (cells_of (take i (items_of t.cells)))) ≡ list_any (has_key q) (drop y t.cells)
rest-all q y i t kept le =
    ap (λ (vs : List ItemView). list_any (has_key q) (drop y (cells_of vs))) (take_all i (items_of t.cells) le)
    ∙ ap (λ (cs : List Cell). list_any (has_key q) (drop y cs)) kept.whole

-- and no less link that reaches past what is named
pub least-bare : (named : List TrackState) (y i n : ℕ) (vs old : List ItemView) → old ≡ drop i vs → AllUnlinked (take n old)
    → least_outside named (drop y (cells_of (take i vs))) ≡ least_outside named (drop y (cells_of (take (i + n) vs)))
least-bare named y i n vs old is u =
    let cs = cells_of (take i vs) in
    let ds = cells_of (take n old) in
    let parts = cells_parts i n vs old is in
    let none = bare-outside named (drop (y - length cs) ds) (bare-drop (y - length cs) ds (bare-views (take n old) u)) in
    sym
    (ap (λ (ks : List Cell). least_outside named (drop y ks)) parts
    ∙ (ap (least_outside named) (drop_over y cs ds)
    ∙ (outside-append named (drop y cs) (drop (y - length cs) ds)
    ∙ (ap (least_link (least_outside named (drop y cs))) none ∙ least-none (least_outside named (drop y cs))))))

pub least-all : (named : List TrackState) (y i : ℕ) (t : TrackState) → IsKept t → length (items_of t.cells) ≤ i
    → least_outside named (drop y (cells_of (take i (items_of t.cells)))) ≡ least_outside named (drop y t.cells)
least-all named y i t kept le =
    ap (λ (vs : List ItemView). least_outside named (drop y (cells_of vs))) (take_all i (items_of t.cells) le)
    ∙ ap (λ (cs : List Cell). least_outside named (drop y cs)) kept.whole
