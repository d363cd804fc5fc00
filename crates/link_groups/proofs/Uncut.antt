-- No item with a link stands on both sides of the end of what a splice puts in.
use Rattle.std.proofs.Common.{◌≡◌, ◌≢◌, ℕ, zero, suc, ◌+◌, ◌-◌, ◌<◌, ◌≤◌, ◌⊎◌, inl, inr, Bool, true, false, cond, ltb, ◌&&◌, List, [], ◌∷◌, ◌++◌, take, length, Option, Some, None, IfSome, slice_get, refl, sym, ap, ◌∙◌, arith, subst, ⊎_elim}
use Rattle.std.proofs.Math.ListN.{get_or-append}
use Rattle.std.proofs.lemmas.Bool.{cases_lt, lt-ltb}
use Rattle.std.proofs.lemmas.List.{get_or-append-add}
use Rattle.std.proofs.lemmas.Option.{slice_get_within}
use Rattle.frame_meaning.specs.declared.cells.Cell.{Cell}
use Rattle.frame_meaning.specs.declared.cells.Link.{Link}
use Rattle.frame_meaning.specs.declared.cells.Mark.{Mark}
use Rattle.frame_meaning.specs.declared.cells.What.{What}
use Rattle.frame_meaning.specs.declared.frames.Side.{Side}
use Rattle.frame_meaning.specs.declared.frames.Side.TheVariants.{Dark, Pic}
use Rattle.frame_meaning.specs.Cells.{belong, dark_cell, next_side, same_number, span}
use Rattle.frame_meaning.specs.Render.{cell_at}
use Rattle.frame_meaning.specs.Splice.{rule_of, renumbered, split_item, with_marks}
use Rattle.composables.specs.declared.items.ItemView.{ItemView}
use Rattle.composables.specs.Items.{cell_in, cells_of, items_of, marked, view_cells}
use Rattle.composables.specs.Joined.{frames_in}
use Rattle.composables.specs.TrackFacts.{IsKept, NumbersBelow, ShowsAsItem}
use Rattle.composables.specs.TrackState.{TrackState, next_past_all}
use Rattle.composables.proofs.Frames.{frames_in-take_le}
use Rattle.composables.proofs.Joining.{length-cells_of, length-view_cells, same-is, same-refl}
use Rattle.composables.proofs.Spans.{cells_from, from-more, from-zero}
use Rattle.edit_splice.specs.Laws.{ruled_cell}
use Rattle.edit_splice.specs.Splicing.{spliced_track}
use Rattle.edit_splice.proofs.Cellwise.{cell-before, cell-behind, cell-between}
use Rattle.edit_splice.proofs.Numbers.{next-rises}
use Rattle.edit_splice.proofs.Keeping.{length-spliced}
use Rattle.link_groups.proofs.LeastLinks.{frames-more}
use Rattle.link_groups.proofs.Relinking.{shows_at}
use Rattle.link_groups.specs.Renumbering.{IsUncut}

-- the cells of an item or gap
from_cell : (v : ItemView) (j k : ℕ) → j + k < v.len → cell_at (cells_from v j) k ≡ cell_in v (j + k)
from_cell v j zero h = let e : j ≡ j + 0 = omega arith in ap (λ (cs : List Cell). cell_at cs 0) (from-more v j (omega (arith, h))) ∙ ap (cell_in v) e
from_cell v j (suc k) h =
    let e : j + 1 + k ≡ j + suc k = omega arith in
    ap (λ (cs : List Cell). cell_at cs (suc k)) (from-more v j (omega (arith, h)))
    ∙ (from_cell v (j + 1) k (omega (arith, h)) ∙ ap (cell_in v) e)

view_cell : (v : ItemView) (k : ℕ) → k < v.len → cell_at (view_cells v) k ≡ cell_in v k
view_cell v k h =
    let e : 0 + k ≡ k = omega arith in
    ap (λ (cs : List Cell). cell_at cs k) (sym (from-zero v)) ∙ (from_cell v 0 k (omega (arith, h)) ∙ ap (cell_in v) e)

pub cell-there : (vs : List ItemView) (i k : ℕ) (v : ItemView) → slice_get vs i ≡ Some v → k < v.len → cell_at (cells_of vs) (frames_in (take i vs) + k) ≡ cell_in v k
cell-there [] i k v e h = absurd (omega (arith, slice_get_within [] i v e))
cell-there (w ∷ ws) zero k v e h =
    let same : w ≡ v = cc in
    let z : 0 + k ≡ k = omega arith in
    let inside : k < length (view_cells w) = omega (arith, h, length-view_cells w, ap (λ (u : ItemView). u.len) same) in
    ap (λ (p : ℕ). cell_at (view_cells w ++ cells_of ws) p) z
    ∙ (get_or-append (view_cells w) (cells_of ws) dark_cell k inside
    ∙ (view_cell w k (omega (arith, inside, length-view_cells w)) ∙ ap (λ (u : ItemView). cell_in u k) same))
cell-there (w ∷ ws) (suc i) k v e h =
    let p : w.len + frames_in (take i ws) + k ≡ length (view_cells w) + (frames_in (take i ws) + k) = omega (arith, length-view_cells w) in
    ap (λ (p : ℕ). cell_at (view_cells w ++ cells_of ws) p) p
    ∙ (get_or-append-add (view_cells w) (cells_of ws) (frames_in (take i ws) + k) dark_cell ∙ cell-there ws i k v e h)

no_link : (o : Option ℕ) (d : Side What) (l : Option Link) → o ≡ None → ShowsAsItem o d l → l ≡ None
no_link None Dark None e s = refl
no_link None Dark (Some l) e s = absurd s
no_link None (Pic w f) l e s = absurd s
no_link (Some n) d l e s = absurd cc

-- where the cells on both sides of a place belong to no item or to two
pub uncut-by : (u : TrackState) (z : ℕ) → IsKept u
    → (0 < z → z < length u.cells → (cell_at u.cells (z - 1)).item ≡ (cell_at u.cells z).item → (cell_at u.cells z).item ≡ None) → IsUncut z u
uncut-by u z kept apart i v e begins ends =
    let a : ℕ = frames_in (take i (items_of u.cells)) in
    let before : frames_in (take i (items_of u.cells)) + (z - 1 - frames_in (take i (items_of u.cells))) ≡ z - 1 = omega (arith, begins) in
    let here : frames_in (take i (items_of u.cells)) + (z - frames_in (take i (items_of u.cells))) ≡ z = omega (arith, begins) in
    let cells : cells_of (items_of u.cells) ≡ u.cells = kept.whole in
    let one : cell_at u.cells (z - 1) ≡ cell_in v (z - 1 - frames_in (take i (items_of u.cells))) =
    ap (λ (n : ℕ). cell_at u.cells n) (sym before) ∙ (ap (λ (cs : List Cell). cell_at cs (frames_in (take i (items_of u.cells)) + (z - 1 - frames_in (take i (items_of u.cells))))) (sym cells)
    ∙ cell-there (items_of u.cells) i (z - 1 - frames_in (take i (items_of u.cells))) v e (omega (arith, begins, ends))) in
    let other : cell_at u.cells z ≡ cell_in v (z - frames_in (take i (items_of u.cells))) =
    ap (λ (n : ℕ). cell_at u.cells n) (sym here) ∙ (ap (λ (cs : List Cell). cell_at cs (frames_in (take i (items_of u.cells)) + (z - frames_in (take i (items_of u.cells))))) (sym cells)
    ∙ cell-there (items_of u.cells) i (z - frames_in (take i (items_of u.cells))) v e (omega (arith, begins, ends))) in
    let inside : z < length u.cells = omega (arith, ends, frames-more (items_of u.cells) i v e, frames_in-take_le (i + 1) (items_of u.cells), length-cells_of (items_of u.cells), ap length cells) in
    let none : (cell_at u.cells z).item ≡ None = apart (omega (arith, begins)) inside (ap (λ (c : Cell). c.item) one ∙ sym (ap (λ (c : Cell). c.item) other)) in
    no_link v.item v.first v.link (sym (ap (λ (c : Cell). c.item) other) ∙ none) (shows_at (items_of u.cells) i v e kept.each)

-- the numbers of cells are below the next item number

abbrev AllBelow : ℕ → List Cell → Type 0
AllBelow n [] = Unit {0}
AllBelow n (c ∷ cs) = IfSome c.item (λ i. i < n) × AllBelow n cs

below_span : (n : ℕ) (o : Option ℕ) (d : Side What) (l : Option Link) (m : ℕ) → IfSome o (λ i. i < n) → AllBelow n (span o d l m)
below_span n o d l zero h = tt
below_span n o d l (suc m) h = (h, below_span n o (next_side d) l m h)

below_marked : (n : ℕ) (m : Option Mark) (cs : List Cell) → AllBelow n cs → AllBelow n (marked m cs)
below_marked n m [] h = tt
below_marked n m (c ∷ cs) h = h

below_append : (n : ℕ) (cs ds : List Cell) → AllBelow n cs → AllBelow n ds → AllBelow n (cs ++ ds)
below_append n [] ds h k = k
below_append n (c ∷ cs) ds h k = (h.0, below_append n cs ds h.1 k)

below_views : (n : ℕ) (vs : List ItemView) → NumbersBelow n vs → AllBelow n (cells_of vs)
below_views n [] h = tt
below_views n (v ∷ vs) h = below_append n (view_cells v) (cells_of vs) (below_marked n v.mark (span v.item v.first v.link v.len) (below_span n v.item v.first v.link v.len h.0)) (below_views n vs h.1)

below_at : (n : ℕ) (cs : List Cell) (p : ℕ) → AllBelow n cs → IfSome (cell_at cs p).item (λ i. i < n)
below_at n [] p h = tt
below_at n (c ∷ cs) zero h = h.0
below_at n (c ∷ cs) (suc p) h = below_at n cs p h.1

pub cell-below : (t : TrackState) (p : ℕ) → IsKept t → IfSome (cell_at t.cells p).item (λ i. i < t.next_item)
cell-below t p kept =
    subst (λ (cs : List Cell). IfSome (cell_at cs p).item (λ i. i < t.next_item)) kept.whole (below_at t.next_item (cells_of (items_of t.cells)) p (below_views t.next_item (items_of t.cells) kept.below))

-- the cell behind what is put in: with its number, or a fresh one

renumbered_item : (s : Option ℕ) (fresh : ℕ) (c : Cell) → ((renumbered s fresh c).item ≡ c.item) ⊎ ((renumbered s fresh c).item ≡ Some fresh)
renumbered_item None fresh c = inl refl
renumbered_item (Some i) fresh c = by (same_number c.item (Some i)) where
  by : (b : Bool) → ((cond b (record c { item = Some fresh }) c).item ≡ c.item) ⊎ ((cond b (record c { item = Some fresh }) c).item ≡ Some fresh)
  by true = inr refl
  by false = inl refl

pub some_below : (o : Option ℕ) (n i : ℕ) → IfSome o (λ i. i < n) → o ≡ Some i → i < n
some_below None n i h e = absurd cc
some_below (Some j) n i h e = let same : j ≡ i = cc in omega (arith, h, same)

-- cells that belong to one item on both sides of what is taken out do not afterwards
split_apart : (cs : List Cell) (x y fresh : ℕ) (a b : Option ℕ) → 0 < x → y < length cs → a ≡ (cell_at cs (x - 1)).item → IfSome a (λ i. i < fresh)
    → a ≡ (renumbered (split_item cs x y) fresh (record (cell_at cs y) { mark = None })).item → a ≡ None
split_apart cs x y fresh a b some less is below same = by (belong (cell_at cs (x - 1)) (cell_at cs y)) refl where
  split : (z : Bool) → belong (cell_at cs (x - 1)) (cell_at cs y) ≡ z → split_item cs x y ≡ cond z (cell_at cs y).item None
  split z e =
      ap (λ (w : Bool). cond ((w && ltb y (length cs)) && belong (cell_at cs (x - 1)) (cell_at cs y)) (cell_at cs y).item None) (lt-ltb 0 x some)
      ∙ (ap (λ (w : Bool). cond (w && belong (cell_at cs (x - 1)) (cell_at cs y)) (cell_at cs y).item None) (lt-ltb y (length cs) less)
      ∙ ap (λ (w : Bool). cond w (cell_at cs y).item None) e)

  back : (s : Option ℕ) → split_item cs x y ≡ s → a ≡ (renumbered s fresh (record (cell_at cs y) { mark = None })).item
  back s e = same ∙ ap (λ (o : Option ℕ). (renumbered o fresh (record (cell_at cs y) { mark = None })).item) e

  together : (o : Option ℕ) → (cell_at cs y).item ≡ o → same_number (cell_at cs (x - 1)).item (cell_at cs y).item ≡ true → split_item cs x y ≡ o → a ≡ None
  together None e t f = is ∙ (same-is (cell_at cs (x - 1)).item (cell_at cs y).item t ∙ e)
  together (Some i) e t f =
      let own : a ≡ Some i = is ∙ (same-is (cell_at cs (x - 1)).item (cell_at cs y).item t ∙ e) in
      let new : a ≡ Some fresh = back (Some i) f ∙ ap (λ (w : Bool). (cond w (record (record (cell_at cs y) { mark = None }) { item = Some fresh }) (record (cell_at cs y) { mark = None })).item) (ap (λ (p : Option ℕ). same_number p (Some i)) e ∙ same-refl (Some i)) in
      absurd (omega (arith, some_below a fresh fresh below new))

  by : (z : Bool) → belong (cell_at cs (x - 1)) (cell_at cs y) ≡ z → a ≡ None
  by true e = together (cell_at cs y).item refl e (split true e)
  by false e = absurd (differ e (sym is ∙ back None (split false e))) where
    differ : same_number (cell_at cs (x - 1)).item (cell_at cs y).item ≡ false → (cell_at cs (x - 1)).item ≡ (cell_at cs y).item → ⊥
    differ f g = Prim.grind (arith, sym f ∙ (ap (λ (o : Option ℕ). same_number o (cell_at cs y).item) g ∙ same-refl (cell_at cs y).item))

-- what is put in before the place y ends with a dark frame, or with an item that does not go on there
abbrev pub EndsApart : TrackState → ℕ → List ItemView → Type 0
EndsApart t y views = (0 < frames_in views)
    → ((cell_at (cells_of views) (frames_in views - 1)).item ≡ None)
    ⊎ ((n : ℕ) × ((cell_at (cells_of views) (frames_in views - 1)).item ≡ Some n) × ((cell_at t.cells y).item ≢ Some n) × (n ≢ next_past_all t.next_item views))

pub uncut-spliced : (keep : Bool) (t : TrackState) (x y : ℕ) (views : List ItemView) → IsKept t → x ≤ length t.cells → EndsApart t y views
    → IsKept (spliced_track keep t x y views) → IsUncut (x + frames_in views) (spliced_track keep t x y views)
uncut-spliced keep t x y views kept le apart after = uncut-by (spliced_track keep t x y views) (x + frames_in views) after between where
  u : TrackState
  u = spliced_track keep t x y views

  fresh : ℕ
  fresh = next_past_all t.next_item views

  all : List Cell
  all = with_marks (rule_of keep) x y 0 t.cells

  s : Option ℕ
  s = split_item t.cells x y

  put : length (cells_of views) ≡ frames_in views
  put = length-cells_of views

  long : length (spliced_track keep t x y views).cells ≡ x + frames_in views + (length t.cells - y)
  long = omega (arith, length-spliced (rule_of keep) t.cells x y (cells_of views) (next_past_all t.next_item views), put, le)

  behind : y < length t.cells → cell_at (spliced_track keep t x y views).cells (x + frames_in views) ≡ renumbered s fresh (ruled_cell (rule_of keep) t.cells x y y)
  behind less =
      let at : x + frames_in views ≡ x + length (cells_of views) + (y - y) = omega (arith, put) in
      ap (λ (n : ℕ). cell_at (spliced_track keep t x y views).cells n) at ∙ cell-behind (rule_of keep) t.cells x y (cells_of views) fresh y le (omega arith) less

  bare : (d : Cell) (m : Option Mark) → (renumbered s fresh (record d { mark = m })).item ≡ (renumbered s fresh (record d { mark = None })).item
  bare d m = by s where
    by : (s : Option ℕ) → (renumbered s fresh (record d { mark = m })).item ≡ (renumbered s fresh (record d { mark = None })).item
    by None = refl
    by (Some i) = at (same_number d.item (Some i)) where
      at : (b : Bool) → (cond b (record (record d { mark = m }) { item = Some fresh }) (record d { mark = m })).item ≡ (cond b (record (record d { mark = None }) { item = Some fresh }) (record d { mark = None })).item
      at true = refl
      at false = refl

  above : (i : ℕ) → i < t.next_item → i < fresh
  above i h = omega (arith, h, next-rises t.next_item views)

  below : (p : ℕ) → IfSome (cell_at t.cells p).item (λ i. i < next_past_all t.next_item views)
  below p = weaker (cell_at t.cells p).item (cell-below t p kept) where
    weaker : (o : Option ℕ) → IfSome o (λ i. i < t.next_item) → IfSome o (λ i. i < next_past_all t.next_item views)
    weaker None h = tt
    weaker (Some i) h = above i h

  between : 0 < x + frames_in views → x + frames_in views < length (spliced_track keep t x y views).cells
      → (cell_at (spliced_track keep t x y views).cells (x + frames_in views - 1)).item ≡ (cell_at (spliced_track keep t x y views).cells (x + frames_in views)).item
      → (cell_at (spliced_track keep t x y views).cells (x + frames_in views)).item ≡ None
  between some inside same = ⊎_elim put_some put_none (cases_lt 0 (frames_in views)) where
    less : y < length t.cells
    less = omega (arith, inside, long)

    put_some : 0 < frames_in views → (cell_at (spliced_track keep t x y views).cells (x + frames_in views)).item ≡ None
    put_some h = by (apart h) where
      at : x + (frames_in views - 1) ≡ x + frames_in views - 1
      at = omega (arith, h)

      last : (cell_at (spliced_track keep t x y views).cells (x + frames_in views - 1)).item ≡ (cell_at (cells_of views) (frames_in views - 1)).item
      last =
          ap (λ (n : ℕ). (cell_at (spliced_track keep t x y views).cells n).item) (sym at)
          ∙ ap (λ (c : Cell). c.item) (cell-between (rule_of keep) t.cells x y (cells_of views) fresh (frames_in views - 1) le (omega (arith, h, put)))

      by : ((cell_at (cells_of views) (frames_in views - 1)).item ≡ None)
          ⊎ ((n : ℕ) × ((cell_at (cells_of views) (frames_in views - 1)).item ≡ Some n) × ((cell_at t.cells y).item ≢ Some n) × (n ≢ next_past_all t.next_item views))
          → (cell_at (spliced_track keep t x y views).cells (x + frames_in views)).item ≡ None
      by (inl e) = sym same ∙ (last ∙ e)
      by (inr e) = absurd (other (renumbered_item s fresh (ruled_cell (rule_of keep) t.cells x y y))) where
        is : (renumbered s fresh (ruled_cell (rule_of keep) t.cells x y y)).item ≡ Some e.0
        is = sym (ap (λ (c : Cell). c.item) (behind less)) ∙ (sym same ∙ (last ∙ e.1))

        other : ((renumbered s fresh (ruled_cell (rule_of keep) t.cells x y y)).item ≡ (cell_at t.cells y).item) ⊎ ((renumbered s fresh (ruled_cell (rule_of keep) t.cells x y y)).item ≡ Some fresh) → ⊥
        other (inl f) = e.2 (sym f ∙ is)
        other (inr f) = e.3 (sym (some_is fresh e.0 (sym f ∙ is))) where
          some_is : (m n : ℕ) → Some m ≡ Some n → m ≡ n
          some_is m n g = cc

    put_none : frames_in views ≤ 0 → (cell_at (spliced_track keep t x y views).cells (x + frames_in views)).item ≡ None
    put_none h =
        let at : x + frames_in views - 1 ≡ x - 1 = omega (arith, h) in
        let start : 0 < x = omega (arith, some, h) in
        let first : (cell_at (spliced_track keep t x y views).cells (x + frames_in views - 1)).item ≡ (cell_at t.cells (x - 1)).item =
        ap (λ (n : ℕ). (cell_at (spliced_track keep t x y views).cells n).item) at
        ∙ ap (λ (c : Cell). c.item) (cell-before (rule_of keep) t.cells x y (cells_of views) fresh (x - 1) le (omega (arith, start))) in
        let second : (cell_at (spliced_track keep t x y views).cells (x + frames_in views)).item ≡ (renumbered s fresh (record (cell_at t.cells y) { mark = None })).item =
        ap (λ (c : Cell). c.item) (behind less) ∙ bare (cell_at t.cells y) _ in
        sym same ∙ (first ∙ split_apart t.cells x y fresh (cell_at t.cells (x - 1)).item None start less refl (below (x - 1)) (sym first ∙ (same ∙ second)))
