-- A track of which one item gets a link, or loses its own.
use Rattle.std.proofs.Common.{◌≡◌, ◌≢◌, ℕ, zero, suc, ◌+◌, ◌-◌, ◌≤◌, Bool, true, false, cond, List, [], ◌∷◌, ◌++◌, take, drop, length, map, append_assoc, Option, Some, None, IfSome, slice_get, refl, sym, ap, ◌∙◌, arith, subst}
use Rattle.std.proofs.lemmas.List.{map-append}
use Rattle.std.proofs.lemmas.Option.{slice_get_within}
use Rattle.frame_meaning.specs.declared.cells.Cell.{Cell}
use Rattle.frame_meaning.specs.declared.cells.Link.{Link}
use Rattle.frame_meaning.specs.declared.cells.Mark.{Mark}
use Rattle.frame_meaning.specs.declared.cells.What.{What}
use Rattle.frame_meaning.specs.declared.frames.Side.{Side}
use Rattle.frame_meaning.specs.declared.frames.Side.TheVariants.{Dark, Pic}
use Rattle.frame_meaning.specs.Cells.{next_side, same_number, span}
use Rattle.composables.specs.declared.items.ItemView.{ItemView}
use Rattle.composables.specs.declared.media.Table.{Table}
use Rattle.composables.specs.Changes.{changed_at, changed_track, with_link}
use Rattle.composables.specs.Good.{EachLiesIn, EachLinkOf, IsGood, IsLinkOf, SideLiesIn}
use Rattle.composables.specs.Items.{cells_of, items_of, marked, view_cells}
use Rattle.composables.specs.TrackFacts.{Apart, EachHolds, Holds, IsKept, Lacks, NumbersBelow, ShowsAsItem, first_mark, left_reach, right_reach}
use Rattle.composables.specs.TrackState.{TrackState}
use Rattle.composables.proofs.Changing.{LeavesShape, filled-changed, frames_in-changed, tight-changed}
use Rattle.composables.proofs.Joining.{items_of-tight, length-cells_of, length-view_cells, same-is, same-refl}
use Rattle.composables.proofs.MarkStanding.{filled_of, tight_of}
use Rattle.link_groups.specs.LinkedItems.{item_from, item_of, linked_found, linked_item, linked_on}

-- a cell of the item with this number gets this link, or loses its own
abbrev pub linked_cell : ℕ → Option Link → Cell → Cell
linked_cell i link c = cond (same_number c.item (Some i)) (record c { link = link }) c

-- the cells of an item or gap

span_other : (i : ℕ) (link : Option Link) (o : Option ℕ) (s : Side What) (l : Option Link) (n : ℕ) → same_number o (Some i) ≡ false → map (linked_cell i link) (span o s l n) ≡ span o s l n
span_other i link o s l zero e = refl
span_other i link o s l (suc n) e =
    let c : Cell = record { item = o; side = s; mark = None; link = l } in
    ap (λ (b : Bool). cond b (record c { link = link }) c ∷ map (linked_cell i link) (span o (next_side s) l n)) e
    ∙ ap (λ (cs : List Cell). c ∷ cs) (span_other i link o (next_side s) l n e)

span_linked : (i : ℕ) (link : Option Link) (o : Option ℕ) (s : Side What) (l : Option Link) (n : ℕ) → same_number o (Some i) ≡ true → map (linked_cell i link) (span o s l n) ≡ span o s link n
span_linked i link o s l zero e = refl
span_linked i link o s l (suc n) e =
    let c : Cell = record { item = o; side = s; mark = None; link = l } in
    ap (λ (b : Bool). cond b (record c { link = link }) c ∷ map (linked_cell i link) (span o (next_side s) l n)) e
    ∙ ap (λ (cs : List Cell). record c { link = link } ∷ cs) (span_linked i link o (next_side s) l n e)

marked_linked : (i : ℕ) (link : Option Link) (m : Option Mark) (cs : List Cell) → map (linked_cell i link) (marked m cs) ≡ marked m (map (linked_cell i link) cs)
marked_linked i link m [] = refl
marked_linked i link m (c ∷ cs) = ap (λ (d : Cell). d ∷ map (linked_cell i link) cs) (by (same_number c.item (Some i))) where
  by : (b : Bool) → cond b (record (record c { mark = m }) { link = link }) (record c { mark = m }) ≡ record (cond b (record c { link = link }) c) { mark = m }
  by true = refl
  by false = refl

view_other : (i : ℕ) (link : Option Link) (v : ItemView) → same_number v.item (Some i) ≡ false → map (linked_cell i link) (view_cells v) ≡ view_cells v
view_other i link v e = marked_linked i link v.mark (span v.item v.first v.link v.len) ∙ ap (marked v.mark) (span_other i link v.item v.first v.link v.len e)

view_linked : (i : ℕ) (link : Option Link) (v : ItemView) → same_number v.item (Some i) ≡ true → map (linked_cell i link) (view_cells v) ≡ view_cells (with_link link v)
view_linked i link v e = marked_linked i link v.mark (span v.item v.first v.link v.len) ∙ ap (marked v.mark) (span_linked i link v.item v.first v.link v.len e)

-- those of all

pub not_same : (o : Option ℕ) (i : ℕ) → o ≢ Some i → same_number o (Some i) ≡ false
not_same o i n = by (same_number o (Some i)) refl where
  by : (b : Bool) → same_number o (Some i) ≡ b → b ≡ false
  by true e = absurd (n (same-is o (Some i) e))
  by false e = refl

pub is_same : (o : Option ℕ) (i : ℕ) → o ≡ Some i → same_number o (Some i) ≡ true
is_same o i e = ap (λ (p : Option ℕ). same_number p (Some i)) e ∙ same-refl (Some i)

cells_other : (i : ℕ) (link : Option Link) (vs : List ItemView) → Lacks i vs → map (linked_cell i link) (cells_of vs) ≡ cells_of vs
cells_other i link [] h = refl
cells_other i link (v ∷ vs) h =
    map-append (linked_cell i link) (view_cells v) (cells_of vs)
    ∙ (ap (λ (cs : List Cell). cs ++ map (linked_cell i link) (cells_of vs)) (view_other i link v (not_same v.item i h.0))
    ∙ ap (λ (cs : List Cell). view_cells v ++ cs) (cells_other i link vs h.1))

pub lacks_there : (i : ℕ) (vs : List ItemView) (k : ℕ) (v : ItemView) → Lacks i vs → slice_get vs k ≡ Some v → v.item ≡ Some i → ⊥
lacks_there i [] k v h e is = absurd (omega (arith, slice_get_within [] k v e))
lacks_there i (w ∷ ws) zero v h e is = let same : w ≡ v = cc in h.0 (ap (λ (u : ItemView). u.item) same ∙ is)
lacks_there i (w ∷ ws) (suc k) v h e is = lacks_there i ws k v h.1 e is

pub lacks_of : (o : Option ℕ) (i : ℕ) (vs : List ItemView) → IfSome o (λ j. Lacks j vs) → o ≡ Some i → Lacks i vs
lacks_of None i vs h e = absurd cc
lacks_of (Some j) i vs h e = let same : j ≡ i = cc in subst (λ (n : ℕ). Lacks n vs) same h

cells_linked : (i : ℕ) (link : Option Link) (vs : List ItemView) (k : ℕ) (v : ItemView) → Apart vs → slice_get vs k ≡ Some v → v.item ≡ Some i
    → map (linked_cell i link) (cells_of vs) ≡ cells_of (changed_at (with_link link) k vs)
cells_linked i link [] k v a e is = absurd (omega (arith, slice_get_within [] k v e))
cells_linked i link (w ∷ ws) zero v a e is =
    let same : w ≡ v = cc in
    let number : w.item ≡ Some i = ap (λ (u : ItemView). u.item) same ∙ is in
    map-append (linked_cell i link) (view_cells w) (cells_of ws)
    ∙ (ap (λ (cs : List Cell). cs ++ map (linked_cell i link) (cells_of ws)) (view_linked i link w (is_same w.item i number))
    ∙ ap (λ (cs : List Cell). view_cells (with_link link w) ++ cs) (cells_other i link ws (lacks_of w.item i ws a.0 number)))
cells_linked i link (w ∷ ws) (suc k) v a e is =
    let other : w.item ≢ Some i = λ n. lacks_there i ws k v (lacks_of w.item i ws a.0 n) e is in
    map-append (linked_cell i link) (view_cells w) (cells_of ws)
    ∙ (ap (λ (cs : List Cell). cs ++ map (linked_cell i link) (cells_of ws)) (view_other i link w (not_same w.item i other))
    ∙ ap (λ (cs : List Cell). view_cells w ++ cs) (cells_linked i link ws k v a.1 e is))

-- on a track the cells of the item with a number are those at its record frames

set_span : (link : Option Link) (o : Option ℕ) (s : Side What) (l : Option Link) (n : ℕ) → map (λ (c : Cell). record c { link = link }) (span o s l n) ≡ span o s link n
set_span link o s l zero = refl
set_span link o s l (suc n) =
    ap (λ (cs : List Cell). record { item = o; side = s; mark = None; link = link } ∷ cs) (set_span link o (next_side s) l n)

set_marked : (link : Option Link) (m : Option Mark) (cs : List Cell) → map (λ (c : Cell). record c { link = link }) (marked m cs) ≡ marked m (map (λ (c : Cell). record c { link = link }) cs)
set_marked link m [] = refl
set_marked link m (c ∷ cs) = refl

set_view : (link : Option Link) (v : ItemView) → map (λ (c : Cell). record c { link = link }) (view_cells v) ≡ view_cells (with_link link v)
set_view link v = set_marked link v.mark (span v.item v.first v.link v.len) ∙ ap (marked v.mark) (set_span link v.item v.first v.link v.len)

pub take_past : (n : ℕ) (cs ds : List Cell) → length cs ≤ n → take n (cs ++ ds) ≡ cs ++ take (n - length cs) ds
take_past n [] ds le = let e : n ≡ n - 0 = omega arith in ap (λ (k : ℕ). take k ds) e
take_past zero (c ∷ cs) ds le = absurd (omega (arith, le))
take_past (suc n) (c ∷ cs) ds le =
    let e : n - length cs ≡ suc n - length (c ∷ cs) = omega arith in
    ap (λ (xs : List Cell). c ∷ xs) (take_past n cs ds (omega (arith, le)) ∙ ap (λ (k : ℕ). cs ++ take k ds) e)

pub drop_past : (n : ℕ) (cs ds : List Cell) → length cs ≤ n → drop n (cs ++ ds) ≡ drop (n - length cs) ds
drop_past n [] ds le = let e : n ≡ n - 0 = omega arith in ap (λ (k : ℕ). drop k ds) e
drop_past zero (c ∷ cs) ds le = absurd (omega (arith, le))
drop_past (suc n) (c ∷ cs) ds le =
    let e : n - length cs ≡ suc n - length (c ∷ cs) = omega arith in
    drop_past n cs ds (omega (arith, le)) ∙ ap (λ (k : ℕ). drop k ds) e

-- cells before the places stay
on_past : (x y : ℕ) (link : Option Link) (cs ds : List Cell) → length cs ≤ x → x ≤ y → linked_on x y link (cs ++ ds) ≡ cs ++ linked_on (x - length cs) (y - length cs) link ds
on_past x y link cs ds le order =
    let set : Cell → Cell = λ c. record c { link = link } in
    let front : take x (cs ++ ds) ≡ cs ++ take (x - length cs) ds = take_past x cs ds le in
    let mid : drop x (take y (cs ++ ds)) ≡ drop (x - length cs) (take (y - length cs) ds) =
    ap (drop x) (take_past y cs ds (omega (arith, le, order))) ∙ drop_past x cs (take (y - length cs) ds) le in
    let back : drop y (cs ++ ds) ≡ drop (y - length cs) ds = drop_past y cs ds (omega (arith, le, order)) in
    ap (λ (fs : List Cell). (fs ++ map set (drop x (take y (cs ++ ds)))) ++ drop y (cs ++ ds)) front
    ∙ (ap (λ (ms : List Cell). ((cs ++ take (x - length cs) ds) ++ map set ms) ++ drop y (cs ++ ds)) mid
    ∙ (ap (λ (bs : List Cell). ((cs ++ take (x - length cs) ds) ++ map set (drop (x - length cs) (take (y - length cs) ds))) ++ bs) back
    ∙ (ap (λ (fs : List Cell). fs ++ drop (y - length cs) ds) (append_assoc cs (take (x - length cs) ds) (map set (drop (x - length cs) (take (y - length cs) ds))))
    ∙ append_assoc cs (take (x - length cs) ds ++ map set (drop (x - length cs) (take (y - length cs) ds))) (drop (y - length cs) ds))))

-- those at the places, where these are the first
on_first : (link : Option Link) (cs ds : List Cell) → linked_on 0 (length cs) link (cs ++ ds) ≡ map (λ (c : Cell). record c { link = link }) cs ++ ds
on_first link [] ds = refl
on_first link (c ∷ cs) ds = ap (λ (xs : List Cell). record c { link = link } ∷ xs) (on_first link cs ds)

abbrev found_view : ItemView → Option (ℕ × ItemView) → ItemView
found_view d None = d
found_view d (Some (x, v)) = v

abbrev found_place : Option (ℕ × ItemView) → ℕ
found_place None = 0
found_place (Some (x, v)) = x

found_after : (p i x : ℕ) (v : ItemView) (vs : List ItemView) → item_from p vs i ≡ Some (x, v) → p ≤ x
found_after p i x v [] e = absurd cc
found_after p i x v (w ∷ ws) e = by (same_number w.item (Some i)) e (λ k. found_after (p + w.len) i x v ws k) where
  by : (b : Bool) → cond b (Some (p, w)) (item_from (p + w.len) ws i) ≡ Some (x, v) → (item_from (p + w.len) ws i ≡ Some (x, v) → p + w.len ≤ x) → p ≤ x
  by true k later = let a : p ≡ x = ap found_place k in omega (arith, a)
  by false k later = omega (arith, later k)

by_range : (i p x : ℕ) (link : Option Link) (v : ItemView) (vs : List ItemView) → Apart vs → item_from p vs i ≡ Some (x, v)
    → linked_on (x - p) (x - p + v.len) link (cells_of vs) ≡ map (linked_cell i link) (cells_of vs)
by_range i p x link v [] a e = absurd cc
by_range i p x link v (w ∷ ws) a e = by (same_number w.item (Some i)) refl e (λ k. by_range i (p + w.len) x link v ws a.1 k) where
  long : length (view_cells w) ≡ w.len
  long = length-view_cells w

  by : (b : Bool) → same_number w.item (Some i) ≡ b → cond b (Some (p, w)) (item_from (p + w.len) ws i) ≡ Some (x, v)
      → (item_from (p + w.len) ws i ≡ Some (x, v) → linked_on (x - (p + w.len)) (x - (p + w.len) + v.len) link (cells_of ws) ≡ map (linked_cell i link) (cells_of ws))
      → linked_on (x - p) (x - p + v.len) link (view_cells w ++ cells_of ws) ≡ map (linked_cell i link) (view_cells w ++ cells_of ws)
  by true f k later =
      let start : x - p ≡ 0 = let at : p ≡ x = ap found_place k in omega (arith, at) in
      let same : w ≡ v = ap (found_view w) k in
      let end : x - p + v.len ≡ length (view_cells w) = omega (arith, start, long, ap (λ (u : ItemView). u.len) same) in
      let number : w.item ≡ Some i = same-is w.item (Some i) f in
      ap (λ (n : ℕ). linked_on n (x - p + v.len) link (view_cells w ++ cells_of ws)) start
      ∙ (ap (λ (n : ℕ). linked_on 0 n link (view_cells w ++ cells_of ws)) end
      ∙ (on_first link (view_cells w) (cells_of ws)
      ∙ (ap (λ (cs : List Cell). cs ++ cells_of ws) (set_view link w ∙ sym (view_linked i link w f))
      ∙ (ap (λ (cs : List Cell). map (linked_cell i link) (view_cells w) ++ cs) (sym (cells_other i link ws (lacks_of w.item i ws a.0 number)))
      ∙ sym (map-append (linked_cell i link) (view_cells w) (cells_of ws))))))
  by false f k later =
      let after = found_after (p + w.len) i x v ws k in
      let start : x - p - length (view_cells w) ≡ x - (p + w.len) = omega (arith, long) in
      let end : x - p + v.len - length (view_cells w) ≡ x - (p + w.len) + v.len = omega (arith, long, after) in
      on_past (x - p) (x - p + v.len) link (view_cells w) (cells_of ws) (omega (arith, long, after)) (omega arith)
      ∙ (ap (λ (n : ℕ). view_cells w ++ linked_on n (x - p + v.len - length (view_cells w)) link (cells_of ws)) start
      ∙ (ap (λ (n : ℕ). view_cells w ++ linked_on (x - (p + w.len)) n link (cells_of ws)) end
      ∙ (ap (λ (cs : List Cell). view_cells w ++ cs) (later k)
      ∙ (ap (λ (cs : List Cell). cs ++ map (linked_cell i link) (cells_of ws)) (sym (view_other i link w f))
      ∙ sym (map-append (linked_cell i link) (view_cells w) (cells_of ws))))))

none_lacks : (p i : ℕ) (vs : List ItemView) → item_from p vs i ≡ None → Lacks i vs
none_lacks p i [] e = tt
none_lacks p i (w ∷ ws) e = by (same_number w.item (Some i)) refl e (λ k. none_lacks (p + w.len) i ws k) where
  by : (b : Bool) → same_number w.item (Some i) ≡ b → cond b (Some (p, w)) (item_from (p + w.len) ws i) ≡ None → (item_from (p + w.len) ws i ≡ None → Lacks i ws) → (w.item ≢ Some i) × Lacks i ws
  by true f k later = absurd cc
  by false f k later = ((λ n. differ (sym f ∙ is_same w.item i n)), later k) where
    differ : false ≡ true → ⊥
    differ z = cc

pub linked-is : (t : TrackState) (i : ℕ) (link : Option Link) → IsKept t → linked_item t i link ≡ record t { cells = map (linked_cell i link) t.cells }
linked-is t i link kept = ap (λ (cs : List Cell). record t { cells = cs }) (by (item_of t i) refl) where
  whole : cells_of (items_of t.cells) ≡ t.cells
  whole = kept.whole

  by : (o : Option (ℕ × ItemView)) → item_of t i ≡ o → linked_found t.cells link o ≡ map (linked_cell i link) t.cells
  by None e = sym whole ∙ (sym (cells_other i link (items_of t.cells) (none_lacks 0 i (items_of t.cells) e)) ∙ ap (map (linked_cell i link)) whole)
  by (Some (x, v)) e =
      let start : x ≡ x - 0 = omega arith in
      ap (linked_on x (x + v.len) link) (sym whole)
      ∙ (ap (λ (n : ℕ). linked_on n (n + v.len) link (cells_of (items_of t.cells))) start
      ∙ (by_range i 0 x link v (items_of t.cells) kept.apart e ∙ ap (map (linked_cell i link)) whole))

-- what stays as it was

lacks_relinked : (n : ℕ) (link : Option Link) (k : ℕ) (vs : List ItemView) → Lacks n vs → Lacks n (changed_at (with_link link) k vs)
lacks_relinked n link k [] l = tt
lacks_relinked n link zero (v ∷ vs) l = l
lacks_relinked n link (suc k) (v ∷ vs) l = (l.0, lacks_relinked n link k vs l.1)

if_lacks : (o : Option ℕ) (link : Option Link) (k : ℕ) (vs : List ItemView) → IfSome o (λ n. Lacks n vs) → IfSome o (λ n. Lacks n (changed_at (with_link link) k vs))
if_lacks None link k vs l = tt
if_lacks (Some n) link k vs l = lacks_relinked n link k vs l

apart_relinked : (link : Option Link) (k : ℕ) (vs : List ItemView) → Apart vs → Apart (changed_at (with_link link) k vs)
apart_relinked link k [] a = tt
apart_relinked link zero (v ∷ vs) a = a
apart_relinked link (suc k) (v ∷ vs) a = (if_lacks v.item link k vs a.0, apart_relinked link k vs a.1)

below_relinked : (next : ℕ) (link : Option Link) (k : ℕ) (vs : List ItemView) → NumbersBelow next vs → NumbersBelow next (changed_at (with_link link) k vs)
below_relinked next link k [] b = tt
below_relinked next link zero (v ∷ vs) b = b
below_relinked next link (suc k) (v ∷ vs) b = (b.0, below_relinked next link k vs b.1)

first_relinked : (link : Option Link) (k : ℕ) (vs : List ItemView) → first_mark (changed_at (with_link link) k vs) ≡ first_mark vs
first_relinked link k [] = refl
first_relinked link zero (v ∷ vs) = refl
first_relinked link (suc k) (v ∷ vs) = refl

ranges_relinked : (table : Table) (link : Option Link) (k : ℕ) (vs : List ItemView) → EachLiesIn table vs → EachLiesIn table (changed_at (with_link link) k vs)
ranges_relinked table link k [] h = tt
ranges_relinked table link zero (v ∷ vs) h = h
ranges_relinked table link (suc k) (v ∷ vs) h =
    (subst (λ (m : Option Mark). SideLiesIn table v.first v.len (left_reach v.mark) (right_reach m)) (sym (first_relinked link k vs)) h.0, ranges_relinked table link k vs h.1)

length_relinked : (link : Option Link) (k : ℕ) (vs : List ItemView) → length (changed_at (with_link link) k vs) ≡ length vs
length_relinked link k [] = refl
length_relinked link zero (v ∷ vs) = refl
length_relinked link (suc k) (v ∷ vs) = ap suc (length_relinked link k vs)

-- an item with a number shows as one with any link
shows_relinked : (o : Option ℕ) (d : Side What) (l link : Option Link) (i : ℕ) → o ≡ Some i → ShowsAsItem o d l → ShowsAsItem o d link
shows_relinked None d l link i e h = absurd cc
shows_relinked (Some j) Dark l link i e h = h
shows_relinked (Some j) (Pic w s) l link i e h = tt

holds_relinked : (v : ItemView) (tail : Option Mark) (link : Option Link) (i : ℕ) → v.item ≡ Some i → Holds v tail → Holds (with_link link v) tail
holds_relinked v tail link i e h = record {
  filled = h.filled;
  shows = shows_relinked v.item v.first v.link link i e h.shows;
  mark_filled = h.mark_filled;
  room = h.room;
  source = h.source;
  head_no_nest = h.head_no_nest;
  tail_no_nest = h.tail_no_nest;
}

each_relinked : (link : Option Link) (i : ℕ) (vs : List ItemView) (k : ℕ) (v : ItemView) → slice_get vs k ≡ Some v → v.item ≡ Some i → EachHolds vs → EachHolds (changed_at (with_link link) k vs)
each_relinked link i [] k v e is h = absurd (omega (arith, slice_get_within [] k v e))
each_relinked link i (w ∷ ws) zero v e is h =
    let same : w ≡ v = cc in
    (holds_relinked w (first_mark ws) link i (ap (λ (u : ItemView). u.item) same ∙ is) h.0, h.1)
each_relinked link i (w ∷ ws) (suc k) v e is h =
    (subst (Holds w) (sym (first_relinked link k ws)) h.0, each_relinked link i ws k v e is h.1)

links_relinked : (n : ℕ) (link : Option Link) (k : ℕ) (vs : List ItemView) → IsLinkOf n link → EachLinkOf n vs → EachLinkOf n (changed_at (with_link link) k vs)
links_relinked n link k [] of h = tt
links_relinked n link zero (v ∷ vs) of h = (of, h.1)
links_relinked n link (suc k) (v ∷ vs) of h = (h.0, links_relinked n link k vs of h.1)

items_relinked : (t : TrackState) (link : Option Link) (k : ℕ) → IsKept t → items_of (changed_track t k (with_link link)).cells ≡ changed_at (with_link link) k (items_of t.cells)
items_relinked t link k kept =
    let shape : LeavesShape (with_link link) = record { item = λ v. refl; len = λ v. refl } in
    items_of-tight (changed_at (with_link link) k (items_of t.cells))
    (filled-changed (with_link link) shape k (items_of t.cells) (filled_of (items_of t.cells) kept.each))
    (tight-changed (with_link link) shape k (items_of t.cells) (tight_of t kept))

length_cells : (t : TrackState) (link : Option Link) (k : ℕ) → IsKept t → length (changed_track t k (with_link link)).cells ≡ length t.cells
length_cells t link k kept =
    let shape : LeavesShape (with_link link) = record { item = λ v. refl; len = λ v. refl } in
    omega (arith, length-cells_of (changed_at (with_link link) k (items_of t.cells)), length-cells_of (items_of t.cells), frames_in-changed (with_link link) shape k (items_of t.cells), ap length kept.whole)

-- one item of a good track is linked anew
pub record IsRelinked (table : Table) (t : TrackState) (k i : ℕ) (link : Option Link) : Type 0 where
  pub same : changed_track t k (with_link link) ≡ linked_item t i link
  pub good : IsGood table (changed_track t k (with_link link))
  pub items : length (items_of (changed_track t k (with_link link)).cells) ≡ length (items_of t.cells)

pub relinked : (table : Table) (t : TrackState) (k i : ℕ) (v : ItemView) (link : Option Link) → IsGood table t → slice_get (items_of t.cells) k ≡ Some v → v.item ≡ Some i → IsLinkOf t.number link
    → IsRelinked table t k i link
relinked table t k i v link g e is of =
    let kept = g.kept in
    let vs = items_of t.cells in
    let same = items_relinked t link k kept in
    let long = length_cells t link k kept in
    record {
      same = ap (λ (cs : List Cell). record t { cells = cs }) (sym (cells_linked i link vs k v kept.apart e is) ∙ ap (map (linked_cell i link)) kept.whole)
          ∙ sym (linked-is t i link kept);
      good = record {
        kept = record {
          whole = ap cells_of same;
          not_before = rw same (first_relinked link k vs ∙ kept.not_before);
          each = rw same (each_relinked link i vs k v e is kept.each);
          apart = rw same (apart_relinked link k vs kept.apart);
          below = rw same (below_relinked t.next_item link k vs kept.below);
          short = omega (arith, kept.short, long);
        };
        ranges = rw same (ranges_relinked table link k vs g.ranges);
        links = rw same (links_relinked t.number link k vs of g.links);
        frames = omega (arith, long, g.frames);
        items = omega (arith, ap length same, length_relinked link k vs, g.items);
      };
      items = ap length same ∙ length_relinked link k vs;
    }
