-- The cells of moved items get new links where the items do.
use Rattle.std.proofs.Common.{◌≡◌, ℕ, zero, suc, ◌+◌, ◌-◌, ◌<◌, ◌≤◌, Bool, true, false, cond, ltb, List, [], ◌∷◌, ◌++◌, All, length, map, take, drop, Option, Some, None, slice_get, refl, sym, ap, ◌∙◌, arith, append_assoc}
use Rattle.std.specs.List.{list_any}
use Rattle.std.proofs.lemmas.Bool.{ltb-true, ltb-false}
use Rattle.std.proofs.lemmas.List.{drop-append-le, map-append, take-append-drop, take-append-le}
use Rattle.std.proofs.Math.Seq.{drop-append-add, take-append-add}
use Rattle.frame_meaning.specs.declared.cells.Cell.{Cell}
use Rattle.frame_meaning.specs.declared.cells.Link.{Link}
use Rattle.frame_meaning.specs.declared.cells.Mark.{Mark}
use Rattle.frame_meaning.specs.declared.cells.What.{What}
use Rattle.frame_meaning.specs.declared.frames.Side.{Side}
use Rattle.frame_meaning.specs.Cells.{next_side, span}
use Rattle.composables.specs.declared.items.ItemView.{ItemView}
use Rattle.composables.specs.Changes.{with_link}
use Rattle.composables.specs.Items.{cells_of, items_of, marked, view_cells}
use Rattle.composables.specs.Joined.{frames_in}
use Rattle.composables.specs.Links.{count_at_home, moved_cell, moved_link, same_link, split_number, split_track}
use Rattle.composables.specs.TrackFacts.{IsKept}
use Rattle.composables.specs.TrackState.{TrackState}
use Rattle.composables.proofs.Joining.{length-view_cells}
use Rattle.link_groups.specs.LinkedShifts.{moved_views, split_items}
use Rattle.link_groups.specs.declared.splits.Splits.{Splits}
use Rattle.link_groups.specs.Renumbering.{IsUncut}
use Rattle.link_groups.specs.Splits.{AreSplits, given_link, relinked_track, relinked_views, with_number}

-- cells of one item

span_moved : (tracks : List TrackState) (splits : List Link) (o : Option ℕ) (d : Side What) (l : Option Link) (n : ℕ) → map (moved_cell tracks splits) (span o d l n) ≡ span o d (moved_link tracks splits l) n
span_moved tracks splits o d l zero = refl
span_moved tracks splits o d l (suc n) =
    ap (λ (cs : List Cell). record { item = o; side = d; mark = None; link = moved_link tracks splits l } ∷ cs) (span_moved tracks splits o (next_side d) l n)

marked_moved : (tracks : List TrackState) (splits : List Link) (m : Option Mark) (cs : List Cell) → map (moved_cell tracks splits) (marked m cs) ≡ marked m (map (moved_cell tracks splits) cs)
marked_moved tracks splits m [] = refl
marked_moved tracks splits m (c ∷ cs) = refl

pub view-moved : (tracks : List TrackState) (splits : List Link) (v : ItemView) → map (moved_cell tracks splits) (view_cells v) ≡ view_cells (with_link (moved_link tracks splits v.link) v)
view-moved tracks splits v =
    marked_moved tracks splits v.mark (span v.item v.first v.link v.len) ∙ ap (marked v.mark) (span_moved tracks splits v.item v.first v.link v.len)

map_drop : (f : Cell → Cell) (n : ℕ) (cs : List Cell) → map f (drop n cs) ≡ drop n (map f cs)
map_drop f zero cs = refl
map_drop f (suc n) [] = refl
map_drop f (suc n) (c ∷ cs) = map_drop f n cs

-- the item that holds a place with frames before it has no link
abbrev AreUncut : ℕ → List ItemView → Type 0
AreUncut place [] = Unit {0}
AreUncut place (v ∷ vs) = (0 < place → place < v.len → v.link ≡ None) × AreUncut (place - v.len) vs

cut_view : (tracks : List TrackState) (splits : List Link) (place : ℕ) (v : ItemView) → (0 < place → place < v.len → v.link ≡ None) → place < v.len
    → view_cells (with_link (moved_link tracks splits v.link) v) ≡ take place (view_cells v) ++ map (moved_cell tracks splits) (drop place (view_cells v))
cut_view tracks splits zero v h less = sym (view-moved tracks splits v)
cut_view tracks splits (suc p) v h less =
    let none : v.link ≡ None = h (omega arith) less in
    let same : view_cells (with_link (moved_link tracks splits v.link) v) ≡ view_cells v = ap (λ (o : Option Link). view_cells (with_link (moved_link tracks splits o) v)) none ∙ ap (λ (o : Option Link). view_cells (with_link o v)) (sym none) in
    same
    ∙ (sym (take-append-drop (suc p) (view_cells v))
    ∙ ap (λ (cs : List Cell). take (suc p) (view_cells v) ++ cs) (sym (map_drop (moved_cell tracks splits) (suc p) (view_cells v) ∙ ap (drop (suc p)) (view-moved tracks splits v ∙ same))))

cells_moved : (tracks : List TrackState) (splits : List Link) (place : ℕ) (vs : List ItemView) → AreUncut place vs
    → cells_of (moved_views tracks splits place vs) ≡ take place (cells_of vs) ++ map (moved_cell tracks splits) (drop place (cells_of vs))
cells_moved tracks splits zero [] h = refl
cells_moved tracks splits (suc p) [] h = refl
cells_moved tracks splits place (v ∷ vs) h = by (ltb place v.len) refl (cells_moved tracks splits (place - v.len) vs h.1) where
  g : Cell → Cell
  g = moved_cell tracks splits

  by : (b : Bool) → ltb place v.len ≡ b
      → cells_of (moved_views tracks splits (place - v.len) vs) ≡ take (place - v.len) (cells_of vs) ++ map g (drop (place - v.len) (cells_of vs))
      → view_cells (cond b (with_link (moved_link tracks splits v.link) v) v) ++ cells_of (moved_views tracks splits (place - v.len) vs) ≡ take place (view_cells v ++ cells_of vs) ++ map g (drop place (view_cells v ++ cells_of vs))
  by true e i =
      let less : place < v.len = ltb-true place v.len e in
      let long : length (view_cells v) ≡ v.len = length-view_cells v in
      let z : place - v.len ≡ 0 = omega (arith, less) in
      let rest : cells_of (moved_views tracks splits (place - v.len) vs) ≡ map g (cells_of vs) = i ∙ ap (λ (n : ℕ). take n (cells_of vs) ++ map g (drop n (cells_of vs))) z in
      (ap (λ (cs : List Cell). cs ++ cells_of (moved_views tracks splits (place - v.len) vs)) (cut_view tracks splits place v h.0 less)
      ∙ (ap (λ (cs : List Cell). (take place (view_cells v) ++ map g (drop place (view_cells v))) ++ cs) rest
      ∙ (append_assoc (take place (view_cells v)) (map g (drop place (view_cells v))) (map g (cells_of vs))
      ∙ (ap (λ (cs : List Cell). take place (view_cells v) ++ cs) (sym (map-append g (drop place (view_cells v)) (cells_of vs)) ∙ ap (map g) (sym (drop-append-le place (view_cells v) (cells_of vs) (omega (arith, less, long)))))
      ∙ ap (λ (cs : List Cell). cs ++ map g (drop place (view_cells v ++ cells_of vs))) (sym (take-append-le place (view_cells v) (cells_of vs) (omega (arith, less, long))))))))
  by false e i =
      let le : v.len ≤ place = ltb-false place v.len e in
      let long : length (view_cells v) ≡ v.len = length-view_cells v in
      let is : length (view_cells v) + (place - v.len) ≡ place = omega (arith, le, long) in
      ap (λ (cs : List Cell). view_cells v ++ cs) i
      ∙ (sym (append_assoc (view_cells v) (take (place - v.len) (cells_of vs)) (map g (drop (place - v.len) (cells_of vs))))
      ∙ (ap (λ (cs : List Cell). cs ++ map g (drop (place - v.len) (cells_of vs))) (sym (take-append-add (view_cells v) (cells_of vs) (place - v.len)) ∙ ap (λ (n : ℕ). take n (view_cells v ++ cells_of vs)) is)
      ∙ ap (λ (cs : List Cell). take place (view_cells v ++ cells_of vs) ++ map g cs) (sym (drop-append-add (view_cells v) (cells_of vs) (place - v.len)) ∙ ap (λ (n : ℕ). drop n (view_cells v ++ cells_of vs)) is)))

uncut_from : (place : ℕ) (vs : List ItemView)
    → ((i : ℕ) (v : ItemView) → slice_get vs i ≡ Some v → frames_in (take i vs) < place → place < frames_in (take i vs) + v.len → v.link ≡ None) → AreUncut place vs
uncut_from place [] h = tt
uncut_from place (w ∷ ws) h = (
  λ some less. h 0 w refl (omega (arith, some)) (omega (arith, less)),
  uncut_from (place - w.len) ws (λ i v e more less. h (suc i) v e (omega (arith, more)) (omega (arith, less, more))),
)

-- where no item with a link stands on both sides of the place, the items get new links as the cells do
pub items-cells : (tracks : List TrackState) (splits : List Link) (place : ℕ) (t : TrackState) → IsKept t → IsUncut place t
    → split_items tracks splits place t ≡ split_track place tracks splits t
items-cells tracks splits place t kept uncut =
    ap (λ (cs : List Cell). record t { cells = cs; next_link = t.next_link + count_at_home splits t.number })
    (cells_moved tracks splits place (items_of t.cells) (uncut_from place (items_of t.cells) uncut) ∙ ap (λ (cs : List Cell). take place cs ++ map (moved_cell tracks splits) (drop place cs)) kept.whole)

all_first : (P : TrackState → Type 0) (t : TrackState) (ts : List TrackState) → All P (t ∷ ts) → P t
all_first P t ts h = h 0 t (omega arith)

all_rest : (P : TrackState → Type 0) (t : TrackState) (ts : List TrackState) → All P (t ∷ ts) → All P ts
all_rest P t ts h k d lt = h (suc k) d (omega (arith, lt))

pub each-cells : (tracks : List TrackState) (splits : List Link) (place : ℕ) (ts : List TrackState) → All (λ (t : TrackState). IsKept t) ts → All (λ (t : TrackState). IsUncut place t) ts
    → map (split_items tracks splits place) ts ≡ map (split_track place tracks splits) ts
each-cells tracks splits place [] kept uncut = refl
each-cells tracks splits place (t ∷ ts) kept uncut =
    ap (λ (u : TrackState). u ∷ map (split_items tracks splits place) ts)
    (items-cells tracks splits place t (all_first (λ (t : TrackState). IsKept t) t ts kept) (all_first (λ (t : TrackState). IsUncut place t) t ts uncut))
    ∙ ap (λ (us : List TrackState). split_track place tracks splits t ∷ us)
    (each-cells tracks splits place ts (all_rest (λ (t : TrackState). IsKept t) t ts kept) (all_rest (λ (t : TrackState). IsUncut place t) t ts uncut))

-- what the code gives

new_moved : (tracks : List TrackState) (splits : List Link) (s : Splits) → AreSplits tracks splits s → (o : Option Link) → given_link s o ≡ moved_link tracks splits o
new_moved tracks splits s a None = refl
new_moved tracks splits s a (Some l) = ap (λ (n : Option ℕ). Some (with_number l n)) (a.numbers l) ∙ by (list_any (same_link l) splits) where
  by : (b : Bool) → Some (with_number l (cond b (Some (split_number tracks splits l)) None)) ≡ cond b (Some (record l { number = split_number tracks splits l })) (Some l)
  by true = refl
  by false = refl

views_moved : (tracks : List TrackState) (splits : List Link) (s : Splits) → AreSplits tracks splits s → (place : ℕ) (vs : List ItemView) → relinked_views s place vs ≡ moved_views tracks splits place vs
views_moved tracks splits s a place [] = refl
views_moved tracks splits s a place (v ∷ vs) =
    ap (λ (o : Option Link). cond (ltb place v.len) (with_link o v) v ∷ relinked_views s (place - v.len) vs) (new_moved tracks splits s a v.link)
    ∙ ap (λ (us : List ItemView). cond (ltb place v.len) (with_link (moved_link tracks splits v.link) v) v ∷ us) (views_moved tracks splits s a (place - v.len) vs)

pub relinked-items : (tracks : List TrackState) (splits : List Link) (s : Splits) (place : ℕ) (t : TrackState) → AreSplits tracks splits s → relinked_track s place t ≡ split_items tracks splits place t
relinked-items tracks splits s place t a =
    ap (λ (n : ℕ). record t { cells = cells_of (relinked_views s place (items_of t.cells)); next_link = t.next_link + n }) (a.counts t.number)
    ∙ ap (λ (vs : List ItemView). record t { cells = cells_of vs; next_link = t.next_link + count_at_home splits t.number }) (views_moved tracks splits s a place (items_of t.cells))

pub relinked-each : (tracks : List TrackState) (splits : List Link) (s : Splits) (place : ℕ) (ts : List TrackState) → AreSplits tracks splits s → map (relinked_track s place) ts ≡ map (split_items tracks splits place) ts
relinked-each tracks splits s place [] a = refl
relinked-each tracks splits s place (t ∷ ts) a =
    ap (λ (u : TrackState). u ∷ map (relinked_track s place) ts) (relinked-items tracks splits s place t a)
    ∙ ap (λ (us : List TrackState). split_items tracks splits place t ∷ us) (relinked-each tracks splits s place ts a)
