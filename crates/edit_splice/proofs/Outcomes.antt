-- What every splice leaves: how long the track is, which numbers it has given away, and that no link comes to it.
use Rattle.std.proofs.Common.{◌≡◌, ℕ, zero, suc, ◌+◌, ◌-◌, ◌<◌, ◌≤◌, Bool, true, false, cond, List, [], ◌∷◌, ◌++◌, length, map, Option, Some, None, refl, arith, subst, take, drop}
use Rattle.std.proofs.lemmas.Bool.{cond_both}
use Rattle.frame_meaning.specs.declared.cells.What.{What}
use Rattle.frame_meaning.specs.declared.cells.Link.{Link}
use Rattle.frame_meaning.specs.declared.cells.Cell.{Cell}
use Rattle.frame_meaning.specs.declared.frames.Side.{Side}
use Rattle.frame_meaning.specs.Cells.{span, next_side, same_number}
use Rattle.frame_meaning.specs.Splice.{Rule, rule_of, with_marks, renumbered, split_item, spliced, next_after_splice}
use Rattle.composables.specs.declared.items.ItemView.{ItemView}
use Rattle.composables.specs.Good.{AllUnlinked}
use Rattle.composables.specs.Items.{marked, view_cells, cells_of, with_cell, view_from, items_of}
use Rattle.composables.specs.Joined.{AllFilled, frames_in}
use Rattle.composables.specs.TrackFacts.{IsKept, NumbersBelow}
use Rattle.composables.specs.TrackState.{TrackState, next_past_all}
use Rattle.composables.proofs.Joining.{length-cells_of}
use Rattle.edit_splice.specs.Splicing.{spliced_track}
use Rattle.edit_splice.proofs.Splits.{after_split, next-splice}
use Rattle.edit_splice.proofs.Numbers.{next-most, next-rises, split-rises}
use Rattle.edit_splice.proofs.Keeping.{length-spliced}

-- the length
pub length-spliced_track : (keep : Bool) (t : TrackState) (x y : ℕ) (views : List ItemView) → x ≤ y → y ≤ length t.cells → length (spliced_track keep t x y views).cells ≡ x + frames_in views + (length t.cells - y)
length-spliced_track keep t x y views le within =
    let fresh : ℕ = next_past_all t.next_item views in
    omega (arith, le, within, length-spliced (rule_of keep) t.cells x y (cells_of views) fresh, length-cells_of views)

-- the next item number
split_most : (s : Option ℕ) (fresh : ℕ) → after_split s fresh ≤ fresh + 1
split_most None fresh = omega arith
split_most (Some i) fresh = omega arith

pub next-bounds : (keep : Bool) (t : TrackState) (x y n : ℕ) (views : List ItemView) → NumbersBelow (t.next_item + n) views → (t.next_item ≤ (spliced_track keep t x y views).next_item) × ((spliced_track keep t x y views).next_item ≤ t.next_item + n + 1)
next-bounds keep t x y n views below =
    let fresh : ℕ = next_past_all t.next_item views in
    let s : Option ℕ = split_item t.cells x y in
    let is : next_after_splice t.cells x y fresh ≡ after_split s fresh = next-splice t.cells x y fresh s refl in
    let least = next-rises t.next_item views in
    let most = next-most (t.next_item + n) t.next_item views (omega arith) below in
    let up : t.next_item ≤ next_after_splice t.cells x y fresh = omega (arith, is, least, split-rises s fresh) in
    let down : next_after_splice t.cells x y fresh ≤ t.next_item + n + 1 = omega (arith, is, most, split_most s fresh) in
    (up, down)

-- links, by cells
abbrev NoLinks : List Cell → Type 0
NoLinks [] = Unit {0}
NoLinks (c ∷ cs) = (c.link ≡ None) × NoLinks cs

span_unlinked : (i : Option ℕ) (s : Side What) (l : Option Link) (n : ℕ) → l ≡ None → NoLinks (span i s l n)
span_unlinked i s l zero e = tt
span_unlinked i s l (suc n) e = (e, span_unlinked i (next_side s) l n e)

view_unlinked : (v : ItemView) (n : ℕ) → v.link ≡ None → NoLinks (marked v.mark (span v.item v.first v.link n))
view_unlinked v zero e = tt
view_unlinked v (suc n) e = (e, span_unlinked v.item (next_side v.first) v.link n e)

append_unlinked : (cs ds : List Cell) → NoLinks cs → NoLinks ds → NoLinks (cs ++ ds)
append_unlinked [] ds h k = k
append_unlinked (c ∷ cs) ds h k = (h.0, append_unlinked cs ds h.1 k)

cells_unlinked : (vs : List ItemView) → AllUnlinked vs → NoLinks (cells_of vs)
cells_unlinked [] h = tt
cells_unlinked (v ∷ vs) h = append_unlinked (view_cells v) (cells_of vs) (view_unlinked v v.len h.0) (cells_unlinked vs h.1)

with_unlinked : (c : Cell) (vs : List ItemView) → c.link ≡ None → AllUnlinked vs → AllUnlinked (with_cell c vs)
with_unlinked c [] e h = (e, tt)
with_unlinked c (v ∷ vs) e h = by_test (same_number c.item v.item) where
  by_test : (b : Bool) → AllUnlinked (cond b (view_from c v.len ∷ vs) (view_from c 0 ∷ v ∷ vs))
  by_test true = (e, h.1)
  by_test false = (e, h)

items_unlinked : (cs : List Cell) → NoLinks cs → AllUnlinked (items_of cs)
items_unlinked [] h = tt
items_unlinked (c ∷ cs) h = with_unlinked c (items_of cs) h.0 (items_unlinked cs h.1)

take_unlinked : (n : ℕ) (cs : List Cell) → NoLinks cs → NoLinks (take n cs)
take_unlinked zero cs h = tt
take_unlinked (suc n) [] h = tt
take_unlinked (suc n) (c ∷ cs) h = (h.0, take_unlinked n cs h.1)

drop_unlinked : (n : ℕ) (cs : List Cell) → NoLinks cs → NoLinks (drop n cs)
drop_unlinked zero cs h = h
drop_unlinked (suc n) [] h = tt
drop_unlinked (suc n) (c ∷ cs) h = drop_unlinked n cs h.1

marks_unlinked : (rule : Rule) (x y p : ℕ) (cs : List Cell) → NoLinks cs → NoLinks (with_marks rule x y p cs)
marks_unlinked rule x y p [] h = tt
marks_unlinked rule x y p (c ∷ cs) h = (h.0, marks_unlinked rule x y (p + 1) cs h.1)

cell_unlinked : (s : Option ℕ) (fresh : ℕ) (c : Cell) → c.link ≡ None → (renumbered s fresh c).link ≡ None
cell_unlinked None fresh c e = e
cell_unlinked (Some i) fresh c e = cond_both (same_number c.item (Some i)) (record c { item = Some fresh }) c (λ (d : Cell). d.link ≡ None) (λ t. e) (λ t. e)

numbers_unlinked : (s : Option ℕ) (fresh : ℕ) (cs : List Cell) → NoLinks cs → NoLinks (map (renumbered s fresh) cs)
numbers_unlinked s fresh [] h = tt
numbers_unlinked s fresh (c ∷ cs) h = (cell_unlinked s fresh c h.0, numbers_unlinked s fresh cs h.1)

pub unlinked-spliced : (keep : Bool) (t : TrackState) (x y : ℕ) (views : List ItemView) → IsKept t → AllUnlinked (items_of t.cells) → AllUnlinked views → AllUnlinked (items_of (spliced_track keep t x y views).cells)
unlinked-spliced keep t x y views k old new =
    let fresh : ℕ = next_past_all t.next_item views in
    let s : Option ℕ = split_item t.cells x y in
    let P : List Cell → Type 0 = λ cs. NoLinks cs in
    let all : List Cell = with_marks (rule_of keep) x y 0 t.cells in
    let bare : NoLinks all = marks_unlinked (rule_of keep) x y 0 t.cells (subst P k.whole (cells_unlinked (items_of t.cells) old)) in
    items_unlinked (spliced (rule_of keep) t.cells x y (cells_of views) fresh)
    (append_unlinked (take x all ++ cells_of views) (map (renumbered s fresh) (drop y all))
    (append_unlinked (take x all) (cells_of views) (take_unlinked x all bare) (cells_unlinked views new))
    (numbers_unlinked s fresh (drop y all) (drop_unlinked y all bare)))

-- what is put in has no more items and gaps than the track has frames
pub count-filled : (vs : List ItemView) → AllFilled vs → length vs ≤ frames_in vs
count-filled [] h = omega arith
count-filled (v ∷ vs) h = omega (arith, h.0, count-filled vs h.1)

pub few-put : (keep : Bool) (t : TrackState) (x y n : ℕ) (views : List ItemView) → x ≤ y → y ≤ length t.cells → AllFilled views → length (spliced_track keep t x y views).cells < n → length views < n
few-put keep t x y n views le within filled short = omega (arith, short, length-spliced_track keep t x y views le within, count-filled views filled)
