-- Cells of items whose numbers are below some number: what an edit puts in, and what it leaves.
use Rattle.std.proofs.Common.{ℕ, zero, suc, ◌+◌, ◌<◌, ◌≤◌, Bool, true, false, cond, List, [], ◌∷◌, ◌++◌, map, take, drop, Option, Some, None, IfSome, arith}
use Rattle.frame_meaning.specs.declared.cells.What.{What}
use Rattle.frame_meaning.specs.declared.cells.Cell.{Cell}
use Rattle.frame_meaning.specs.declared.cells.Link.{Link}
use Rattle.frame_meaning.specs.declared.cells.Mark.{Mark}
use Rattle.frame_meaning.specs.declared.frames.Side.{Side}
use Rattle.frame_meaning.specs.Cells.{next_side, same_number, span}
use Rattle.frame_meaning.specs.Render.{cell_at}
use Rattle.frame_meaning.specs.Splice.{Rule, rule_of, renumbered, split_item, with_marks}
use Rattle.composables.specs.declared.items.ItemView.{ItemView}
use Rattle.composables.specs.Items.{cells_of, marked, view_cells}
use Rattle.composables.specs.Links.{moved_cell}
use Rattle.composables.specs.TrackFacts.{NumbersBelow}
use Rattle.composables.specs.TrackState.{TrackState, next_past_all}
use Rattle.dissolves.specs.Marking.{mark_at_place}
use Rattle.edit_splice.specs.Splicing.{spliced_track}
use Rattle.edit_splice.proofs.Numbers.{if-weaker, next-most}
use Rattle.edit_trim.specs.Slipping.{cell_moved, changed_on}
use Rattle.link_groups.specs.LinkedItems.{linked_on}

-- the number of the cell's item, if it has one, is below this one
abbrev pub IsPlain : ℕ → Cell → Type 0
IsPlain n c = IfSome c.item (λ i. i < n)

abbrev pub ArePlain : ℕ → List Cell → Type 0
ArePlain n [] = Unit {0}
ArePlain n (c ∷ cs) = IsPlain n c × ArePlain n cs

pub plain-more : (n m : ℕ) (cs : List Cell) → n ≤ m → ArePlain n cs → ArePlain m cs
plain-more n m [] le h = tt
plain-more n m (c ∷ cs) le h = (if-weaker c.item n m le h.0, plain-more n m cs le h.1)

pub plain-append : (n : ℕ) (cs ds : List Cell) → ArePlain n cs → ArePlain n ds → ArePlain n (cs ++ ds)
plain-append n [] ds h k = k
plain-append n (c ∷ cs) ds h k = (h.0, plain-append n cs ds h.1 k)

pub plain-take : (n k : ℕ) (cs : List Cell) → ArePlain n cs → ArePlain n (take k cs)
plain-take n zero cs h = tt
plain-take n (suc k) [] h = tt
plain-take n (suc k) (c ∷ cs) h = (h.0, plain-take n k cs h.1)

pub plain-drop : (n k : ℕ) (cs : List Cell) → ArePlain n cs → ArePlain n (drop k cs)
plain-drop n zero cs h = h
plain-drop n (suc k) [] h = tt
plain-drop n (suc k) (c ∷ cs) h = plain-drop n k cs h.1

pub plain-at : (n : ℕ) (cs : List Cell) (p : ℕ) → ArePlain n cs → IsPlain n (cell_at cs p)
plain-at n [] p h = tt
plain-at n (c ∷ cs) zero h = h.0
plain-at n (c ∷ cs) (suc p) h = plain-at n cs p h.1

-- items and gaps
plain_span : (n : ℕ) (i : Option ℕ) (s : Side What) (l : Option Link) (k : ℕ) → IfSome i (λ j. j < n) → ArePlain n (span i s l k)
plain_span n i s l zero b = tt
plain_span n i s l (suc k) b = (b, plain_span n i (next_side s) l k b)

plain_view : (n : ℕ) (v : ItemView) (k : ℕ) → IfSome v.item (λ i. i < n) → ArePlain n (marked v.mark (span v.item v.first v.link k))
plain_view n v zero b = tt
plain_view n v (suc k) b = (b, plain_span n v.item (next_side v.first) v.link k b)

pub plain-views : (n : ℕ) (vs : List ItemView) → NumbersBelow n vs → ArePlain n (cells_of vs)
plain-views n [] b = tt
plain-views n (v ∷ vs) b = plain-append n (view_cells v) (cells_of vs) (plain_view n v v.len b.0) (plain-views n vs b.1)

-- a splice, whose later part of an item that is split takes a number below this one
plain_marks : (n : ℕ) (rule : Rule) (x y p : ℕ) (cs : List Cell) → ArePlain n cs → ArePlain n (with_marks rule x y p cs)
plain_marks n rule x y p [] h = tt
plain_marks n rule x y p (c ∷ cs) h = (h.0, plain_marks n rule x y (p + 1) cs h.1)

plain_number : (n : ℕ) (s : Option ℕ) (fresh : ℕ) (c : Cell) → fresh < n → IsPlain n c → IsPlain n (renumbered s fresh c)
plain_number n None fresh c lt h = h
plain_number n (Some i) fresh c lt h = by (same_number c.item (Some i)) where
  by : (b : Bool) → IsPlain n (cond b (record c { item = Some fresh }) c)
  by true = lt
  by false = h

plain_numbers : (n : ℕ) (s : Option ℕ) (fresh : ℕ) (cs : List Cell) → fresh < n → ArePlain n cs → ArePlain n (map (renumbered s fresh) cs)
plain_numbers n s fresh [] lt h = tt
plain_numbers n s fresh (c ∷ cs) lt h = (plain_number n s fresh c lt h.0, plain_numbers n s fresh cs lt h.1)

pub plain-spliced : (keep : Bool) (n : ℕ) (t : TrackState) (x y : ℕ) (views : List ItemView) → t.next_item ≤ n → ArePlain n t.cells → NumbersBelow n views
    → ArePlain (n + 1) (spliced_track keep t x y views).cells
plain-spliced keep n t x y views most h below =
    let all : List Cell = with_marks (rule_of keep) x y 0 t.cells in
    let s : Option ℕ = split_item t.cells x y in
    let fresh : ℕ = next_past_all t.next_item views in
    let up : n ≤ n + 1 = omega arith in
    let low : fresh < n + 1 = omega (arith, next-most n t.next_item views most below) in
    let plain : ArePlain (n + 1) all = plain_marks (n + 1) (rule_of keep) x y 0 t.cells (plain-more n (n + 1) t.cells up h) in
    let middle : ArePlain (n + 1) (cells_of views) = plain-more n (n + 1) (cells_of views) up (plain-views n views below) in
    plain-append (n + 1) (take x all ++ cells_of views) (map (renumbered s fresh) (drop y all))
    (plain-append (n + 1) (take x all) (cells_of views) (plain-take (n + 1) x all plain) middle)
    (plain_numbers (n + 1) s fresh (drop y all) low (plain-drop (n + 1) y all plain))

-- a mark is no item and no link
pub plain-marked : (n : ℕ) (cs : List Cell) (p : ℕ) (mark : Option Mark) → ArePlain n cs → ArePlain n (mark_at_place cs p mark)
plain-marked n [] p mark h = tt
plain-marked n (c ∷ cs) zero mark h = h
plain-marked n (c ∷ cs) (suc p) mark h = (h.0, plain-marked n cs p mark h.1)

-- nor is a source frame
plain_moved : (n on back : ℕ) (cs : List Cell) → ArePlain n cs → ArePlain n (map (cell_moved on back) cs)
plain_moved n on back [] h = tt
plain_moved n on back (c ∷ cs) h = (h.0, plain_moved n on back cs h.1)

pub plain-changed : (n x y on back : ℕ) (cs : List Cell) → ArePlain n cs → ArePlain n (changed_on x y (cell_moved on back) cs)
plain-changed n x y on back cs h =
    plain-append n (take x cs ++ map (cell_moved on back) (drop x (take y cs))) (drop y cs)
    (plain-append n (take x cs) (map (cell_moved on back) (drop x (take y cs))) (plain-take n x cs h)
    (plain_moved n on back (drop x (take y cs)) (plain-drop n x (take y cs) (plain-take n y cs h))))
    (plain-drop n y cs h)

-- nor is a link: that of a moved cell, and one that an item gets or loses
pub plain-relinked : (n : ℕ) (us : List TrackState) (ls : List Link) (cs : List Cell) → ArePlain n cs → ArePlain n (map (moved_cell us ls) cs)
plain-relinked n us ls [] h = tt
plain-relinked n us ls (c ∷ cs) h = (h.0, plain-relinked n us ls cs h.1)

plain_set : (n : ℕ) (link : Option Link) (cs : List Cell) → ArePlain n cs → ArePlain n (map (λ (c : Cell). record c { link = link }) cs)
plain_set n link [] h = tt
plain_set n link (c ∷ cs) h = (h.0, plain_set n link cs h.1)

pub plain-linked-on : (n x y : ℕ) (link : Option Link) (cs : List Cell) → ArePlain n cs → ArePlain n (linked_on x y link cs)
plain-linked-on n x y link cs h =
    plain-append n (take x cs ++ map (λ (c : Cell). record c { link = link }) (drop x (take y cs))) (drop y cs)
    (plain-append n (take x cs) (map (λ (c : Cell). record c { link = link }) (drop x (take y cs))) (plain-take n x cs h)
    (plain_set n link (drop x (take y cs)) (plain-drop n x (take y cs) (plain-take n y cs h))))
    (plain-drop n y cs h)
