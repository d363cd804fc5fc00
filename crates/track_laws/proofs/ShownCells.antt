-- Cells that show only such things as have some fact: what an edit puts in, and what it leaves.
use Rattle.std.proofs.Common.{ℕ, zero, suc, ◌+◌, Bool, true, false, cond, eqb, List, [], ◌∷◌, ◌++◌, map, take, drop, Option, Some, None}
use Rattle.frame_meaning.specs.declared.cells.What.{What}
use Rattle.frame_meaning.specs.declared.cells.Cell.{Cell}
use Rattle.frame_meaning.specs.declared.cells.Link.{Link}
use Rattle.frame_meaning.specs.declared.cells.Mark.{Mark}
use Rattle.frame_meaning.specs.declared.frames.Side.{Side}
use Rattle.frame_meaning.specs.declared.frames.Side.TheVariants.{Dark, Pic}
use Rattle.frame_meaning.specs.Cells.{next_side, same_number, span}
use Rattle.frame_meaning.specs.Render.{cell_at, moved}
use Rattle.frame_meaning.specs.Splice.{Rule, rule_of, renumbered, split_item, with_marks}
use Rattle.composables.specs.declared.items.ItemView.{ItemView}
use Rattle.composables.specs.Items.{cells_of, marked, view_cells}
use Rattle.composables.specs.Links.{moved_cell}
use Rattle.composables.specs.TrackState.{TrackState, next_past_all}
use Rattle.composables.specs.Views.{earlier_side, gap_view, gap_views}
use Rattle.dissolves.specs.Marking.{mark_at_place}
use Rattle.edit_splice.specs.Splicing.{spliced_track}
use Rattle.edit_trim.specs.Slipping.{cell_moved, changed_on, linked_moved}
use Rattle.link_groups.specs.ItemLinks.{carries}
use Rattle.link_groups.specs.LinkedItems.{linked_on}

-- the thing that a side shows, if there is one, has the fact
abbrev pub SideHas : (What → Type 0) → Side What → Type 0
SideHas Has Dark = Unit {0}
SideHas Has (Pic what source) = Has what

abbrev pub CellsHave : (What → Type 0) → List Cell → Type 0
CellsHave Has [] = Unit {0}
CellsHave Has (c ∷ cs) = SideHas Has c.side × CellsHave Has cs

abbrev pub ViewsHave : (What → Type 0) → List ItemView → Type 0
ViewsHave Has [] = Unit {0}
ViewsHave Has (v ∷ vs) = SideHas Has v.first × ViewsHave Has vs

-- a side some frames on, and back
pub has-next : (Has : What → Type 0) (s : Side What) → SideHas Has s → SideHas Has (next_side s)
has-next Has Dark h = tt
has-next Has (Pic what source) h = h

pub has-earlier : (Has : What → Type 0) (s : Side What) (n : ℕ) → SideHas Has s → SideHas Has (earlier_side s n)
has-earlier Has Dark n h = tt
has-earlier Has (Pic what source) n h = h

has_moved : (Has : What → Type 0) (s : Side What) (on back : ℕ) → SideHas Has s → SideHas Has (moved s on back)
has_moved Has Dark on back h = tt
has_moved Has (Pic what source) on back h = h

-- parts of lists
pub have-append : (Has : What → Type 0) (cs ds : List Cell) → CellsHave Has cs → CellsHave Has ds → CellsHave Has (cs ++ ds)
have-append Has [] ds h k = k
have-append Has (c ∷ cs) ds h k = (h.0, have-append Has cs ds h.1 k)

pub have-take : (Has : What → Type 0) (k : ℕ) (cs : List Cell) → CellsHave Has cs → CellsHave Has (take k cs)
have-take Has zero cs h = tt
have-take Has (suc k) [] h = tt
have-take Has (suc k) (c ∷ cs) h = (h.0, have-take Has k cs h.1)

pub have-drop : (Has : What → Type 0) (k : ℕ) (cs : List Cell) → CellsHave Has cs → CellsHave Has (drop k cs)
have-drop Has zero cs h = h
have-drop Has (suc k) [] h = tt
have-drop Has (suc k) (c ∷ cs) h = have-drop Has k cs h.1

pub has-at : (Has : What → Type 0) (cs : List Cell) (p : ℕ) → CellsHave Has cs → SideHas Has (cell_at cs p).side
has-at Has [] p h = tt
has-at Has (c ∷ cs) zero h = h.0
has-at Has (c ∷ cs) (suc p) h = has-at Has cs p h.1

-- items and gaps
have_span : (Has : What → Type 0) (i : Option ℕ) (s : Side What) (l : Option Link) (k : ℕ) → SideHas Has s → CellsHave Has (span i s l k)
have_span Has i s l zero h = tt
have_span Has i s l (suc k) h = (h, have_span Has i (next_side s) l k (has-next Has s h))

have_view : (Has : What → Type 0) (v : ItemView) (k : ℕ) → SideHas Has v.first → CellsHave Has (marked v.mark (span v.item v.first v.link k))
have_view Has v zero h = tt
have_view Has v (suc k) h = (h, have_span Has v.item (next_side v.first) v.link k (has-next Has v.first h))

pub have-views : (Has : What → Type 0) (vs : List ItemView) → ViewsHave Has vs → CellsHave Has (cells_of vs)
have-views Has [] h = tt
have-views Has (v ∷ vs) h = have-append Has (view_cells v) (cells_of vs) (have_view Has v v.len h.0) (have-views Has vs h.1)

pub have-gaps : (Has : What → Type 0) (k : ℕ) → ViewsHave Has (gap_views k)
have-gaps Has k = by (eqb k 0) where
  by : (b : Bool) → ViewsHave Has (cond b [] (gap_view k ∷ []))
  by true = tt
  by false = (tt, tt)

-- a splice
have_marks : (Has : What → Type 0) (rule : Rule) (x y p : ℕ) (cs : List Cell) → CellsHave Has cs → CellsHave Has (with_marks rule x y p cs)
have_marks Has rule x y p [] h = tt
have_marks Has rule x y p (c ∷ cs) h = (h.0, have_marks Has rule x y (p + 1) cs h.1)

has_number : (Has : What → Type 0) (s : Option ℕ) (fresh : ℕ) (c : Cell) → SideHas Has c.side → SideHas Has (renumbered s fresh c).side
has_number Has None fresh c h = h
has_number Has (Some i) fresh c h = by (same_number c.item (Some i)) where
  by : (b : Bool) → SideHas Has (cond b (record c { item = Some fresh }) c).side
  by true = h
  by false = h

have_numbers : (Has : What → Type 0) (s : Option ℕ) (fresh : ℕ) (cs : List Cell) → CellsHave Has cs → CellsHave Has (map (renumbered s fresh) cs)
have_numbers Has s fresh [] h = tt
have_numbers Has s fresh (c ∷ cs) h = (has_number Has s fresh c h.0, have_numbers Has s fresh cs h.1)

pub have-spliced : (keep : Bool) (Has : What → Type 0) (t : TrackState) (x y : ℕ) (views : List ItemView) → CellsHave Has t.cells → ViewsHave Has views
    → CellsHave Has (spliced_track keep t x y views).cells
have-spliced keep Has t x y views h v =
    let all : List Cell = with_marks (rule_of keep) x y 0 t.cells in
    let s : Option ℕ = split_item t.cells x y in
    let fresh : ℕ = next_past_all t.next_item views in
    let have : CellsHave Has all = have_marks Has (rule_of keep) x y 0 t.cells h in
    have-append Has (take x all ++ cells_of views) (map (renumbered s fresh) (drop y all))
    (have-append Has (take x all) (cells_of views) (have-take Has x all have) (have-views Has views v))
    (have_numbers Has s fresh (drop y all) (have-drop Has y all have))

-- a dissolve shows no other thing
pub have-marked : (Has : What → Type 0) (cs : List Cell) (p : ℕ) (mark : Option Mark) → CellsHave Has cs → CellsHave Has (mark_at_place cs p mark)
have-marked Has [] p mark h = tt
have-marked Has (c ∷ cs) zero mark h = h
have-marked Has (c ∷ cs) (suc p) mark h = (h.0, have-marked Has cs p mark h.1)

-- nor do other source frames
have_moved : (Has : What → Type 0) (on back : ℕ) (cs : List Cell) → CellsHave Has cs → CellsHave Has (map (cell_moved on back) cs)
have_moved Has on back [] h = tt
have_moved Has on back (c ∷ cs) h = (has_moved Has c.side on back h.0, have_moved Has on back cs h.1)

pub have-changed : (Has : What → Type 0) (x y on back : ℕ) (cs : List Cell) → CellsHave Has cs → CellsHave Has (changed_on x y (cell_moved on back) cs)
have-changed Has x y on back cs h =
    have-append Has (take x cs ++ map (cell_moved on back) (drop x (take y cs))) (drop y cs)
    (have-append Has (take x cs) (map (cell_moved on back) (drop x (take y cs))) (have-take Has x cs h)
    (have_moved Has on back (drop x (take y cs)) (have-drop Has x (take y cs) (have-take Has y cs h))))
    (have-drop Has y cs h)

pub have-linked : (Has : What → Type 0) (l : Link) (on back : ℕ) (cs : List Cell) → CellsHave Has cs → CellsHave Has (map (linked_moved l on back) cs)
have-linked Has l on back [] h = tt
have-linked Has l on back (c ∷ cs) h = (by (carries l c.link), have-linked Has l on back cs h.1) where
  by : (b : Bool) → SideHas Has (cond b (cell_moved on back c) c).side
  by true = has_moved Has c.side on back h.0
  by false = h.0

-- nor does a link
pub have-relinked : (Has : What → Type 0) (us : List TrackState) (ls : List Link) (cs : List Cell) → CellsHave Has cs → CellsHave Has (map (moved_cell us ls) cs)
have-relinked Has us ls [] h = tt
have-relinked Has us ls (c ∷ cs) h = (h.0, have-relinked Has us ls cs h.1)

have_set : (Has : What → Type 0) (link : Option Link) (cs : List Cell) → CellsHave Has cs → CellsHave Has (map (λ (c : Cell). record c { link = link }) cs)
have_set Has link [] h = tt
have_set Has link (c ∷ cs) h = (h.0, have_set Has link cs h.1)

pub have-linked-on : (Has : What → Type 0) (x y : ℕ) (link : Option Link) (cs : List Cell) → CellsHave Has cs → CellsHave Has (linked_on x y link cs)
have-linked-on Has x y link cs h =
    have-append Has (take x cs ++ map (λ (c : Cell). record c { link = link }) (drop x (take y cs))) (drop y cs)
    (have-append Has (take x cs) (map (λ (c : Cell). record c { link = link }) (drop x (take y cs))) (have-take Has x cs h)
    (have_set Has link (drop x (take y cs)) (have-drop Has x (take y cs) (have-take Has y cs h))))
    (have-drop Has y cs h)
