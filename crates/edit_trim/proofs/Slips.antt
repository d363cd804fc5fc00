-- A track of which an item shows other source frames.
use Rattle.std.proofs.Common.{◌≡◌, ℕ, zero, suc, ◌+◌, ◌-◌, ◌≤◌, List, [], ◌∷◌, ◌++◌, length, length-append, map, take, drop, Option, Some, None, IfSome, slice_get, refl, sym, ap, ◌∙◌, arith, subst, append_assoc}
use Rattle.std.proofs.Math.Seq.{take-append-add, take-append_seam, drop-append-add, drop-append_seam}
use Rattle.std.proofs.lemmas.Option.{slice_get_within}
use Rattle.frame_meaning.specs.declared.cells.What.{What}
use Rattle.frame_meaning.specs.declared.cells.What.TheVariants.{Media, Nest}
use Rattle.frame_meaning.specs.declared.cells.Mark.{Mark}
use Rattle.frame_meaning.specs.declared.cells.Link.{Link}
use Rattle.frame_meaning.specs.declared.cells.Cell.{Cell}
use Rattle.frame_meaning.specs.declared.frames.Side.{Side}
use Rattle.frame_meaning.specs.declared.frames.Side.TheVariants.{Dark, Pic}
use Rattle.frame_meaning.specs.Cells.{next_side, span}
use Rattle.frame_meaning.specs.Render.{moved}
use Rattle.composables.specs.declared.items.ItemView.{ItemView}
use Rattle.composables.specs.declared.media.Table.{Table}
use Rattle.composables.specs.Changes.{changed_at, changed_track, side_from, with_source}
use Rattle.composables.specs.Good.{EachLiesIn, EachLinkOf, IsGood, SideLiesIn}
use Rattle.composables.specs.Items.{cells_of, items_of, marked, view_cells}
use Rattle.composables.specs.Joined.{frames_in}
use Rattle.composables.specs.TrackFacts.{Apart, EachHolds, HasSource, Holds, IsKept, IsNoNest, Lacks, NumbersBelow, ShowsAsItem, first_mark, left_reach, right_reach}
use Rattle.composables.specs.TrackState.{TrackState}
use Rattle.composables.proofs.Changing.{LeavesShape, filled-changed, frames_in-changed, tight-changed}
use Rattle.composables.proofs.Joining.{items_of-tight, length-cells_of}
use Rattle.edit_splice.specs.Standing.{StaysGood}
use Rattle.edit_splice.proofs.Keeping.{stand_of}
use Rattle.edit_splice.proofs.Meeting.{filled-each}
use Rattle.edit_trim.specs.LinkedSlips.{ReachesBack}
use Rattle.edit_trim.specs.Slipping.{cell_moved, changed_on, mark_of, slipped_by}

-- the cells

behind_next : (s : Side What) (back : ℕ) → ReachesBack s back → ReachesBack (next_side s) back
behind_next Dark back h = tt
behind_next (Pic w s) back h = omega (arith, h)

next_behind : (s : Side What) (on back : ℕ) → ReachesBack s back → next_side (moved s on back) ≡ moved (next_side s) on back
next_behind Dark on back h = refl
next_behind (Pic w s) on back h = let e : s + on - back + 1 ≡ s + 1 + on - back = omega (arith, h) in ap (Pic w) e

pub span-moved : (i : Option ℕ) (s : Side What) (l : Option Link) (on back n : ℕ) → ReachesBack s back → map (cell_moved on back) (span i s l n) ≡ span i (moved s on back) l n
span-moved i s l on back zero h = refl
span-moved i s l on back (suc n) h =
    ap (λ (cs : List Cell). record { item = i; side = moved s on back; mark = None; link = l } ∷ cs)
    (span-moved i (next_side s) l on back n (behind_next s back h) ∙ ap (λ (d : Side What). span i d l n) (sym (next_behind s on back h)))

marked_moved : (m : Option Mark) (cs : List Cell) (on back : ℕ) → map (cell_moved on back) (marked m cs) ≡ marked m (map (cell_moved on back) cs)
marked_moved m [] on back = refl
marked_moved m (c ∷ cs) on back = refl

view_moved : (v : ItemView) (on back : ℕ) → ReachesBack v.first back → map (cell_moved on back) (view_cells v) ≡ view_cells (record v { first = moved v.first on back })
view_moved v on back h = marked_moved v.mark (span v.item v.first v.link v.len) on back ∙ ap (marked v.mark) (span-moved v.item v.first v.link on back v.len h)

-- the cells before an item or gap, its own, and those behind it
parts_at : (g : ItemView → ItemView) (i : ℕ) (vs : List ItemView) (v : ItemView) → slice_get vs i ≡ Some v
    → cells_of (changed_at g i vs) ≡ cells_of (take i vs) ++ (view_cells (g v) ++ cells_of (drop (suc i) vs))
parts_at g i [] v e = absurd (omega (arith, slice_get_within [] i v e))
parts_at g zero (w ∷ ws) v e = let same : w ≡ v = cc in ap (λ (u : ItemView). view_cells (g u) ++ cells_of ws) same
parts_at g (suc i) (w ∷ ws) v e =
    ap (λ (cs : List Cell). view_cells w ++ cs) (parts_at g i ws v e)
    ∙ sym (append_assoc (view_cells w) (cells_of (take i ws)) (view_cells (g v) ++ cells_of (drop (suc i) ws)))

same_parts : (i : ℕ) (vs : List ItemView) → changed_at (λ v. v) i vs ≡ vs
same_parts i [] = refl
same_parts zero (v ∷ vs) = refl
same_parts (suc i) (v ∷ vs) = ap (λ (l : List ItemView). v ∷ l) (same_parts i vs)

changed_between : (f : Cell → Cell) (a b c : List Cell) → changed_on (length a) (length a + length b) f (a ++ (b ++ c)) ≡ a ++ (map f b ++ c)
changed_between f a b c =
    let front : take (length a) (a ++ (b ++ c)) ≡ a = take-append_seam a (b ++ c) in
    let both : take (length a + length b) (a ++ (b ++ c)) ≡ a ++ b = take-append-add a (b ++ c) (length b) ∙ ap (λ (l : List Cell). a ++ l) (take-append_seam b c) in
    let mid : drop (length a) (take (length a + length b) (a ++ (b ++ c))) ≡ b = ap (drop (length a)) both ∙ drop-append_seam a b in
    let back : drop (length a + length b) (a ++ (b ++ c)) ≡ c = drop-append-add a (b ++ c) (length b) ∙ drop-append_seam b c in
    ap (λ (l : List Cell). (l ++ map f (drop (length a) (take (length a + length b) (a ++ (b ++ c))))) ++ drop (length a + length b) (a ++ (b ++ c))) front
    ∙ (ap (λ (l : List Cell). (a ++ map f l) ++ drop (length a + length b) (a ++ (b ++ c))) mid
    ∙ (ap (λ (l : List Cell). (a ++ map f b) ++ l) back ∙ append_assoc a (map f b) c))

length_view : (v : ItemView) → length (view_cells v) ≡ v.len
length_view v = omega (arith, length-cells_of (v ∷ []), length-append (view_cells v) [])

cells_changed : (f : Cell → Cell) (g : ItemView → ItemView) (i x y : ℕ) (vs : List ItemView) (v : ItemView) → slice_get vs i ≡ Some v → x ≡ frames_in (take i vs) → y ≡ x + v.len
    → view_cells (g v) ≡ map f (view_cells v) → cells_of (changed_at g i vs) ≡ changed_on x y f (cells_of vs)
cells_changed f g i x y vs v e from to is =
    let a = cells_of (take i vs) in
    let b = view_cells v in
    let c = cells_of (drop (suc i) vs) in
    let all : cells_of vs ≡ a ++ (b ++ c) = ap cells_of (sym (same_parts i vs)) ∙ parts_at (λ u. u) i vs v e in
    let begin : length a ≡ x = length-cells_of (take i vs) ∙ sym from in
    let end : length a + length b ≡ y = omega (arith, begin, to, length_view v) in
    parts_at g i vs v e
    ∙ (ap (λ (l : List Cell). a ++ (l ++ c)) is
    ∙ (sym (changed_between f a b c)
    ∙ (ap (λ (n : ℕ). changed_on n (length a + length b) f (a ++ (b ++ c))) begin
    ∙ (ap (λ (n : ℕ). changed_on x n f (a ++ (b ++ c))) end ∙ ap (changed_on x y f) (sym all)))))

-- what other source frames leave as it was

lacks_sourced : (n s i : ℕ) (vs : List ItemView) → Lacks n vs → Lacks n (changed_at (with_source s) i vs)
lacks_sourced n s i [] l = tt
lacks_sourced n s zero (v ∷ vs) l = l
lacks_sourced n s (suc i) (v ∷ vs) l = (l.0, lacks_sourced n s i vs l.1)

if_lacks : (o : Option ℕ) (s i : ℕ) (vs : List ItemView) → IfSome o (λ n. Lacks n vs) → IfSome o (λ n. Lacks n (changed_at (with_source s) i vs))
if_lacks None s i vs l = tt
if_lacks (Some n) s i vs l = lacks_sourced n s i vs l

apart_sourced : (s i : ℕ) (vs : List ItemView) → Apart vs → Apart (changed_at (with_source s) i vs)
apart_sourced s i [] a = tt
apart_sourced s zero (v ∷ vs) a = a
apart_sourced s (suc i) (v ∷ vs) a = (if_lacks v.item s i vs a.0, apart_sourced s i vs a.1)

below_sourced : (next s i : ℕ) (vs : List ItemView) → NumbersBelow next vs → NumbersBelow next (changed_at (with_source s) i vs)
below_sourced next s i [] b = tt
below_sourced next s zero (v ∷ vs) b = b
below_sourced next s (suc i) (v ∷ vs) b = (b.0, below_sourced next s i vs b.1)

links_sourced : (n s i : ℕ) (vs : List ItemView) → EachLinkOf n vs → EachLinkOf n (changed_at (with_source s) i vs)
links_sourced n s i [] h = tt
links_sourced n s zero (v ∷ vs) h = h
links_sourced n s (suc i) (v ∷ vs) h = (h.0, links_sourced n s i vs h.1)

first_sourced : (s i : ℕ) (vs : List ItemView) → first_mark (changed_at (with_source s) i vs) ≡ first_mark vs
first_sourced s i [] = refl
first_sourced s zero (v ∷ vs) = refl
first_sourced s (suc i) (v ∷ vs) = refl

length_changed : (g : ItemView → ItemView) (i : ℕ) (vs : List ItemView) → length (changed_at g i vs) ≡ length vs
length_changed g i [] = refl
length_changed g zero (v ∷ vs) = refl
length_changed g (suc i) (v ∷ vs) = ap suc (length_changed g i vs)

shows_sourced : (o : Option ℕ) (d : Side What) (l : Option Link) (s : ℕ) → ShowsAsItem o d l → ShowsAsItem o (side_from d s) l
shows_sourced o Dark l s h = h
shows_sourced None (Pic w k) l s h = h
shows_sourced (Some i) (Pic w k) l s h = h

no_nest : (d : Side What) (m : Option Mark) (s : ℕ) → IsNoNest d m → IsNoNest (side_from d s) m
no_nest d None s h = tt
no_nest Dark (Some m) s h = tt
no_nest (Pic (Media n) k) (Some m) s h = tt
no_nest (Pic (Nest j) k) (Some m) s h = h

-- what the new source frames must be: in the program's numbers, and in the range of the thing
pub record Reaches (table : Table) (v : ItemView) (s : ℕ) (tail : Option Mark) : Type 0 where
  pub source : HasSource (side_from v.first s) v.len (left_reach v.mark) (right_reach tail)
  pub lies : SideLiesIn table (side_from v.first s) v.len (left_reach v.mark) (right_reach tail)

holds_sourced : (table : Table) (v : ItemView) (s : ℕ) (tail : Option Mark) → Reaches table v s tail → Holds v tail → Holds (with_source s v) tail
holds_sourced table v s tail r h = record {
  filled = h.filled;
  shows = shows_sourced v.item v.first v.link s h.shows;
  mark_filled = h.mark_filled;
  room = h.room;
  source = r.source;
  head_no_nest = no_nest v.first v.mark s h.head_no_nest;
  tail_no_nest = no_nest v.first tail s h.tail_no_nest;
}

pub first-of-rest : (vs : List ItemView) → first_mark vs ≡ mark_of (slice_get vs 0)
first-of-rest [] = refl
first-of-rest (v ∷ vs) = refl

each_sourced : (table : Table) (s i : ℕ) (vs : List ItemView) (v : ItemView) → slice_get vs i ≡ Some v → Reaches table v s (mark_of (slice_get vs (suc i))) → EachHolds vs → EachHolds (changed_at (with_source s) i vs)
each_sourced table s i [] v e r h = absurd (omega (arith, slice_get_within [] i v e))
each_sourced table s zero (w ∷ ws) v e r h =
    let same : v ≡ w = cc in
    (holds_sourced table w s (first_mark ws) (subst (Reaches table w s) (sym (first-of-rest ws)) (subst (λ (u : ItemView). Reaches table u s (mark_of (slice_get ws 0))) same r)) h.0, h.1)
each_sourced table s (suc i) (w ∷ ws) v e r h =
    (subst (Holds w) (sym (first_sourced s i ws)) h.0, each_sourced table s i ws v e r h.1)

ranges_sourced : (table : Table) (s i : ℕ) (vs : List ItemView) (v : ItemView) → slice_get vs i ≡ Some v → Reaches table v s (mark_of (slice_get vs (suc i))) → EachLiesIn table vs → EachLiesIn table (changed_at (with_source s) i vs)
ranges_sourced table s i [] v e r h = absurd (omega (arith, slice_get_within [] i v e))
ranges_sourced table s zero (w ∷ ws) v e r h =
    let same : v ≡ w = cc in
    let here = subst (Reaches table w s) (sym (first-of-rest ws)) (subst (λ (u : ItemView). Reaches table u s (mark_of (slice_get ws 0))) same r) in
    (here.lies, h.1)
ranges_sourced table s (suc i) (w ∷ ws) v e r h =
    (subst (λ (m : Option Mark). SideLiesIn table w.first w.len (left_reach w.mark) (right_reach m)) (sym (first_sourced s i ws)) h.0, ranges_sourced table s i ws v e r h.1)

shape : (s : ℕ) → LeavesShape (with_source s)
shape s = record { item = λ v. refl; len = λ v. refl }

pub items-sourced : (t : TrackState) (s i : ℕ) → IsKept t → items_of (changed_track t i (with_source s)).cells ≡ changed_at (with_source s) i (items_of t.cells)
items-sourced t s i k =
    items_of-tight (changed_at (with_source s) i (items_of t.cells))
    (filled-changed (with_source s) (shape s) i (items_of t.cells) (filled-each (items_of t.cells) k.each))
    (tight-changed (with_source s) (shape s) i (items_of t.cells) (stand_of t k).tight)

length_sourced : (t : TrackState) (s i : ℕ) → IsKept t → length (changed_track t i (with_source s)).cells ≡ length t.cells
length_sourced t s i k =
    omega (arith, length-cells_of (changed_at (with_source s) i (items_of t.cells)), length-cells_of (items_of t.cells), frames_in-changed (with_source s) (shape s) i (items_of t.cells), ap length k.whole)

pub sourced-good : (table : Table) (t : TrackState) (i s : ℕ) (v : ItemView) → IsGood table t → slice_get (items_of t.cells) i ≡ Some v → Reaches table v s (mark_of (slice_get (items_of t.cells) (suc i)))
    → IsGood table (changed_track t i (with_source s))
sourced-good table t i s v g e r =
    let k = g.kept in
    let vs = items_of t.cells in
    let same = items-sourced t s i k in
    let long = length_sourced t s i k in
    record {
      kept = record {
        whole = ap cells_of same;
        not_before = rw same (first_sourced s i vs ∙ k.not_before);
        each = rw same (each_sourced table s i vs v e r k.each);
        apart = rw same (apart_sourced s i vs k.apart);
        below = rw same (below_sourced t.next_item s i vs k.below);
        short = omega (arith, k.short, long);
      };
      ranges = rw same (ranges_sourced table s i vs v e r g.ranges);
      links = rw same (links_sourced t.number s i vs g.links);
      frames = omega (arith, long, g.frames);
      items = omega (arith, ap length same, length_changed (with_source s) i vs, g.items);
    }

pub sourced-stays : (table : Table) (t : TrackState) (i s : ℕ) (v : ItemView) → IsGood table t → slice_get (items_of t.cells) i ≡ Some v → Reaches table v s (mark_of (slice_get (items_of t.cells) (suc i)))
    → StaysGood table t (changed_track t i (with_source s))
sourced-stays table t i s v g e r = record {
  good = sourced-good table t i s v g e r;
  number = refl;
}

-- the code's change of an item is that of its cells
behind_of : (s on back k : ℕ) (w : What) (v : ItemView) → v.first ≡ Pic w s → back ≤ s → k ≡ s + on - back → (with_source k v).first ≡ moved v.first on back
behind_of s on back k w v e le is =
    ap (λ (d : Side What). side_from d k) e ∙ (ap (Pic w) is ∙ ap (λ (d : Side What). moved d on back) (sym e))

first_behind : (s back : ℕ) (w : What) (v : ItemView) → v.first ≡ Pic w s → back ≤ s → ReachesBack v.first back
first_behind s back w v e le = subst (λ (d : Side What). ReachesBack d back) (sym e) le

pub sourced-slipped : (t : TrackState) (i x y s on back k : ℕ) (w : What) (v : ItemView) → IsKept t → slice_get (items_of t.cells) i ≡ Some v → x ≡ frames_in (take i (items_of t.cells)) → y ≡ x + v.len
    → v.first ≡ Pic w s → back ≤ s → k ≡ s + on - back → changed_track t i (with_source k) ≡ slipped_by t x y on back
sourced-slipped t i x y s on back k w v kept e from to first le is =
    let view : view_cells (with_source k v) ≡ map (cell_moved on back) (view_cells v) =
    ap (λ (d : Side What). view_cells (record v { first = d })) (behind_of s on back k w v first le is) ∙ sym (view_moved v on back (first_behind s back w v first le)) in
    ap (λ (cs : List Cell). record t { cells = cs })
    (cells_changed (cell_moved on back) (with_source k) i x y (items_of t.cells) v e from to view ∙ ap (changed_on x y (cell_moved on back)) kept.whole)
