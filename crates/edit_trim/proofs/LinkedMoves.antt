-- Tracks on which all that has a link shows other source frames.
use Rattle.std.proofs.Common.{◌≡◌, ℕ, zero, suc, ◌+◌, ◌-◌, ◌<◌, ◌≤◌, Bool, true, false, cond, List, [], ◌∷◌, ◌++◌, All, length, map, get_or, Option, Some, None, slice_get, refl, sym, ap, ◌∙◌, arith, subst}
use Rattle.std.proofs.lemmas.List.{map-append}
use Rattle.std.proofs.lemmas.Option.{slice_get_within}
use Rattle.frame_meaning.specs.declared.cells.Cell.{Cell}
use Rattle.frame_meaning.specs.declared.cells.Link.{Link}
use Rattle.frame_meaning.specs.declared.cells.Mark.{Mark}
use Rattle.frame_meaning.specs.declared.cells.What.{What}
use Rattle.frame_meaning.specs.declared.frames.Side.{Side}
use Rattle.frame_meaning.specs.declared.frames.Side.TheVariants.{Dark, Pic}
use Rattle.frame_meaning.specs.Cells.{next_side, span}
use Rattle.frame_meaning.specs.Render.{moved}
use Rattle.composables.specs.declared.items.ItemView.{ItemView}
use Rattle.composables.specs.declared.media.Table.{Table}
use Rattle.composables.specs.Changes.{changed_at, changed_track, side_from, with_source}
use Rattle.composables.specs.Good.{IsGood, SideLiesIn}
use Rattle.composables.specs.Items.{cells_of, items_of, marked, view_cells}
use Rattle.composables.specs.TrackFacts.{HasSource, left_reach, right_reach}
use Rattle.composables.specs.TrackState.{TrackState}
use Rattle.edit_splice.specs.Standing.{EachStaysGood, StaysGood}
use Rattle.edit_splice.proofs.Standing.{all_head, all_tail}
use Rattle.edit_trim.specs.LinkedSlips.{AllMove, EachMoves, ReachesBack, ShowsMoved}
use Rattle.edit_trim.specs.Slipping.{cell_moved, linked_moved, mark_of, track_moved}
use Rattle.edit_trim.proofs.Slips.{Reaches, first-of-rest, items-sourced, sourced-good, span-moved}
use Rattle.link_groups.specs.ItemLinks.{carries}

-- an item or gap with the link shows other source frames; and the first of a track do
abbrev pub view_slipped : Link → ℕ → ℕ → ItemView → ItemView
view_slipped l on back v = cond (carries l v.link) (record v { first = moved v.first on back }) v

abbrev pub part_slipped : Link → ℕ → ℕ → ℕ → List ItemView → List ItemView
part_slipped l on back zero vs = vs
part_slipped l on back (suc i) [] = []
part_slipped l on back (suc i) (v ∷ vs) = view_slipped l on back v ∷ part_slipped l on back i vs

part_read : (l : Link) (on back i j : ℕ) (vs : List ItemView) → i ≤ j → slice_get (part_slipped l on back i vs) j ≡ slice_get vs j
part_read l on back zero j vs h = refl
part_read l on back (suc i) j [] h = refl
part_read l on back (suc i) zero (v ∷ vs) h = absurd (omega (arith, h))
part_read l on back (suc i) (suc j) (v ∷ vs) h = part_read l on back i j vs (omega (arith, h))

part_none : (l : Link) (on back i : ℕ) (vs : List ItemView) → slice_get vs i ≡ None → part_slipped l on back (suc i) vs ≡ part_slipped l on back i vs
part_none l on back zero [] e = refl
part_none l on back zero (v ∷ vs) e = absurd cc
part_none l on back (suc i) [] e = refl
part_none l on back (suc i) (v ∷ vs) e = ap (λ (us : List ItemView). view_slipped l on back v ∷ us) (part_none l on back i vs e)

part_passed : (l : Link) (on back i : ℕ) (vs : List ItemView) (v : ItemView) → slice_get vs i ≡ Some v → carries l v.link ≡ false → part_slipped l on back (suc i) vs ≡ part_slipped l on back i vs
part_passed l on back i [] v e c = absurd (omega (arith, slice_get_within [] i v e))
part_passed l on back zero (w ∷ ws) v e c =
    let same : w ≡ v = cc in
    ap (λ (b : Bool). cond b (record w { first = moved w.first on back }) w ∷ ws) (ap (λ (u : ItemView). carries l u.link) same ∙ c)
part_passed l on back (suc i) (w ∷ ws) v e c = ap (λ (us : List ItemView). view_slipped l on back w ∷ us) (part_passed l on back i ws v e c)

part_met : (l : Link) (on back i k : ℕ) (vs : List ItemView) (v : ItemView) → slice_get vs i ≡ Some v → carries l v.link ≡ true → side_from v.first k ≡ moved v.first on back
    → changed_at (with_source k) i (part_slipped l on back i vs) ≡ part_slipped l on back (suc i) vs
part_met l on back i k [] v e c s = absurd (omega (arith, slice_get_within [] i v e))
part_met l on back zero k (w ∷ ws) v e c s =
    let same : w ≡ v = cc in
    let side : side_from w.first k ≡ moved w.first on back = subst (λ (u : ItemView). side_from u.first k ≡ moved u.first on back) (sym same) s in
    ap (λ (d : Side What). record w { first = d } ∷ ws) side
    ∙ ap (λ (b : Bool). cond b (record w { first = moved w.first on back }) w ∷ ws) (sym (ap (λ (u : ItemView). carries l u.link) same ∙ c))
part_met l on back (suc i) k (w ∷ ws) v e c s = ap (λ (us : List ItemView). view_slipped l on back w ∷ us) (part_met l on back i k ws v e c s)

part_all : (l : Link) (on back i : ℕ) (vs : List ItemView) → length vs ≤ i → part_slipped l on back i vs ≡ map (view_slipped l on back) vs
part_all l on back zero [] h = refl
part_all l on back zero (v ∷ vs) h = absurd (omega (arith, h))
part_all l on back (suc i) [] h = refl
part_all l on back (suc i) (v ∷ vs) h = ap (λ (us : List ItemView). view_slipped l on back v ∷ us) (part_all l on back i vs (omega (arith, h)))

-- the cells

span_as : (l : Link) (on back : ℕ) (i : Option ℕ) (s : Side What) (k : Option Link) (n : ℕ) → carries l k ≡ true → map (linked_moved l on back) (span i s k n) ≡ map (cell_moved on back) (span i s k n)
span_as l on back i s k zero c = refl
span_as l on back i s k (suc n) c =
    let d : Cell = record { item = i; side = s; mark = None; link = k } in
    ap (λ (b : Bool). cond b (cell_moved on back d) d ∷ map (linked_moved l on back) (span i (next_side s) k n)) c
    ∙ ap (λ (cs : List Cell). cell_moved on back d ∷ cs) (span_as l on back i (next_side s) k n c)

span_other : (l : Link) (on back : ℕ) (i : Option ℕ) (s : Side What) (k : Option Link) (n : ℕ) → carries l k ≡ false → map (linked_moved l on back) (span i s k n) ≡ span i s k n
span_other l on back i s k zero c = refl
span_other l on back i s k (suc n) c =
    let d : Cell = record { item = i; side = s; mark = None; link = k } in
    ap (λ (b : Bool). cond b (cell_moved on back d) d ∷ map (linked_moved l on back) (span i (next_side s) k n)) c
    ∙ ap (λ (cs : List Cell). d ∷ cs) (span_other l on back i (next_side s) k n c)

marked_linked : (l : Link) (on back : ℕ) (m : Option Mark) (cs : List Cell) → map (linked_moved l on back) (marked m cs) ≡ marked m (map (linked_moved l on back) cs)
marked_linked l on back m [] = refl
marked_linked l on back m (c ∷ cs) = ap (λ (d : Cell). d ∷ map (linked_moved l on back) cs) (by (carries l c.link)) where
  by : (b : Bool) → cond b (cell_moved on back (record c { mark = m })) (record c { mark = m }) ≡ record (cond b (cell_moved on back c) c) { mark = m }
  by true = refl
  by false = refl

view_cells_slipped : (l : Link) (on back : ℕ) (v : ItemView) → (carries l v.link ≡ true → ReachesBack v.first back) → map (linked_moved l on back) (view_cells v) ≡ view_cells (view_slipped l on back v)
view_cells_slipped l on back v h = by (carries l v.link) refl where
  by : (b : Bool) → carries l v.link ≡ b → map (linked_moved l on back) (view_cells v) ≡ view_cells (view_slipped l on back v)
  by true e =
      marked_linked l on back v.mark (span v.item v.first v.link v.len)
      ∙ (ap (marked v.mark) (span_as l on back v.item v.first v.link v.len e ∙ span-moved v.item v.first v.link on back v.len (h e))
      ∙ ap (λ (b : Bool). view_cells (cond b (record v { first = moved v.first on back }) v)) (sym e))
  by false e =
      marked_linked l on back v.mark (span v.item v.first v.link v.len)
      ∙ (ap (marked v.mark) (span_other l on back v.item v.first v.link v.len e)
      ∙ ap (λ (b : Bool). view_cells (cond b (record v { first = moved v.first on back }) v)) (sym e))

cells_slipped : (table : Table) (l : Link) (on back : ℕ) (vs : List ItemView) → EachMoves table l vs on back → map (linked_moved l on back) (cells_of vs) ≡ cells_of (map (view_slipped l on back) vs)
cells_slipped table l on back [] h = refl
cells_slipped table l on back (v ∷ vs) h =
    map-append (linked_moved l on back) (view_cells v) (cells_of vs)
    ∙ (ap (λ (cs : List Cell). cs ++ map (linked_moved l on back) (cells_of vs)) (view_cells_slipped l on back v (λ c. (h.0 c).reaches))
    ∙ ap (λ (cs : List Cell). view_cells (view_slipped l on back v) ++ cs) (cells_slipped table l on back vs h.1))

-- the track u is the track t of which the first items and gaps are moved
abbrev pub partly : Link → ℕ → ℕ → ℕ → TrackState → TrackState
partly l on back i t = record t { cells = cells_of (part_slipped l on back i (items_of t.cells)) }

record IsPart (table : Table) (l : Link) (on back i : ℕ) (t u : TrackState) : Type 0 where
  cells : u ≡ partly l on back i t
  items : items_of u.cells ≡ part_slipped l on back i (items_of t.cells)
  good : IsGood table u

moves_at : (table : Table) (l : Link) (vs : List ItemView) (i : ℕ) (v : ItemView) (on back : ℕ) → slice_get vs i ≡ Some v → carries l v.link ≡ true → EachMoves table l vs on back
    → ShowsMoved table v (mark_of (slice_get vs (suc i))) on back
moves_at table l [] i v on back e c h = absurd (omega (arith, slice_get_within [] i v e))
moves_at table l (w ∷ ws) zero v on back e c h =
    let same : w ≡ v = cc in
    let there : carries l w.link ≡ true = ap (λ (u : ItemView). carries l u.link) same ∙ c in
    subst (λ (u : ItemView). ShowsMoved table u (mark_of (slice_get ws 0)) on back) same (subst (λ (m : Option Mark). ShowsMoved table w m on back) (first-of-rest ws) (h.0 there))
moves_at table l (w ∷ ws) (suc i) v on back e c h = moves_at table l ws i v on back e c h.1

reaches_of : (table : Table) (v : ItemView) (tail : Option Mark) (on back k : ℕ) → ShowsMoved table v tail on back → side_from v.first k ≡ moved v.first on back → Reaches table v k tail
reaches_of table v tail on back k h s = record {
  source = subst (λ (d : Side What). HasSource d v.len (left_reach v.mark) (right_reach tail)) (sym s) h.source;
  lies = subst (λ (d : Side What). SideLiesIn table d v.len (left_reach v.mark) (right_reach tail)) (sym s) h.lies;
}

part_start : (table : Table) (l : Link) (on back : ℕ) (t : TrackState) → IsGood table t → IsPart table l on back 0 t (partly l on back 0 t)
part_start table l on back t g =
    let same : t ≡ partly l on back 0 t = ap (λ (cs : List Cell). record t { cells = cs }) (sym g.kept.whole) in
    record { cells = refl; items = ap items_of g.kept.whole; good = subst (IsGood table) same g }

part_good : (table : Table) (l : Link) (on back i k : ℕ) (t u : TrackState) (v : ItemView) → IsPart table l on back i t u → slice_get (items_of t.cells) i ≡ Some v → carries l v.link ≡ true
    → EachMoves table l (items_of t.cells) on back → side_from v.first k ≡ moved v.first on back → IsGood table (changed_track u i (with_source k))
part_good table l on back i k t u v p e c h s = sourced-good table u i k v p.good read reaches where
  vs : List ItemView
  vs = items_of t.cells

  read : slice_get (items_of u.cells) i ≡ Some v
  read = ap (λ (ws : List ItemView). slice_get ws i) p.items ∙ (part_read l on back i i vs (omega arith) ∙ e)

  tail : slice_get (items_of u.cells) (suc i) ≡ slice_get vs (suc i)
  tail = ap (λ (ws : List ItemView). slice_get ws (suc i)) p.items ∙ part_read l on back i (suc i) vs (omega arith)

  reaches : Reaches table v k (mark_of (slice_get (items_of u.cells) (suc i)))
  reaches = subst (λ (o : Option ItemView). Reaches table v k (mark_of o)) (sym tail) (reaches_of table v (mark_of (slice_get vs (suc i))) on back k (moves_at table l vs i v on back e c h) s)

part_changed : (table : Table) (l : Link) (on back i k : ℕ) (t u : TrackState) (v : ItemView) → IsPart table l on back i t u → slice_get (items_of t.cells) i ≡ Some v → carries l v.link ≡ true
    → side_from v.first k ≡ moved v.first on back → changed_track u i (with_source k) ≡ partly l on back (suc i) t
part_changed table l on back i k t u v p e c s =
    let vs = items_of t.cells in
    ap (λ (w : TrackState). record w { cells = cells_of (changed_at (with_source k) i (items_of u.cells)) }) p.cells
    ∙ ap (λ (ws : List ItemView). record t { cells = cells_of ws }) (ap (changed_at (with_source k) i) p.items ∙ part_met l on back i k vs v e c s)

part_step : (table : Table) (l : Link) (on back i k : ℕ) (t u : TrackState) (v : ItemView) → IsPart table l on back i t u → slice_get (items_of t.cells) i ≡ Some v → carries l v.link ≡ true
    → EachMoves table l (items_of t.cells) on back → side_from v.first k ≡ moved v.first on back → IsPart table l on back (suc i) t (partly l on back (suc i) t)
part_step table l on back i k t u v p e c h s =
    let good = part_good table l on back i k t u v p e c h s in
    let is = part_changed table l on back i k t u v p e c s in
    record {
      cells = refl;
      items =
          ap (λ (w : TrackState). items_of w.cells) (sym is)
          ∙ (items-sourced u k i p.good.kept ∙ (ap (changed_at (with_source k) i) p.items ∙ part_met l on back i k (items_of t.cells) v e c s));
      good = subst (IsGood table) is good;
    }

part_same : (table : Table) (l : Link) (on back i : ℕ) (t : TrackState) → part_slipped l on back (suc i) (items_of t.cells) ≡ part_slipped l on back i (items_of t.cells)
    → IsPart table l on back i t (partly l on back i t) → IsPart table l on back (suc i) t (partly l on back (suc i) t)
part_same table l on back i t e p =
    let same : partly l on back i t ≡ partly l on back (suc i) t = ap (λ (ws : List ItemView). record t { cells = cells_of ws }) (sym e) in
    record {
      cells = refl;
      items = ap (λ (w : TrackState). items_of w.cells) (sym same) ∙ (p.items ∙ sym e);
      good = subst (IsGood table) same p.good;
    }

-- a source frame that shows what is meant
source_for : (d : Side What) (on back : ℕ) → (k : ℕ) × (side_from d k ≡ moved d on back)
source_for Dark on back = (0, refl)
source_for (Pic w s) on back = (s + on - back, refl)

all_part : (table : Table) (l : Link) (on back : ℕ) (t : TrackState) (n : ℕ) → IsGood table t → EachMoves table l (items_of t.cells) on back → IsPart table l on back n t (partly l on back n t)
all_part table l on back t zero g h = part_start table l on back t g
all_part table l on back t (suc n) g h = by (slice_get (items_of t.cells) n) refl (all_part table l on back t n g h) where
  carried : (v : ItemView) (b : Bool) → slice_get (items_of t.cells) n ≡ Some v → carries l v.link ≡ b → IsPart table l on back n t (partly l on back n t) → IsPart table l on back (suc n) t (partly l on back (suc n) t)
  carried v true e c p =
      let k = source_for v.first on back in
      part_step table l on back n k.0 t (partly l on back n t) v p e c h k.1
  carried v false e c p = part_same table l on back n t (part_passed l on back n (items_of t.cells) v e c) p

  by : (o : Option ItemView) → slice_get (items_of t.cells) n ≡ o → IsPart table l on back n t (partly l on back n t) → IsPart table l on back (suc n) t (partly l on back (suc n) t)
  by None e p = part_same table l on back n t (part_none l on back n (items_of t.cells) e) p
  by (Some v) e p = carried v (carries l v.link) e refl p

-- one step of the code

pub start-part : (table : Table) (l : Link) (on back : ℕ) (t : TrackState) → IsGood table t → t ≡ partly l on back 0 t
start-part table l on back t g = ap (λ (cs : List Cell). record t { cells = cs }) (sym g.kept.whole)

pub moves-part : (table : Table) (l : Link) (on back i : ℕ) (t : TrackState) (v : ItemView) → EachMoves table l (items_of t.cells) on back
    → slice_get (items_of t.cells) i ≡ Some v → carries l v.link ≡ true → ShowsMoved table v (mark_of (slice_get (items_of t.cells) (suc i))) on back
moves-part table l on back i t v h e c = moves_at table l (items_of t.cells) i v on back e c h

-- what of that the code asks for
bare_source : (d : Side What) (len a b : ℕ) → HasSource d len a b → HasSource d len 0 0
bare_source Dark len a b h = tt
bare_source (Pic w s) len a b h = (omega arith, omega (arith, h.1))

pub source-part : (table : Table) (v : ItemView) (tail : Option Mark) (on back : ℕ) → ShowsMoved table v tail on back → HasSource (moved v.first on back) v.len 0 0
source-part table v tail on back h = bare_source (moved v.first on back) v.len (left_reach v.mark) (right_reach tail) h.source

pub good-part : (table : Table) (l : Link) (on back i k : ℕ) (t u : TrackState) (v : ItemView) → IsGood table t → EachMoves table l (items_of t.cells) on back → u ≡ partly l on back i t
    → slice_get (items_of t.cells) i ≡ Some v → carries l v.link ≡ true → side_from v.first k ≡ moved v.first on back → IsGood table (changed_track u i (with_source k))
good-part table l on back i k t u v g h is e c s =
    let p = all_part table l on back t i g h in
    subst (λ (w : TrackState). IsGood table (changed_track w i (with_source k))) (sym is)
    (part_good table l on back i k t (partly l on back i t) v p e c h s)

pub more-part : (table : Table) (l : Link) (on back i k : ℕ) (t u new : TrackState) (v : ItemView) → IsGood table t → EachMoves table l (items_of t.cells) on back → u ≡ partly l on back i t
    → slice_get (items_of t.cells) i ≡ Some v → carries l v.link ≡ true → side_from v.first k ≡ moved v.first on back → new ≡ changed_track u i (with_source k) → new ≡ partly l on back (i + 1) t
more-part table l on back i k t u new v g h is e c s made =
    let p = all_part table l on back t i g h in
    let more : suc i ≡ i + 1 = omega arith in
    made
    ∙ (ap (λ (w : TrackState). changed_track w i (with_source k)) is
    ∙ (part_changed table l on back i k t (partly l on back i t) v p e c s ∙ ap (λ (n : ℕ). partly l on back n t) more))

pub same-part : (table : Table) (l : Link) (on back i : ℕ) (t u : TrackState) (v : ItemView) → u ≡ partly l on back i t
    → slice_get (items_of t.cells) i ≡ Some v → carries l v.link ≡ false → u ≡ partly l on back (i + 1) t
same-part table l on back i t u v is e c =
    let more : suc i ≡ i + 1 = omega arith in
    is
    ∙ (ap (λ (ws : List ItemView). record t { cells = cells_of ws }) (sym (part_passed l on back i (items_of t.cells) v e c))
    ∙ ap (λ (n : ℕ). partly l on back n t) more)

pub count-part : (table : Table) (l : Link) (on back i : ℕ) (t u : TrackState) → IsGood table t → EachMoves table l (items_of t.cells) on back → u ≡ partly l on back i t → length (items_of u.cells) ≡ length (items_of t.cells)
count-part table l on back i t u g h is =
    ap (λ (w : TrackState). length (items_of w.cells)) is ∙ (ap length (all_part table l on back t i g h).items ∙ part_length i (items_of t.cells)) where
      part_length : (i : ℕ) (vs : List ItemView) → length (part_slipped l on back i vs) ≡ length vs
      part_length zero vs = refl
      part_length (suc i) [] = refl
      part_length (suc i) (v ∷ vs) = ap suc (part_length i vs)

whole_part : (table : Table) (l : Link) (on back i : ℕ) (t : TrackState) → IsGood table t → EachMoves table l (items_of t.cells) on back → length (items_of t.cells) ≤ i → partly l on back i t ≡ track_moved l on back t
whole_part table l on back i t g h le =
    ap (λ (ws : List ItemView). record t { cells = cells_of ws }) (part_all l on back i (items_of t.cells) le)
    ∙ ap (λ (cs : List Cell). record t { cells = cs }) (sym (cells_slipped table l on back (items_of t.cells) h) ∙ ap (map (linked_moved l on back)) g.kept.whole)

pub end-part : (table : Table) (l : Link) (on back i : ℕ) (t u : TrackState) → IsGood table t → EachMoves table l (items_of t.cells) on back → u ≡ partly l on back i t → length (items_of t.cells) ≤ i → u ≡ track_moved l on back t
end-part table l on back i t u g h is le = is ∙ whole_part table l on back i t g h le

-- what stays

moved_stays : (table : Table) (l : Link) (on back : ℕ) (t : TrackState) → IsGood table t → EachMoves table l (items_of t.cells) on back → StaysGood table t (track_moved l on back t)
moved_stays table l on back t g h =
    let n = length (items_of t.cells) in
    let p = all_part table l on back t n g h in
    let is = whole_part table l on back n t g h (omega arith) in
    record {
      good = subst (IsGood table) is p.good;
      number = refl;
    }

pub all-stay : (table : Table) (l : Link) (on back : ℕ) (ts : List TrackState) → All (IsGood table) ts → AllMove table l ts on back → EachStaysGood table ts (map (track_moved l on back) ts)
all-stay table l on back [] g h = tt
all-stay table l on back (t ∷ ts) g h =
    (moved_stays table l on back t (all_head (IsGood table) t ts g) h.0, all-stay table l on back ts (all_tail (IsGood table) t ts g) h.1)

pub moves-there : (table : Table) (l : Link) (on back n : ℕ) (ts : List TrackState) (d : TrackState) → n < length ts → AllMove table l ts on back → EachMoves table l (items_of (get_or ts n d).cells) on back
moves-there table l on back n [] d lt h = absurd (omega (arith, lt))
moves-there table l on back zero (t ∷ ts) d lt h = h.0
moves-there table l on back (suc n) (t ∷ ts) d lt h = moves-there table l on back n ts d (omega (arith, lt)) h.1
