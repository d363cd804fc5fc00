-- The items or gaps beside record frames of a track that is good in a table, with their places; and where cuts stand.
use Rattle.std.proofs.Common.{◌≡◌, ℕ, zero, suc, ◌+◌, ◌-◌, ◌<◌, ◌≤◌, Bool, true, false, not, cond, ◌&&◌, ltb, List, [], ◌∷◌, length, take, Option, Some, None, IfSome, get_or, slice_get, refl, sym, ap, ◌∙◌, arith, subst, ⊎_elim, ◌⊎◌}
use Rattle.std.proofs.lemmas.Bool.{eq-eqb, lt-ltb, le-ltb}
use Rattle.std.proofs.lemmas.List.{take_all}
use Rattle.std.proofs.lemmas.Option.{slice_get_within, slice_get-get_or, get_or_from_slice_get}
use Rattle.frame_meaning.specs.declared.cells.Cell.{Cell}
use Rattle.frame_meaning.specs.Cells.{belong, same_number}
use Rattle.frame_meaning.specs.Render.{cell_at}
use Rattle.composables.specs.declared.items.ItemView.{ItemView}
use Rattle.composables.specs.declared.items.Place.{Place}
use Rattle.composables.specs.declared.media.Table.{Table}
use Rattle.composables.specs.Good.{IsGood}
use Rattle.composables.specs.Items.{items_of}
use Rattle.composables.specs.Joined.{AllFilled, frames_in}
use Rattle.composables.specs.Places.{StandsAt}
use Rattle.composables.specs.Ranges.{is_cut}
use Rattle.composables.specs.TrackFacts.{IsKept}
use Rattle.composables.specs.TrackState.{TrackState}
use Rattle.composables.proofs.Frames.{frames_in-take_more, frames_in-take_le, no_view}
use Rattle.edit_delta.proofs.Spots.{Spot, apart-next, cell-there, length-frames, spot-of}
use Rattle.edit_splice.proofs.Keeping.{stand_of}
use Rattle.edit_splice.proofs.Meeting.{filled-each}
use Rattle.edit_roll.specs.declared.neighbours.Sides.{Sides}
use Rattle.edit_delta.specs.Parts.{IsWhole}
use Rattle.edit_roll.specs.Neighbours.{has_neighbours, range_at}
use Rattle.edit_roll.specs.NeighboursInside.{AreBeside, StandBeside}

-- what holds a place
range_there : (vs : List ItemView) (base i : ℕ) (v : ItemView) (q : ℕ) → slice_get vs i ≡ Some v → frames_in (take i vs) ≤ q → q < frames_in (take i vs) + v.len
    → range_at base vs q ≡ (base + frames_in (take i vs), base + frames_in (take i vs) + v.len)
range_there [] base i v q e lo hi = absurd (omega (arith, slice_get_within [] i v e))
range_there (w ∷ ws) base zero v q e lo hi =
    let same : w ≡ v = cc in
    let z : base ≡ base + 0 = omega arith in
    let inside : ltb q w.len ≡ true = lt-ltb q w.len (omega (arith, hi, ap (λ (u : ItemView). u.len) same)) in
    ap (λ (b : Bool). cond b (base, base + w.len) (range_at (base + w.len) ws (q - w.len))) inside
    ∙ (ap (λ (u : ItemView). (base, base + u.len)) same ∙ ap (λ (n : ℕ). (n, n + v.len)) z)
range_there (w ∷ ws) base (suc i) v q e lo hi =
    let out : ltb q w.len ≡ false = le-ltb q w.len (omega (arith, lo)) in
    let p : base + w.len + frames_in (take i ws) ≡ base + (w.len + frames_in (take i ws)) = omega arith in
    ap (λ (b : Bool). cond b (base, base + w.len) (range_at (base + w.len) ws (q - w.len))) out
    ∙ (range_there ws (base + w.len) i v (q - w.len) e (omega (arith, lo)) (omega (arith, lo, hi)) ∙ ap (λ (n : ℕ). (n, n + v.len)) p)

pub range-of : (table : Table) (t : TrackState) (i : ℕ) (v : ItemView) (x y q : ℕ) → Spot table t i v x y → x ≤ q → q < y → range_at 0 (items_of t.cells) q ≡ (x, y)
range-of table t i v x y q s lo hi =
    let f : ℕ = frames_in (take i (items_of t.cells)) in
    let a : 0 + f ≡ x = omega (arith, s.starts) in
    let b : 0 + f + v.len ≡ y = omega (arith, s.starts, s.long) in
    range_there (items_of t.cells) 0 i v q s.read (omega (arith, s.starts, lo)) (omega (arith, s.starts, s.long, hi))
    ∙ (ap (λ (n : ℕ). (n, 0 + f + v.len)) a ∙ ap (λ (n : ℕ). (x, n)) b)

-- the places of the two
stops_of : (vs : List ItemView) (i : ℕ) (v : ItemView) → slice_get vs i ≡ Some v → frames_in (take (i + 1) vs) ≡ frames_in (take i vs) + v.len
stops_of vs i v read =
    omega (arith, frames_in-take_more vs i no_view (slice_get_within vs i v read), ap (λ (u : ItemView). u.len) (get_or_from_slice_get vs i v no_view read))

pub left-spot : (table : Table) (t : TrackState) (x y : ℕ) (s : Sides) → IsGood table t → (b : StandBeside t.cells x y s) → Spot table t (b.from - 1) s.left (x - s.left.len) x
left-spot table t x y s good b =
    let vs = items_of t.cells in
    let e : b.from ≡ b.from - 1 + 1 = omega (arith, b.beside.some) in
    let stops : x ≡ frames_in (take (b.from - 1 + 1) vs) = b.ends ∙ ap (λ (k : ℕ). frames_in (take k vs)) e in
    spot-of table t (b.from - 1) s.left (x - s.left.len) x good b.beside.left (omega (arith, stops, stops_of vs (b.from - 1) s.left b.beside.left)) stops

pub right-spot : (table : Table) (t : TrackState) (x y : ℕ) (s : Sides) → IsGood table t → (b : StandBeside t.cells x y s) → Spot table t b.to s.right y (y + s.right.len)
right-spot table t x y s good b =
    let vs = items_of t.cells in
    spot-of table t b.to s.right y (y + s.right.len) good b.beside.right b.begins (omega (arith, b.begins, stops_of vs b.to s.right b.beside.right))

pub whole-of : (table : Table) (t : TrackState) (i : ℕ) (v : ItemView) (x y : ℕ) → Spot table t i v x y → IsWhole table v
whole-of table t i v x y s = record { filled = s.filled; lies = s.lies; source = s.source }

pub no-cut-before : (cells : List Cell) (p : ℕ) → p ≡ 0 → is_cut cells p ≡ false
no-cut-before cells p h = ap (λ (b : Bool). (b && ltb p (length cells)) && not (belong (cell_at cells (p - 1)) (cell_at cells p))) (le-ltb 0 p (omega (arith, h)))

same_self : (o : Option ℕ) → same_number o o ≡ true
same_self None = refl
same_self (Some i) = eq-eqb i i refl

number_there : (t : TrackState) (i : ℕ) (v : ItemView) (q k : ℕ) → IsKept t → slice_get (items_of t.cells) i ≡ Some v → q ≡ frames_in (take i (items_of t.cells)) + k → k < v.len → (cell_at t.cells q).item ≡ v.item
number_there t i v q k kept read is lt =
    ap (λ (p : ℕ). (cell_at t.cells p).item) is
    ∙ (ap (λ (cs : List Cell). (cell_at cs (frames_in (take i (items_of t.cells)) + k)).item) (sym kept.whole)
    ∙ ap (λ (c : Cell). c.item) (cell-there (items_of t.cells) i k v read lt))

none_and : (b : Bool) → b && false ≡ false
none_and true = refl
none_and false = refl

no_cut_inside : (t : TrackState) (p i : ℕ) (v : ItemView) → IsKept t → slice_get (items_of t.cells) i ≡ Some v → frames_in (take i (items_of t.cells)) < p → p < frames_in (take i (items_of t.cells)) + v.len
    → is_cut t.cells p ≡ false
no_cut_inside t p i v kept read lo hi =
    let f = frames_in (take i (items_of t.cells)) in
    let one : (cell_at t.cells (p - 1)).item ≡ v.item = number_there t i v (p - 1) (p - 1 - f) kept read (omega (arith, lo)) (omega (arith, lo, hi)) in
    let two : (cell_at t.cells p).item ≡ v.item = number_there t i v p (p - f) kept read (omega (arith, lo)) (omega (arith, lo, hi)) in
    let same : belong (cell_at t.cells (p - 1)) (cell_at t.cells p) ≡ true =
    ap (λ (o : Option ℕ). same_number o (cell_at t.cells p).item) one ∙ (ap (same_number v.item) two ∙ same_self v.item) in
    ap (λ (b : Bool). (ltb 0 p && ltb p (length t.cells)) && not b) same ∙ none_and (ltb 0 p && ltb p (length t.cells))

pub no-cut-inside : (t : TrackState) (p : ℕ) (at : Place) → IsKept t → StandsAt (items_of t.cells) at → at.from < p → p < at.to → is_cut t.cells p ≡ false
no-cut-inside t p at kept stands lo hi =
    let vs = items_of t.cells in
    let v = get_or vs at.index no_view in
    let read : slice_get vs at.index ≡ Some v = slice_get-get_or vs at.index no_view stands.index in
    no_cut_inside t p at.index v kept read (omega (arith, stands.from, lo)) (omega (arith, stands.to, stops_of vs at.index v read, hi))

-- a cut stands between two neighbours
filled_there : (vs : List ItemView) (i : ℕ) (v : ItemView) → AllFilled vs → slice_get vs i ≡ Some v → 0 < v.len
filled_there [] i v f e = absurd (omega (arith, slice_get_within [] i v e))
filled_there (w ∷ ws) zero v f e = let same : w ≡ v = cc in omega (arith, f.0, ap (λ (u : ItemView). u.len) same)
filled_there (w ∷ ws) (suc i) v f e = filled_there ws i v f.1 e

three_true : (a b c : Bool) → a ≡ true → b ≡ true → c ≡ false → (a && b) && not c ≡ true
three_true true b c e f g = ap (λ (z : Bool). z && not c) f ∙ ap not g
three_true false b c e f g = absurd cc

pub cut-between : (t : TrackState) (p i : ℕ) (l r : ItemView) → IsKept t → slice_get (items_of t.cells) i ≡ Some l → slice_get (items_of t.cells) (suc i) ≡ Some r → p ≡ frames_in (take (suc i) (items_of t.cells))
    → is_cut t.cells p ≡ true
cut-between t p i l r kept left right is =
    let vs = items_of t.cells in
    let some_l = filled_there vs i l (filled-each vs kept.each) left in
    let some_r = filled_there vs (suc i) r (filled-each vs kept.each) right in
    let next : i + 1 ≡ suc i = omega arith in
    let step : frames_in (take (suc i) vs) ≡ frames_in (take i vs) + l.len = ap (λ (k : ℕ). frames_in (take k vs)) (sym next) ∙ stops_of vs i l left in
    let inside : p < length t.cells = omega (arith, is, some_r, stops_of vs (suc i) r right, frames_in-take_le (suc i + 1) vs, length-frames t kept) in
    let one : (cell_at t.cells (p - 1)).item ≡ l.item = number_there t i l (p - 1) (l.len - 1) kept left (omega (arith, is, step, some_l)) (omega (arith, some_l)) in
    let two : (cell_at t.cells p).item ≡ r.item = number_there t (suc i) r p 0 kept right (omega (arith, is)) some_r in
    let apart : belong (cell_at t.cells (p - 1)) (cell_at t.cells p) ≡ false =
    ap (λ (o : Option ℕ). same_number o (cell_at t.cells p).item) one ∙ (ap (same_number l.item) two ∙ apart-next vs i l r (stand_of t kept).tight left right) in
    three_true (ltb 0 p) (ltb p (length t.cells)) (belong (cell_at t.cells (p - 1)) (cell_at t.cells p)) (lt-ltb 0 p (omega (arith, is, step, some_l))) (lt-ltb p (length t.cells) inside) apart

cut_beside : (t : TrackState) (p n : ℕ) (s : Sides) → IsKept t → AreBeside (items_of t.cells) n n s → p ≡ frames_in (take n (items_of t.cells)) → is_cut t.cells p ≡ true
cut_beside t p zero s kept b is = absurd (omega (arith, b.some))
cut_beside t p (suc i) s kept b is =
    let e : suc i - 1 ≡ i = omega arith in
    cut-between t p i s.left s.right kept (subst (λ (k : ℕ). slice_get (items_of t.cells) k ≡ Some s.left) e b.left) b.right is

-- as the code finds a cut
pub found-cut : (t : TrackState) (p : ℕ) (at : Place) (s : Sides) → IsKept t → StandsAt (items_of t.cells) at → at.from ≡ p → AreBeside (items_of t.cells) at.index at.index s → is_cut t.cells p ≡ true
found-cut t p at s kept stands e b = cut_beside t p at.index s kept b (sym e ∙ stands.from)

pub found-sides : (t : TrackState) (p : ℕ) (at : Place) (s : Sides) → StandsAt (items_of t.cells) at → at.from ≡ p → AreBeside (items_of t.cells) at.index at.index s → StandBeside t.cells p p s
found-sides t p at s stands e b = record { from = at.index; to = at.index; beside = b; ends = sym e ∙ stands.from; begins = sym e ∙ stands.from }

-- where the first item or gap begins no cut stands
pub first-cut : (t : TrackState) (p : ℕ) (at : Place) → StandsAt (items_of t.cells) at → at.from ≡ p → (at.index ≡ 0) ⊎ (length (items_of t.cells) ≤ at.index) → is_cut t.cells p ≡ false
first-cut t p at stands e none =
    ⊎_elim
    (λ (z : at.index ≡ 0). no-cut-before t.cells p (sym e ∙ (stands.from ∙ ap (λ (k : ℕ). frames_in (take k (items_of t.cells))) z)))
    (λ (le : length (items_of t.cells) ≤ at.index). absurd (omega (arith, le, stands.index)))
    none

-- the neighbours of an item or gap
pub item-sides : (t : TrackState) (at : Place) (s : Sides) → StandsAt (items_of t.cells) at → AreBeside (items_of t.cells) at.index (at.index + 1) s → StandBeside t.cells at.from at.to s
item-sides t at s stands b = record { from = at.index; to = at.index + 1; beside = b; ends = stands.from; begins = stands.to }

frames_before : (vs : List ItemView) (i : ℕ) → AllFilled vs → 0 < i → i ≤ length vs → 0 < frames_in (take i vs)
frames_before [] i f h le = absurd (omega (arith, h, le))
frames_before (v ∷ vs) zero f h le = absurd (omega (arith, h))
frames_before (v ∷ vs) (suc i) f h le = omega (arith, f.0)

pub both-sides : (t : TrackState) (at : Place) (s : Sides) → IsKept t → StandsAt (items_of t.cells) at → AreBeside (items_of t.cells) at.index (at.index + 1) s → has_neighbours t.cells at.from at.to ≡ true
both-sides t at s kept stands b =
    let vs = items_of t.cells in
    let filled = filled-each vs kept.each in
    let one : 0 < at.from = omega (arith, stands.from, frames_before vs at.index filled b.some (omega (arith, stands.index))) in
    let more = filled_there vs (at.index + 1) s.right filled b.right in
    let two : at.to < length t.cells = omega (arith, stands.to, more, stops_of vs (at.index + 1) s.right b.right, frames_in-take_le (at.index + 1 + 1) vs, length-frames t kept) in
    ap (λ (a : Bool). a && ltb at.to (length t.cells)) (lt-ltb 0 at.from one) ∙ lt-ltb at.to (length t.cells) two

pub no-sides : (t : TrackState) (at : Place) → IsKept t → StandsAt (items_of t.cells) at → (at.index ≡ 0) ⊎ (length (items_of t.cells) ≤ at.index + 1) → has_neighbours t.cells at.from at.to ≡ false
no-sides t at kept stands none =
    let vs = items_of t.cells in
    ⊎_elim
    (λ (z : at.index ≡ 0). ap (λ (a : Bool). a && ltb at.to (length t.cells)) (le-ltb 0 at.from (omega (arith, stands.from, ap (λ (k : ℕ). frames_in (take k vs)) z))))
    (λ (le : length vs ≤ at.index + 1).
    ap (λ (a : Bool). ltb 0 at.from && a) (le-ltb at.to (length t.cells) (omega (arith, length-frames t kept, stands.to, ap frames_in (take_all (at.index + 1) vs le)))) ∙ none_and (ltb 0 at.from))
    none

-- what holds of a thing that was found
pub some-of : {A : Type 0} (P Q : A → Type 0) (o : Option A) → ((x : A) → P x → Q x) → IfSome o P → IfSome o Q
some-of P Q None f h = tt
some-of P Q (Some x) f h = f x h
