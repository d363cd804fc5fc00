-- A place lies in the footprint of at most one dissolve of a track.
use Rattle.std.proofs.Common.{◌≡◌, ℕ, zero, suc, ◌+◌, ◌-◌, ◌<◌, ◌≤◌, ⊎_elim, true, leb, ltb, List, [], ◌∷◌, length, Option, Some, None, refl, sym, ap, ◌∙◌, arith, subst}
use Rattle.std.proofs.Math.ListN.{get_or-append}
use Rattle.std.proofs.lemmas.List.{get_or-append-add}
use Rattle.std.proofs.lemmas.Bool.{and_parts, leb-true, ltb-true, cases_lt}
use Rattle.frame_meaning.specs.declared.cells.What.{What}
use Rattle.frame_meaning.specs.declared.cells.Mark.{Mark}
use Rattle.frame_meaning.specs.declared.cells.Link.{Link}
use Rattle.frame_meaning.specs.declared.cells.Cell.{Cell}
use Rattle.frame_meaning.specs.declared.frames.Side.{Side}
use Rattle.frame_meaning.specs.Cells.{span, next_side, dark_cell}
use Rattle.frame_meaning.specs.Marks.{covers}
use Rattle.frame_meaning.specs.Render.{cell_at}
use Rattle.composables.specs.declared.items.ItemView.{ItemView}
use Rattle.composables.specs.Items.{marked, view_cells, cells_of, items_of}
use Rattle.composables.specs.TrackFacts.{IsKept, EachHolds, first_mark, left_reach, right_reach}
use Rattle.composables.specs.TrackState.{TrackState}
use Rattle.composables.proofs.Joining.{length-view_cells}
use Rattle.edit_splice.proofs.Spans.{mark_from}

-- the marks of the cells of one item
span_bare : (i : Option ℕ) (s : Side What) (l : Option Link) (n p : ℕ) → p < n → (cell_at (span i s l n) p).mark ≡ None
span_bare i s l zero p lt = absurd (omega (arith, lt))
span_bare i s l (suc n) zero lt = refl
span_bare i s l (suc n) (suc p) lt = span_bare i (next_side s) l n p (omega (arith, lt))

marked_at : (m : Option Mark) (i : Option ℕ) (s : Side What) (l : Option Link) (n p : ℕ) → p < n → (cell_at (marked m (span i s l n)) p).mark ≡ mark_from p m
marked_at m i s l zero p lt = absurd (omega (arith, lt))
marked_at m i s l (suc n) zero lt = refl
marked_at m i s l (suc n) (suc p) lt = span_bare i (next_side s) l n p (omega (arith, lt))

-- the mark at a place of items in a row: in the first, or in the rest
in_first : (v : ItemView) (vs : List ItemView) (p : ℕ) → p < v.len → (cell_at (cells_of (v ∷ vs)) p).mark ≡ mark_from p v.mark
in_first v vs p lt =
    ap (λ (c : Cell). c.mark) (get_or-append (view_cells v) (cells_of vs) dark_cell p (omega (arith, lt, length-view_cells v)))
    ∙ marked_at v.mark v.item v.first v.link v.len p lt

in_rest : (v : ItemView) (vs : List ItemView) (p : ℕ) → v.len ≤ p → cell_at (cells_of (v ∷ vs)) p ≡ cell_at (cells_of vs) (p - v.len)
in_rest v vs p le =
    let at : p ≡ length (view_cells v) + (p - v.len) = omega (arith, le, length-view_cells v) in
    ap (λ (k : ℕ). cell_at (cells_of (v ∷ vs)) k) at ∙ get_or-append-add (view_cells v) (cells_of vs) (p - v.len) dark_cell

-- what a footprint covers
from_start : (m : Option Mark) (p q : ℕ) → covers m p q ≡ true → (p ≤ q + left_reach m) × (q < p + right_reach m)
from_start None p q e = absurd cc
from_start (Some m) p q e = let both = and_parts (leb p (q + m.a)) (ltb q (p + m.b)) e in (leb-true p (q + m.a) both.0, ltb-true q (p + m.b) both.1)

first_covers : (p s q : ℕ) (m : Option Mark) → covers (mark_from p m) (s + p) q ≡ true → (p ≡ 0) × (s ≤ q + left_reach m) × (q < s + right_reach m)
first_covers zero s q m e = let r = from_start m (s + 0) q e in (refl, omega (arith, r.0), omega (arith, r.1))
first_covers (suc p) s q m e = absurd cc

-- the mark at the place p among these, of which the first stands at s, covers q
abbrev Covered : List ItemView → ℕ → ℕ → ℕ → Type 0
Covered vs s p q = covers (cell_at (cells_of vs) p).mark (s + p) q ≡ true

covered_first : (v : ItemView) (vs : List ItemView) (s p q : ℕ) → p < v.len → Covered (v ∷ vs) s p q → (p ≡ 0) × (s ≤ q + left_reach v.mark) × (q < s + right_reach v.mark)
covered_first v vs s p q lt e = first_covers p s q v.mark (ap (λ (m : Option Mark). covers m (s + p) q) (sym (in_first v vs p lt)) ∙ e)

covered_rest : (v : ItemView) (vs : List ItemView) (s p q : ℕ) → v.len ≤ p → Covered (v ∷ vs) s p q → Covered vs (s + v.len) (p - v.len) q
covered_rest v vs s p q le e =
    let at : s + v.len + (p - v.len) ≡ s + p = omega (arith, le) in
    ap (λ (k : ℕ). covers (cell_at (cells_of vs) (p - v.len)).mark k q) at ∙ (ap (λ (c : Cell). covers c.mark (s + p) q) (sym (in_rest v vs p le)) ∙ e)

nothing_covers : (s p q : ℕ) → Covered [] s p q → ⊥
nothing_covers s p q e = absurd cc

-- no footprint begins before that of the first
begins_from : (vs : List ItemView) (s p q : ℕ) → EachHolds vs → Covered vs s p q → s ≤ q + left_reach (first_mark vs)
begins_from [] s p q h e = absurd (nothing_covers s p q e)
begins_from (v ∷ vs) s p q h e =
    ⊎_elim
    (λ (lt : p < v.len). (covered_first v vs s p q lt e).1)
    (λ (le : v.len ≤ p). (let rest = begins_from vs (s + v.len) (p - v.len) q h.1 (covered_rest v vs s p q le e) in omega (arith, rest, h.0.room)))
    (cases_lt p v.len)

-- so two that cover one place are one
apart_from : (v : ItemView) (vs : List ItemView) (s p p' q : ℕ) → EachHolds (v ∷ vs) → p < v.len → v.len ≤ p' → Covered (v ∷ vs) s p q → Covered (v ∷ vs) s p' q → ⊥
apart_from v vs s p p' q h lt le e f =
    let first = covered_first v vs s p q lt e in
    let rest = begins_from vs (s + v.len) (p' - v.len) q h.1 (covered_rest v vs s p' q le f) in
    omega (arith, first.2, rest, h.0.room)

one : (vs : List ItemView) (s p p' q : ℕ) → EachHolds vs → Covered vs s p q → Covered vs s p' q → p ≡ p'
one [] s p p' q h e f = absurd (nothing_covers s p q e)
one (v ∷ vs) s p p' q h e f =
    ⊎_elim
    (λ (lt : p < v.len).
    ⊎_elim
    (λ (lt' : p' < v.len). (covered_first v vs s p q lt e).0 ∙ sym (covered_first v vs s p' q lt' f).0)
    (λ (le' : v.len ≤ p'). absurd (apart_from v vs s p p' q h lt le' e f))
    (cases_lt p' v.len))
    (λ (le : v.len ≤ p).
    ⊎_elim
    (λ (lt' : p' < v.len). absurd (apart_from v vs s p' p q h lt' le f e))
    (λ (le' : v.len ≤ p'). (
    let same = one vs (s + v.len) (p - v.len) (p' - v.len) q h.1 (covered_rest v vs s p q le e) (covered_rest v vs s p' q le' f) in
    omega (arith, same, le, le')))
    (cases_lt p' v.len))
    (cases_lt p v.len)

pub one-footprint : (t : TrackState) (p p' q : ℕ) → IsKept t → covers (cell_at t.cells p).mark p q ≡ true → covers (cell_at t.cells p').mark p' q ≡ true → p ≡ p'
one-footprint t p p' q k e f =
    let at : 0 + p ≡ p = omega arith in
    let at' : 0 + p' ≡ p' = omega arith in
    let C : ℕ → List Cell → Type 0 = λ n cs. covers (cell_at cs n).mark (0 + n) q ≡ true in
    one (items_of t.cells) 0 p p' q k.each
    (subst (C p) (sym k.whole) (ap (λ (n : ℕ). covers (cell_at t.cells p).mark n q) at ∙ e))
    (subst (C p') (sym k.whole) (ap (λ (n : ℕ). covers (cell_at t.cells p').mark n q) at' ∙ f))
