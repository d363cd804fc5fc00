-- A test of the number and link of cells, item by item.
use Rattle.std.proofs.Common.{◌≡◌, ℕ, zero, suc, ◌+◌, ◌<◌, Bool, true, false, ◌||◌, List, [], ◌∷◌, drop, Option, Some, refl, ap, ◌∙◌, arith, slice_get}
use Rattle.std.specs.List.{list_any}
use Rattle.std.proofs.lemmas.List.Folds.{list_any-append}
use Rattle.std.proofs.lemmas.Option.{slice_get_within}
use Rattle.frame_meaning.specs.declared.cells.Cell.{Cell}
use Rattle.frame_meaning.specs.declared.cells.Link.{Link}
use Rattle.frame_meaning.specs.declared.cells.Mark.{Mark}
use Rattle.frame_meaning.specs.declared.cells.What.{What}
use Rattle.frame_meaning.specs.declared.frames.Side.{Side}
use Rattle.frame_meaning.specs.Cells.{next_side, span}
use Rattle.composables.specs.declared.items.ItemView.{ItemView}
use Rattle.composables.specs.Items.{cells_of, marked, view_cells}
use Rattle.composables.specs.TrackFacts.{EachHolds}

-- a test of what each cell of an item or gap has
abbrev Test : Type 0
Test = Option ℕ → Option Link → Bool

abbrev on_cell : Test → Cell → Bool
on_cell f c = f c.item c.link

span_none : (f : Test) (i : Option ℕ) (s : Side What) (k : Option Link) (n : ℕ) → f i k ≡ false → list_any (on_cell f) (span i s k n) ≡ false
span_none f i s k zero e = refl
span_none f i s k (suc n) e = ap (λ (b : Bool). b || list_any (on_cell f) (span i (next_side s) k n)) e ∙ span_none f i (next_side s) k n e

span_some : (f : Test) (i : Option ℕ) (s : Side What) (k : Option Link) (n : ℕ) → 0 < n → f i k ≡ true → list_any (on_cell f) (span i s k n) ≡ true
span_some f i s k zero h e = absurd (omega (arith, h))
span_some f i s k (suc n) h e = ap (λ (b : Bool). b || list_any (on_cell f) (span i (next_side s) k n)) e

marked_any : (f : Test) (m : Option Mark) (cs : List Cell) → list_any (on_cell f) (marked m cs) ≡ list_any (on_cell f) cs
marked_any f m [] = refl
marked_any f m (c ∷ cs) = refl

view_none : (f : Test) (v : ItemView) → f v.item v.link ≡ false → list_any (on_cell f) (view_cells v) ≡ false
view_none f v e = marked_any f v.mark (span v.item v.first v.link v.len) ∙ span_none f v.item v.first v.link v.len e

view_some : (f : Test) (v : ItemView) → 0 < v.len → f v.item v.link ≡ true → list_any (on_cell f) (view_cells v) ≡ true
view_some f v h e = marked_any f v.mark (span v.item v.first v.link v.len) ∙ span_some f v.item v.first v.link v.len h e

-- the items and gaps from an index on
rest_passed : (f : Test) (vs : List ItemView) (i : ℕ) (v : ItemView) → slice_get vs i ≡ Some v → f v.item v.link ≡ false
    → list_any (on_cell f) (cells_of (drop i vs)) ≡ list_any (on_cell f) (cells_of (drop (suc i) vs))
rest_passed f [] i v e h = absurd (omega (arith, slice_get_within [] i v e))
rest_passed f (w ∷ ws) zero v e h =
    let same : w ≡ v = cc in
    list_any-append (on_cell f) (view_cells w) (cells_of ws)
    ∙ ap (λ (b : Bool). b || list_any (on_cell f) (cells_of ws)) (view_none f w (ap (λ (u : ItemView). f u.item u.link) same ∙ h))
rest_passed f (w ∷ ws) (suc i) v e h = rest_passed f ws i v e h

rest_met : (f : Test) (vs : List ItemView) (i : ℕ) (v : ItemView) → slice_get vs i ≡ Some v → EachHolds vs → f v.item v.link ≡ true
    → list_any (on_cell f) (cells_of (drop i vs)) ≡ true
rest_met f [] i v e k h = absurd (omega (arith, slice_get_within [] i v e))
rest_met f (w ∷ ws) zero v e k h =
    let same : w ≡ v = cc in
    list_any-append (on_cell f) (view_cells w) (cells_of ws)
    ∙ ap (λ (b : Bool). b || list_any (on_cell f) (cells_of ws)) (view_some f w k.0.filled (ap (λ (u : ItemView). f u.item u.link) same ∙ h))
rest_met f (w ∷ ws) (suc i) v e k h = rest_met f ws i v e k.1 h

pub any-passed : (f : Option ℕ → Option Link → Bool) (vs : List ItemView) (i : ℕ) (v : ItemView) → slice_get vs i ≡ Some v → f v.item v.link ≡ false
    → list_any (λ (c : Cell). f c.item c.link) (cells_of (drop i vs)) ≡ list_any (λ (c : Cell). f c.item c.link) (cells_of (drop (i + 1) vs))
any-passed f vs i v e h =
    let more : suc i ≡ i + 1 = omega arith in
    rest_passed f vs i v e h ∙ ap (λ (n : ℕ). list_any (on_cell f) (cells_of (drop n vs))) more

pub any-met : (f : Option ℕ → Option Link → Bool) (vs : List ItemView) (i : ℕ) (v : ItemView) → slice_get vs i ≡ Some v → EachHolds vs → f v.item v.link ≡ true
    → list_any (λ (c : Cell). f c.item c.link) (cells_of (drop i vs)) ≡ true
any-met f vs i v e k h = rest_met f vs i v e k h
