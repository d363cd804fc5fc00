-- The cells of a kept track, one after another.
use Rattle.std.proofs.Common.{◌≡◌, ℕ, zero, suc, ◌+◌, ◌-◌, ◌<◌, Bool, true, false, cond, ltb, not, ◌&&◌, List, [], ◌∷◌, ◌++◌, length, Option, Some, None, slice_get, refl, sym, ap, ◌∙◌, arith, subst}
use Rattle.std.proofs.lemmas.Bool.{lt-ltb}
use Rattle.frame_meaning.specs.declared.cells.Cell.{Cell}
use Rattle.frame_meaning.specs.declared.cells.Mark.{Mark}
use Rattle.frame_meaning.specs.Cells.{belong, next_side, same_number, span}
use Rattle.frame_meaning.specs.Render.{cell_at}
use Rattle.composables.specs.declared.items.ItemView.{ItemView}
use Rattle.composables.specs.Items.{cells_of, items_of, view_cells, view_from, with_cell}
use Rattle.composables.specs.Ranges.{is_cut}
use Rattle.composables.specs.TrackFacts.{first_mark}
use Rattle.track_laws.specs.Kept.{DissolvesStandAtCuts, GoesOn, ItemsGoOn}

-- the items and gaps of cells are theirs
abbrev IsWhole : List Cell → Type 0
IsWhole cs = cells_of (items_of cs) ≡ cs

-- the first of them begins with the first cell
record Front (d : Cell) (cs : List Cell) : Type 0 where
  more : ℕ
  rest : List ItemView
  is : items_of (d ∷ cs) ≡ view_from d more ∷ rest

front : (d : Cell) (cs : List Cell) → Front d cs
front d cs = by (items_of cs) refl where
  by : (vs : List ItemView) → items_of cs ≡ vs → Front d cs
  by [] e = record { more = 0; rest = []; is = ap (with_cell d) e }
  by (v ∷ vs) e = joins (same_number d.item v.item) refl where
    joins : (b : Bool) → same_number d.item v.item ≡ b → Front d cs
    joins true k = record { more = v.len; rest = vs; is = ap (with_cell d) e ∙ ap (λ (b : Bool). cond b (view_from d v.len ∷ vs) (view_from d 0 ∷ v ∷ vs)) k }
    joins false k = record { more = 0; rest = v ∷ vs; is = ap (with_cell d) e ∙ ap (λ (b : Bool). cond b (view_from d v.len ∷ vs) (view_from d 0 ∷ v ∷ vs)) k }

-- the cells of one that begins with a cell
cells_from : (c : Cell) (more : ℕ) → view_cells (view_from c more) ≡ c ∷ span c.item (next_side c.side) c.link more
cells_from c more =
    let e : more + 1 ≡ suc more = omega arith in
    ap (λ (n : ℕ). marked_span c n) e where
      marked_span : Cell → ℕ → List Cell
      marked_span c n = view_cells (record { item = c.item; first = c.side; len = n; mark = c.mark; link = c.link })

two_heads : (c d : Cell) (cs ds : List Cell) → c ∷ cs ≡ d ∷ ds → c ≡ d
two_heads c d cs ds e = cc

two_tails : (c d : Cell) (cs ds : List Cell) → c ∷ cs ≡ d ∷ ds → cs ≡ ds
two_tails c d cs ds e = cc

-- the cell after another of the same item
abbrev after : Cell → Cell
after c = record { item = c.item; side = next_side c.side; mark = None; link = c.link }

record Next (c d : Cell) (cs : List Cell) : Type 0 where
  whole : IsWhole (d ∷ cs)
  goes_on : belong c d ≡ true → GoesOn c d

next : (c d : Cell) (cs : List Cell) → IsWhole (c ∷ d ∷ cs) → Next c d cs
next c d cs h = by (belong c d) refl where
  f : Front d cs
  f = front d cs

  items : items_of (c ∷ d ∷ cs) ≡ with_cell c (view_from d f.more ∷ f.rest)
  items = ap (with_cell c) f.is

  by : (b : Bool) → belong c d ≡ b → Next c d cs
  by true e =
      let one : items_of (c ∷ d ∷ cs) ≡ view_from c (f.more + 1) ∷ f.rest =
      items ∙ ap (λ (b : Bool). cond b (view_from c (f.more + 1) ∷ f.rest) (view_from c 0 ∷ view_from d f.more ∷ f.rest)) e in
      let k : f.more + 1 ≡ suc f.more = omega arith in
      let cells : c ∷ after c ∷ (span c.item (next_side (next_side c.side)) c.link f.more ++ cells_of f.rest) ≡ c ∷ d ∷ cs =
      sym (ap cells_of one ∙ (ap (λ (vs : List Cell). vs ++ cells_of f.rest) (cells_from c (f.more + 1)) ∙ ap (λ (n : ℕ). (c ∷ span c.item (next_side c.side) c.link n) ++ cells_of f.rest) k)) ∙ h in
      let behind = two_tails c c (after c ∷ (span c.item (next_side (next_side c.side)) c.link f.more ++ cells_of f.rest)) (d ∷ cs) cells in
      let is : after c ≡ d = two_heads (after c) d (span c.item (next_side (next_side c.side)) c.link f.more ++ cells_of f.rest) cs behind in
      record {
        whole = ap cells_of f.is ∙ (ap (λ (vs : List Cell). vs ++ cells_of f.rest) (cells_from d f.more)
            ∙ (ap (λ (x : Cell). (x ∷ span x.item (next_side x.side) x.link f.more) ++ cells_of f.rest) (sym is) ∙ behind));
        goes_on = λ b. record { side = sym (ap (λ (x : Cell). x.side) is); link = sym (ap (λ (x : Cell). x.link) is); unmarked = sym (ap (λ (x : Cell). x.mark) is) };
      }
  by false e =
      let two : items_of (c ∷ d ∷ cs) ≡ view_from c 0 ∷ view_from d f.more ∷ f.rest =
      items ∙ ap (λ (b : Bool). cond b (view_from c (f.more + 1) ∷ f.rest) (view_from c 0 ∷ view_from d f.more ∷ f.rest)) e in
      let cells : c ∷ cells_of (view_from d f.more ∷ f.rest) ≡ c ∷ d ∷ cs =
      sym (ap cells_of two ∙ ap (λ (vs : List Cell). vs ++ cells_of (view_from d f.more ∷ f.rest)) (cells_from c 0)) ∙ h in
      record {
        whole = ap cells_of f.is ∙ two_tails c c (cells_of (view_from d f.more ∷ f.rest)) (d ∷ cs) cells;
        goes_on = λ b. absurd (differ (sym b ∙ e));
      } where
        differ : true ≡ false → ⊥
        differ z = Prim.grind arith

-- at any place
goes_on_at : (cs : List Cell) (p : ℕ) (c d : Cell) → IsWhole cs → slice_get cs p ≡ Some c → slice_get cs (suc p) ≡ Some d → belong c d ≡ true → GoesOn c d
goes_on_at [] p c d h e k b = absurd cc
goes_on_at (a ∷ []) zero c d h e k b = absurd cc
goes_on_at (a ∷ []) (suc p) c d h e k b = absurd cc
goes_on_at (a ∷ x ∷ cs) zero c d h e k b =
    let first : a ≡ c = cc in
    let second : x ≡ d = cc in
    subst (λ (y : Cell). GoesOn c y) second (subst (λ (y : Cell). GoesOn y x) first
    ((next a x cs h).goes_on (subst (λ (y : Cell). belong y x ≡ true) (sym first) (subst (λ (y : Cell). belong c y ≡ true) (sym second) b))))
goes_on_at (a ∷ x ∷ cs) (suc p) c d h e k b = goes_on_at (x ∷ cs) p c d (next a x cs h).whole e k b

pub items-go-on : ItemsGoOn
items-go-on t p c d kept e k b =
    let n : p + 1 ≡ suc p = omega arith in
    goes_on_at t.cells p c d kept.whole e (subst (λ (m : ℕ). slice_get t.cells m ≡ Some d) n k) b

-- the cell at a place, and the one before it
there : (cs : List Cell) (p : ℕ) (c : Cell) → slice_get cs p ≡ Some c → (p < length cs) × (cell_at cs p ≡ c)
there [] p c e = absurd cc
there (a ∷ cs) zero c e = let first : a ≡ c = cc in (omega arith, first)
there (a ∷ cs) (suc p) c e = let r = there cs p c e in (omega (arith, r.0), r.1)

before : (cs : List Cell) (p : ℕ) (c : Cell) → slice_get cs (suc p) ≡ Some c → slice_get cs p ≡ Some (cell_at cs p)
before [] p c e = absurd cc
before (a ∷ cs) zero c e = refl
before (a ∷ cs) (suc p) c e = before cs p c e

some_none : (m : Mark) → ◌≡◌ {A = Option Mark} (Some m) None → ⊥
some_none m e = Prim.grind (arith, e)

first_unmarked : (cs : List Cell) (c : Cell) → first_mark (items_of cs) ≡ None → slice_get cs 0 ≡ Some c → c.mark ≡ None
first_unmarked [] c h e = absurd cc
first_unmarked (a ∷ cs) c h e =
    let first : a ≡ c = cc in
    let f = front a cs in
    subst (λ (y : Cell). y.mark ≡ None) first (sym (ap first_mark f.is) ∙ h)

pub dissolves-stand-at-cuts : DissolvesStandAtCuts
dissolves-stand-at-cuts t zero c m kept e k = absurd (some_none m (sym k ∙ first_unmarked t.cells c kept.not_before e))
dissolves-stand-at-cuts t (suc p) c m kept e k = by (belong (cell_at t.cells p) (cell_at t.cells (suc p))) refl where
  r : (suc p < length t.cells) × (cell_at t.cells (suc p) ≡ c)
  r = there t.cells (suc p) c e

  n : suc p - 1 ≡ p
  n = omega arith

  cut : (b : Bool) → belong (cell_at t.cells p) (cell_at t.cells (suc p)) ≡ b → is_cut t.cells (suc p) ≡ not b
  cut b f =
      ap (λ (a : Bool). (a && ltb (suc p) (length t.cells)) && not (belong (cell_at t.cells (suc p - 1)) (cell_at t.cells (suc p)))) (lt-ltb 0 (suc p) (omega arith))
      ∙ (ap (λ (a : Bool). a && not (belong (cell_at t.cells (suc p - 1)) (cell_at t.cells (suc p)))) (lt-ltb (suc p) (length t.cells) r.0)
      ∙ (ap (λ (q : ℕ). not (belong (cell_at t.cells q) (cell_at t.cells (suc p)))) n ∙ ap not f))

  by : (b : Bool) → belong (cell_at t.cells p) (cell_at t.cells (suc p)) ≡ b → is_cut t.cells (suc p) ≡ true
  by false f = cut false f
  by true f =
      let g = goes_on_at t.cells p (cell_at t.cells p) c kept.whole (before t.cells p c e) e (subst (λ (y : Cell). belong (cell_at t.cells p) y ≡ true) r.1 f) in
      absurd (some_none m (sym k ∙ g.unmarked))
