-- The item that stands on both sides of a range, by the cells before it and those behind it.
use Rattle.std.proofs.Common.{◌≡◌, ℕ, zero, suc, ◌+◌, ◌-◌, ◌<◌, ◌≤◌, Bool, true, false, cond, ltb, ◌&&◌, List, [], ◌∷◌, ◌++◌, length, Option, Some, None, refl, sym, ap, ◌∙◌, arith, take, drop}
use Rattle.std.proofs.lemmas.List.{drop_more, take_more, drop_all}
use Rattle.std.proofs.lemmas.Bool.{ltb-true, ltb-false}
use Rattle.frame_meaning.specs.declared.cells.What.{What}
use Rattle.frame_meaning.specs.declared.cells.Link.{Link}
use Rattle.frame_meaning.specs.declared.cells.Cell.{Cell}
use Rattle.frame_meaning.specs.declared.frames.Side.{Side}
use Rattle.frame_meaning.specs.Cells.{same_number, span, next_side, dark_cell}
use Rattle.frame_meaning.specs.Render.{cell_at}
use Rattle.frame_meaning.specs.Splice.{split_item, next_after_splice}
use Rattle.composables.specs.declared.items.ItemView.{ItemView}
use Rattle.composables.specs.Items.{marked, view_cells}

-- the number of the first cell, and of the last
abbrev pub first_item : List Cell → Option (Option ℕ)
first_item [] = None
first_item (c ∷ cs) = Some c.item

abbrev pub last_item : List Cell → Option (Option ℕ)
last_item [] = None
last_item (c ∷ []) = Some c.item
last_item (c ∷ d ∷ ds) = last_item (d ∷ ds)

last-append : (xs : List Cell) (y : Cell) (ys : List Cell) → last_item (xs ++ y ∷ ys) ≡ last_item (y ∷ ys)
last-append [] y ys = refl
last-append (x ∷ []) y ys = refl
last-append (x ∷ z ∷ zs) y ys = last-append (z ∷ zs) y ys

last-span : (i : Option ℕ) (s : Side What) (l : Option Link) (n : ℕ) → last_item (span i s l (suc n)) ≡ Some i
last-span i s l zero = refl
last-span i s l (suc n) = last-span i (next_side s) l n

-- an item or gap begins and ends with its own cells
pub begins : (v : ItemView) (ys : List Cell) → 0 < v.len → first_item (view_cells v ++ ys) ≡ Some v.item
begins v ys h = by_len v.len refl h where
  by_len : (n : ℕ) → v.len ≡ n → 0 < n → first_item (view_cells v ++ ys) ≡ Some v.item
  by_len zero e p = absurd (omega arith)
  by_len (suc n) e p = ap (λ (k : ℕ). first_item (marked v.mark (span v.item v.first v.link k) ++ ys)) e

last_marked : (v : ItemView) (n : ℕ) → last_item (marked v.mark (span v.item v.first v.link (suc n))) ≡ Some v.item
last_marked v zero = refl
last_marked v (suc n) = last-span v.item (next_side v.first) v.link n

pub ends : (v : ItemView) → 0 < v.len → last_item (view_cells v) ≡ Some v.item
ends v h = by_len v.len refl h where
  by_len : (n : ℕ) → v.len ≡ n → 0 < n → last_item (view_cells v) ≡ Some v.item
  by_len zero e p = absurd (omega arith)
  by_len (suc n) e p = ap (λ (k : ℕ). last_item (marked v.mark (span v.item v.first v.link k))) e ∙ last_marked v n

-- the last of cells with others in front, of which there are some
pub behind : (xs ys : List Cell) → 0 < length ys → last_item (xs ++ ys) ≡ last_item ys
behind xs [] h = absurd (omega arith)
behind xs (y ∷ ys) h = last-append xs y ys

-- only the numbers count
abbrev pub across : Option (Option ℕ) → Option (Option ℕ) → Option ℕ
across None j = None
across (Some i) None = None
across (Some i) (Some j) = if_same (same_number i j) j where
  if_same : Bool → Option ℕ → Option ℕ
  if_same b j = cond b j None

last_before : (cs : List Cell) (x : ℕ) → 0 < x → x ≤ length cs → last_item (take x cs) ≡ Some (cell_at cs (x - 1)).item
last_before cs x h le =
    let at : x - 1 + 1 ≡ x = omega arith in
    let inside : x - 1 < length cs = omega arith in
    ap (λ (k : ℕ). last_item (take k cs)) (sym at)
    ∙ (ap last_item (take_more cs (x - 1) dark_cell inside) ∙ last-append (take (x - 1) cs) (cell_at cs (x - 1)) [])

first_behind : (cs : List Cell) (y : ℕ) → y < length cs → first_item (drop y cs) ≡ Some (cell_at cs y).item
first_behind cs y lt = ap first_item (drop_more cs y dark_cell lt)

pub across_none : (o : Option (Option ℕ)) → across o None ≡ None
across_none None = refl
across_none (Some i) = refl

-- the item of a list of cells that is split is the one that ends what is before and begins what is behind
pub split-item : (cs : List Cell) (x y : ℕ) → x ≤ y → split_item cs x y ≡ across (last_item (take x cs)) (first_item (drop y cs))
split-item cs x y le = by_end (ltb y (length cs)) refl where
  body : Bool → Bool → Option ℕ
  body s t = cond ((s && t) && same_number (cell_at cs (x - 1)).item (cell_at cs y).item) (cell_at cs y).item None

  no_end : (s : Bool) → body s false ≡ None
  no_end true = refl
  no_end false = refl

  by_start : (s : Bool) → ltb 0 x ≡ s → y < length cs → body s true ≡ across (last_item (take x cs)) (Some (cell_at cs y).item)
  by_start true e lt = sym (ap (λ o. across o (Some (cell_at cs y).item)) (last_before cs x (ltb-true 0 x e) (omega (arith, lt, le))))
  by_start false e lt = let none : x ≡ 0 = omega (arith, ltb-false 0 x e) in sym (ap (λ (k : ℕ). across (last_item (take k cs)) (Some (cell_at cs y).item)) none)

  by_end : (t : Bool) → ltb y (length cs) ≡ t → body (ltb 0 x) t ≡ across (last_item (take x cs)) (first_item (drop y cs))
  by_end true e =
      let lt = ltb-true y (length cs) e in
      by_start (ltb 0 x) refl lt ∙ sym (ap (across (last_item (take x cs))) (first_behind cs y lt))
  by_end false e =
      let le = ltb-false y (length cs) e in
      no_end (ltb 0 x) ∙ sym (ap (λ ds. across (last_item (take x cs)) (first_item ds)) (drop_all y cs le) ∙ across_none (last_item (take x cs)))

-- the next item number after it
abbrev pub after_split : Option ℕ → ℕ → ℕ
after_split None fresh = fresh
after_split (Some i) fresh = fresh + 1

pub next-splice : (cs : List Cell) (x y fresh : ℕ) (s : Option ℕ) → split_item cs x y ≡ s → next_after_splice cs x y fresh ≡ after_split s fresh
next-splice cs x y fresh None e = rw e refl
next-splice cs x y fresh (Some i) e = rw e refl
