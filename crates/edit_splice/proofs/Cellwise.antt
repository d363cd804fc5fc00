-- A splice cell by cell.
use Rattle.std.proofs.Common.{◌≡◌, ℕ, zero, suc, ◌+◌, ◌-◌, ◌<◌, ◌≤◌, List, [], ◌∷◌, ◌++◌, length, map, ap, ◌∙◌, arith, take, drop}
use Rattle.std.proofs.Math.ListN.{get_or-append}
use Rattle.std.proofs.lemmas.List.{length-append, length-take, length-drop, get_or-append-add, get_or-take, get_or-drop, get_or-map}
use Rattle.frame_meaning.specs.declared.cells.Cell.{Cell}
use Rattle.frame_meaning.specs.Cells.{dark_cell}
use Rattle.frame_meaning.specs.Render.{cell_at}
use Rattle.frame_meaning.specs.Splice.{Rule, mark_under, with_marks, renumbered, split_item, spliced}
use Rattle.edit_splice.specs.Laws.{ruled_cell}
use Rattle.edit_splice.proofs.Surviving.{length-marks}

marks_at : (rule : Rule) (x y q : ℕ) (cs : List Cell) (p : ℕ) → p < length cs → cell_at (with_marks rule x y q cs) p ≡ record (cell_at cs p) { mark = mark_under rule x y (q + p) (cell_at cs p).mark }
marks_at rule x y q [] p lt = absurd (omega (arith, lt))
marks_at rule x y q (c ∷ cs) zero lt = let e : q ≡ q + 0 = omega arith in ap (λ (k : ℕ). record c { mark = mark_under rule x y k c.mark }) e
marks_at rule x y q (c ∷ cs) (suc p) lt =
    let e : q + 1 + p ≡ q + suc p = omega arith in
    marks_at rule x y (q + 1) cs p (omega (arith, lt)) ∙ ap (λ (k : ℕ). record (cell_at cs p) { mark = mark_under rule x y k (cell_at cs p).mark }) e

ruled : (rule : Rule) (x y : ℕ) (cs : List Cell) (p : ℕ) → p < length cs → cell_at (with_marks rule x y 0 cs) p ≡ ruled_cell rule cs x y p
ruled rule x y cs p lt =
    let e : 0 + p ≡ p = omega arith in
    marks_at rule x y 0 cs p lt ∙ ap (λ (k : ℕ). record (cell_at cs p) { mark = mark_under rule x y k (cell_at cs p).mark }) e

pub cell-before : (rule : Rule) (cs : List Cell) (x y : ℕ) (ms : List Cell) (fresh p : ℕ) → x ≤ length cs → p < x → cell_at (spliced rule cs x y ms fresh) p ≡ ruled_cell rule cs x y p
cell-before rule cs x y ms fresh p within lt =
    let all : List Cell = with_marks rule x y 0 cs in
    let tail : List Cell = map (renumbered (split_item cs x y) fresh) (drop y all) in
    let count = length-marks rule x y 0 cs in
    let front : p < length (take x all) = omega (arith, lt, within, count, length-take x all) in
    get_or-append (take x all ++ ms) tail dark_cell p (omega (arith, front, length-append (take x all) ms))
    ∙ (get_or-append (take x all) ms dark_cell p front
    ∙ (get_or-take x all p dark_cell lt ∙ ruled rule x y cs p (omega (arith, lt, within))))

pub cell-between : (rule : Rule) (cs : List Cell) (x y : ℕ) (ms : List Cell) (fresh q : ℕ) → x ≤ length cs → q < length ms → cell_at (spliced rule cs x y ms fresh) (x + q) ≡ cell_at ms q
cell-between rule cs x y ms fresh q within lt =
    let all : List Cell = with_marks rule x y 0 cs in
    let tail : List Cell = map (renumbered (split_item cs x y) fresh) (drop y all) in
    let start : x + q ≡ length (take x all) + q = omega (arith, within, length-marks rule x y 0 cs, length-take x all) in
    ap (λ (k : ℕ). cell_at (spliced rule cs x y ms fresh) k) start
    ∙ (get_or-append (take x all ++ ms) tail dark_cell (length (take x all) + q) (omega (arith, lt, length-append (take x all) ms))
    ∙ get_or-append-add (take x all) ms q dark_cell)

pub cell-behind : (rule : Rule) (cs : List Cell) (x y : ℕ) (ms : List Cell) (fresh p : ℕ) → x ≤ length cs → y ≤ p → p < length cs
    → cell_at (spliced rule cs x y ms fresh) (x + length ms + (p - y)) ≡ renumbered (split_item cs x y) fresh (ruled_cell rule cs x y p)
cell-behind rule cs x y ms fresh p within le lt =
    let all : List Cell = with_marks rule x y 0 cs in
    let count = length-marks rule x y 0 cs in
    let new : Cell → Cell = renumbered (split_item cs x y) fresh in
    let start : x + length ms + (p - y) ≡ length (take x all ++ ms) + (p - y) = omega (arith, within, count, length-take x all, length-append (take x all) ms) in
    let back : y + (p - y) ≡ p = omega (arith, le) in
    ap (λ (k : ℕ). cell_at (spliced rule cs x y ms fresh) k) start
    ∙ (get_or-append-add (take x all ++ ms) (map new (drop y all)) (p - y) dark_cell
    ∙ (get_or-map new (drop y all) (p - y) dark_cell dark_cell (omega (arith, lt, le, count, length-drop y all))
    ∙ ap new (get_or-drop y all (p - y) dark_cell ∙ (ap (λ (k : ℕ). cell_at all k) back ∙ ruled rule x y cs p lt))))
