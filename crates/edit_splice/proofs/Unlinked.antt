-- Tracks without links have none that an edit splits or refuses.
use Rattle.std.proofs.Common.{◌≡◌, ℕ, zero, suc, ◌-◌, Bool, true, false, cond, eqb, List, [], ◌∷◌, ◌++◌, map, drop, Option, Some, None, refl, ap, ◌∙◌, arith}
use Rattle.frame_meaning.specs.declared.cells.Cell.{Cell}
use Rattle.frame_meaning.specs.declared.cells.Link.{Link}
use Rattle.frame_meaning.specs.declared.cells.What.{What}
use Rattle.frame_meaning.specs.declared.frames.Side.{Side}
use Rattle.frame_meaning.specs.Cells.{span, next_side}
use Rattle.composables.specs.declared.items.ItemView.{ItemView}
use Rattle.composables.specs.Items.{marked}
use Rattle.composables.specs.TrackState.{TrackState}
use Rattle.composables.specs.Links.{cells_from, least_link, least_outside, link_before, link_outside, links_in, links_with, links_with_any, moved_cell, moved_link, outside, outside_refusal, same_link}
use Rattle.edit_splice.specs.Shifts.{shift_refusal}

-- no link in a list with a link
never : (l : Link) (ls : List Link) → links_with l ls ≡ [] → ⊥
never l [] e = Prim.grind (arith, e)
never l (k ∷ ks) e = by (same_link l k) (link_before l k) e where
  by : (a b : Bool) → cond a (k ∷ ks) (cond b (l ∷ k ∷ ks) (k ∷ links_with l ks)) ≡ [] → ⊥
  by true b e = Prim.grind (arith, e)
  by false true e = Prim.grind (arith, e)
  by false false e = Prim.grind (arith, e)

first_none : (o : Option Link) (ls : List Link) → links_with_any o ls ≡ [] → (o ≡ None) × (ls ≡ [])
first_none None ls e = (refl, e)
first_none (Some l) ls e = absurd (never l ls e)

one_none : (o : Option Link) (ls : List Link) → o ≡ None → ls ≡ [] → links_with_any o ls ≡ []
one_none o ls e f = ap (λ (p : Option Link). links_with_any p ls) e ∙ f

drop_none : (n : ℕ) (cs : List Cell) → links_in cs ≡ [] → links_in (drop n cs) ≡ []
drop_none zero cs h = h
drop_none (suc n) [] h = refl
drop_none (suc n) (c ∷ cs) h = drop_none n cs (first_none c.link (links_in cs) h).1

append_none : (cs ds : List Cell) → links_in cs ≡ [] → links_in ds ≡ [] → links_in (cs ++ ds) ≡ []
append_none [] ds h k = k
append_none (c ∷ cs) ds h k =
    let p : (c.link ≡ None) × (links_in cs ≡ []) = first_none c.link (links_in cs) h in
    one_none c.link (links_in (cs ++ ds)) p.0 (append_none cs ds p.1 k)

span_none : (i : Option ℕ) (s : Side What) (l : Option Link) (n : ℕ) → l ≡ None → links_in (span i s l n) ≡ []
span_none i s l zero e = refl
span_none i s l (suc n) e = one_none l (links_in (span i (next_side s) l n)) e (span_none i (next_side s) l n e)

view_none : (v : ItemView) (n : ℕ) → v.link ≡ None → links_in (marked v.mark (span v.item v.first v.link n)) ≡ []
view_none v zero e = refl
view_none v (suc n) e = one_none v.link (links_in (span v.item (next_side v.first) v.link n)) e (span_none v.item (next_side v.first) v.link n e)

-- no cell of these tracks has a link
abbrev pub Bare : List TrackState → Type 0
Bare [] = Unit {0}
Bare (t ∷ ts) = (links_in t.cells ≡ []) × Bare ts

from_none : (place : ℕ) (ts : List TrackState) → Bare ts → links_in (cells_from place ts) ≡ []
from_none place [] h = refl
from_none place (t ∷ ts) h = append_none (drop place t.cells) (cells_from place ts) (drop_none place t.cells h.0) (from_none place ts h.1)

outside_none : (ts : List TrackState) (cs : List Cell) → links_in cs ≡ [] → least_outside ts cs ≡ None
outside_none ts [] h = refl
outside_none ts (c ∷ cs) h =
    let p : (c.link ≡ None) × (links_in cs ≡ []) = first_none c.link (links_in cs) h in
    ap (λ (o : Option Link). least_link (outside ts o) (least_outside ts cs)) p.0 ∙ outside_none ts cs p.1

pub none-refused : (x y len : ℕ) (ts : List TrackState) → Bare ts → shift_refusal x y len ts ≡ None
none-refused x y len ts h = by (eqb len (y - x)) where
  by : (b : Bool) → cond b None (link_outside ts (cells_from y ts)) ≡ None
  by true = refl
  by false = ap (outside_refusal ts) (outside_none ts (cells_from y ts) (from_none y ts h))

-- where no link is split all stays as it is
moved_none : (all : List TrackState) (cs : List Cell) → map (moved_cell all []) cs ≡ cs
moved_none all [] = refl
moved_none all (c ∷ cs) =
    ap (λ (o : Option Link). record c { link = o } ∷ map (moved_cell all []) cs) (by c.link) ∙ ap (λ (ds : List Cell). c ∷ ds) (moved_none all cs) where
      by : (o : Option Link) → moved_link all [] o ≡ o
      by None = refl
      by (Some l) = refl
