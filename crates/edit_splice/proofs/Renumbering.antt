-- The later part of an item that is split has a new number; no other item has the old one.
use Rattle.std.proofs.Common.{◌≡◌, ◌≢◌, ℕ, zero, suc, Bool, true, false, cond, List, [], ◌∷◌, ◌++◌, map, Option, Some, None, IfSome, refl, ap, ◌∙◌}
use Rattle.std.proofs.lemmas.List.{map-append}
use Rattle.std.proofs.lemmas.Bool.{cond_both}
use Rattle.frame_meaning.specs.declared.cells.What.{What}
use Rattle.frame_meaning.specs.declared.cells.Mark.{Mark}
use Rattle.frame_meaning.specs.declared.cells.Link.{Link}
use Rattle.frame_meaning.specs.declared.cells.Cell.{Cell}
use Rattle.frame_meaning.specs.declared.frames.Side.{Side}
use Rattle.frame_meaning.specs.Cells.{span, next_side, same_number}
use Rattle.frame_meaning.specs.Splice.{renumbered}
use Rattle.composables.specs.declared.items.ItemView.{ItemView}
use Rattle.composables.specs.Items.{marked, view_cells, cells_of}
use Rattle.composables.specs.TrackFacts.{Lacks}
use Rattle.composables.proofs.Joining.{same-is}
use Rattle.edit_splice.specs.Parts.{renumbered_view}

abbrev fresh_cell : Bool → ℕ → Cell → Cell
fresh_cell b fresh c = cond b (record c { item = Some fresh }) c

span_renumbered : (j fresh : ℕ) (i : Option ℕ) (s : Side What) (l : Option Link) (n : ℕ) → same_number i (Some j) ≡ true → map (renumbered (Some j) fresh) (span i s l n) ≡ span (Some fresh) s l n
span_renumbered j fresh i s l zero e = refl
span_renumbered j fresh i s l (suc n) e =
    ap (λ (t : Bool). fresh_cell t fresh (record { item = i; side = s; mark = None; link = l }) ∷ map (renumbered (Some j) fresh) (span i (next_side s) l n)) e
    ∙ ap (λ cs. record { item = Some fresh; side = s; mark = None; link = l } ∷ cs) (span_renumbered j fresh i (next_side s) l n e)

span_stays : (j fresh : ℕ) (i : Option ℕ) (s : Side What) (l : Option Link) (n : ℕ) → same_number i (Some j) ≡ false → map (renumbered (Some j) fresh) (span i s l n) ≡ span i s l n
span_stays j fresh i s l zero e = refl
span_stays j fresh i s l (suc n) e =
    ap (λ (t : Bool). fresh_cell t fresh (record { item = i; side = s; mark = None; link = l }) ∷ map (renumbered (Some j) fresh) (span i (next_side s) l n)) e
    ∙ ap (λ cs. record { item = i; side = s; mark = None; link = l } ∷ cs) (span_stays j fresh i (next_side s) l n e)

marked_renumbered : (j fresh : ℕ) (i : Option ℕ) (s : Side What) (m : Option Mark) (l : Option Link) (n : ℕ) → same_number i (Some j) ≡ true → map (renumbered (Some j) fresh) (marked m (span i s l n)) ≡ marked m (span (Some fresh) s l n)
marked_renumbered j fresh i s m l zero e = refl
marked_renumbered j fresh i s m l (suc n) e =
    ap (λ (t : Bool). fresh_cell t fresh (record { item = i; side = s; mark = m; link = l }) ∷ map (renumbered (Some j) fresh) (span i (next_side s) l n)) e
    ∙ ap (λ cs. record { item = Some fresh; side = s; mark = m; link = l } ∷ cs) (span_renumbered j fresh i (next_side s) l n e)

marked_stays : (j fresh : ℕ) (i : Option ℕ) (s : Side What) (m : Option Mark) (l : Option Link) (n : ℕ) → same_number i (Some j) ≡ false → map (renumbered (Some j) fresh) (marked m (span i s l n)) ≡ marked m (span i s l n)
marked_stays j fresh i s m l zero e = refl
marked_stays j fresh i s m l (suc n) e =
    ap (λ (t : Bool). fresh_cell t fresh (record { item = i; side = s; mark = m; link = l }) ∷ map (renumbered (Some j) fresh) (span i (next_side s) l n)) e
    ∙ ap (λ cs. record { item = i; side = s; mark = m; link = l } ∷ cs) (span_stays j fresh i (next_side s) l n e)

all_stay : (fresh : ℕ) (cs : List Cell) → map (renumbered None fresh) cs ≡ cs
all_stay fresh [] = refl
all_stay fresh (c ∷ cs) = ap (λ ds. c ∷ ds) (all_stay fresh cs)

pub view-renumbered : (s : Option ℕ) (fresh : ℕ) (v : ItemView) → map (renumbered s fresh) (view_cells v) ≡ view_cells (renumbered_view s fresh v)
view-renumbered None fresh v = all_stay fresh (view_cells v)
view-renumbered (Some j) fresh v =
    cond_both (same_number v.item (Some j)) (record v { item = Some fresh }) v (λ (w : ItemView). map (renumbered (Some j) fresh) (view_cells v) ≡ view_cells w)
    (λ t. marked_renumbered j fresh v.item v.first v.mark v.link v.len t)
    (λ t. marked_stays j fresh v.item v.first v.mark v.link v.len t)

-- items that lack the number stay
other_stays : (j fresh : ℕ) (v : ItemView) → v.item ≢ Some j → map (renumbered (Some j) fresh) (view_cells v) ≡ view_cells v
other_stays j fresh v ne = by_test (same_number v.item (Some j)) refl where
  by_test : (b : Bool) → same_number v.item (Some j) ≡ b → map (renumbered (Some j) fresh) (view_cells v) ≡ view_cells v
  by_test true e = absurd (ne (same-is v.item (Some j) e))
  by_test false e = marked_stays j fresh v.item v.first v.mark v.link v.len e

others_stay : (j fresh : ℕ) (ws : List ItemView) → Lacks j ws → map (renumbered (Some j) fresh) (cells_of ws) ≡ cells_of ws
others_stay j fresh [] h = refl
others_stay j fresh (w ∷ ws) h =
    map-append (renumbered (Some j) fresh) (view_cells w) (cells_of ws)
    ∙ (ap (λ cs. cs ++ map (renumbered (Some j) fresh) (cells_of ws)) (other_stays j fresh w h.0)
    ∙ ap (λ cs. view_cells w ++ cs) (others_stay j fresh ws h.1))

pub rest-stays : (s : Option ℕ) (fresh : ℕ) (ws : List ItemView) → IfSome s (λ i. Lacks i ws) → map (renumbered s fresh) (cells_of ws) ≡ cells_of ws
rest-stays None fresh ws h = all_stay fresh (cells_of ws)
rest-stays (Some j) fresh ws h = others_stay j fresh ws h
