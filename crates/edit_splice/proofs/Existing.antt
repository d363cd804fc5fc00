-- Any range of a track has items and gaps at its ends.
use Rattle.std.proofs.Common.{◌≡◌, ℕ, zero, suc, ◌+◌, ◌-◌, ◌<◌, ◌≤◌, List, [], ◌∷◌, length, Option, Some, None, refl, sym, ap, ◌∙◌, arith, ⊎_elim}
use Rattle.std.proofs.lemmas.Bool.{cases_lt}
use Rattle.frame_meaning.specs.declared.cells.Cell.{Cell}
use Rattle.composables.specs.declared.items.ItemView.{ItemView}
use Rattle.composables.specs.Items.{cells_of, items_of}
use Rattle.composables.specs.Joined.{frames_in}
use Rattle.composables.proofs.Joining.{length-cells_of}
use Rattle.edit_splice.specs.declared.seams.ItemAt.{ItemAt}
use Rattle.edit_splice.specs.declared.seams.Seams.{Seams}
use Rattle.edit_splice.specs.Parts.{Stands, EndsAt, StandsFrom, AreSeams, view_after}

here : (v : ItemView) (vs : List ItemView) (at : ℕ) → at < v.len → Stands (v ∷ vs) at (record { index = 0; from = 0; view = v })
here v vs at lt = record { read = refl; from = refl; begins = omega arith; ends = omega (arith, lt) }

further : (v : ItemView) (vs : List ItemView) (at : ℕ) (h : ItemAt) → v.len ≤ at → Stands vs (at - v.len) h → Stands (v ∷ vs) at (record { index = suc h.index; from = v.len + h.from; view = h.view })
further v vs at h le s = record { read = s.read; from = ap (λ (k : ℕ). v.len + k) s.from; begins = omega (arith, le, s.begins); ends = omega (arith, le, s.ends) }

found : (vs : List ItemView) (at : ℕ) → at < frames_in vs → (h : ItemAt) × Stands vs at h
found [] at lt = absurd (omega (arith, lt))
found (v ∷ vs) at lt =
    ⊎_elim
    (λ (less : at < v.len). (record { index = 0; from = 0; view = v }, here v vs at less))
    (λ (le : v.len ≤ at). (let rest = found vs (at - v.len) (omega (arith, lt, le)) in (record { index = suc rest.0.index; from = v.len + rest.0.from; view = rest.0.view }, further v vs at rest.0 le rest.1)))
    (cases_lt at v.len)

frames_of_cells : (cs : List Cell) → cells_of (items_of cs) ≡ cs → frames_in (items_of cs) ≡ length cs
frames_of_cells cs whole = sym (length-cells_of (items_of cs)) ∙ ap length whole

pub left_end : (cs : List Cell) (x : ℕ) → cells_of (items_of cs) ≡ cs → x ≤ length cs → (l : Option ItemAt) × EndsAt cs x l
left_end cs zero whole le = (None, refl)
left_end cs (suc x) whole le =
    let inside : suc x - 1 < frames_in (items_of cs) = omega (arith, le, frames_of_cells cs whole) in
    let h = found (items_of cs) (suc x - 1) inside in
    (Some h.0, (omega arith, h.1))

pub right_end : (cs : List Cell) (y : ℕ) → cells_of (items_of cs) ≡ cs → (r : Option ItemAt) × StandsFrom cs y r
right_end cs y whole =
    ⊎_elim
    (λ (less : y < length cs). (let h = found (items_of cs) y (omega (arith, less, frames_of_cells cs whole)) in (Some h.0, h.1)))
    (λ (le : length cs ≤ y). (None, le))
    (cases_lt y (length cs))

pub seams-exist : (cs : List Cell) (x y : ℕ) → cells_of (items_of cs) ≡ cs → x ≤ length cs → (s : Seams) × AreSeams cs x y s
seams-exist cs x y whole le =
    let l = left_end cs x whole le in
    let r = right_end cs y whole in
    (record { left = l.0; right = r.0; after = view_after (items_of cs) r.0 }, record { left = l.1; right = r.1; after = refl })
