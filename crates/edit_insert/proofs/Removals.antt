-- What a remove and a slice leave of the facts on a track.
use Rattle.std.proofs.Common.{◌≡◌, ℕ, ◌+◌, ◌-◌, ◌≤◌, Bool, true, false, cond, ltb, List, [], ◌∷◌, length, Option, Some, None, Result, Err, refl, ap, arith}
use Rattle.std.proofs.lemmas.Bool.{ltb-true}
use Rattle.frame_meaning.specs.Cells.{same_number}
use Rattle.composables.specs.declared.calls.Remove.{Remove}
use Rattle.composables.specs.declared.calls.Slice.{Slice}
use Rattle.composables.specs.declared.items.ItemView.{ItemView}
use Rattle.composables.specs.declared.media.Table.{Table}
use Rattle.composables.specs.declared.refusals.Done.{Done}
use Rattle.composables.specs.declared.refusals.Done.TheVariants.{Plain}
use Rattle.out_of_memory.specs.declared.fault.Fault.{Fault}
use Rattle.composables.specs.declared.refusals.Refusal.{Refusal}
use Rattle.composables.specs.declared.refusals.Refusal.TheVariants.{NoItem}
use Rattle.composables.specs.Good.{IsGood}
use Rattle.composables.specs.Items.{cells_of, items_of}
use Rattle.composables.specs.Joined.{frames_in}
use Rattle.composables.specs.Ranges.{on_range, range_from, range_of}
use Rattle.composables.specs.TrackFacts.{IsKept}
use Rattle.composables.specs.TrackState.{TrackState}
use Rattle.composables.specs.Views.{gap_views}
use Rattle.composables.proofs.Joining.{length-cells_of}
use Rattle.edit_splice.specs.Splicing.{spliced_track}
use Rattle.out_of_memory.specs.Answers.{Answers}
use Rattle.edit_insert.specs.Edits.{remove_track, slice_track}
use Rattle.composables.specs.Limits.{track_within_limits}
use Rattle.edit_splice.specs.Standing.{StaysGood}
use Rattle.edit_splice.proofs.Put.{put-gap}
use Rattle.edit_splice.proofs.Standing.{stays-placed, stays-refused}

first_of : Option (ℕ × ℕ) → ℕ
first_of None = 0
first_of (Some r) = r.0

end_of : Option (ℕ × ℕ) → ℕ
end_of None = 0
end_of (Some r) = r.1

range_within : (vs : List ItemView) (p i x y : ℕ) → range_from p vs i ≡ Some (x, y) → (p ≤ x) × (x ≤ y) × (y ≤ p + frames_in vs)
unfolding first_of end_of
range_within [] p i x y e = absurd (Prim.grind (arith, e))
range_within (v ∷ vs) p i x y e = by (same_number v.item (Some i)) e (range_within vs (p + v.len) i x y) where
  by : (b : Bool) → cond b (Some (p, p + v.len)) (range_from (p + v.len) vs i) ≡ Some (x, y)
      → (range_from (p + v.len) vs i ≡ Some (x, y) → (p + v.len ≤ x) × (x ≤ y) × (y ≤ p + v.len + frames_in vs))
      → (p ≤ x) × (x ≤ y) × (y ≤ p + (v.len + frames_in vs))
  by true e later =
      let a : p ≡ x = ap first_of e in
      let b : p + v.len ≡ y = ap end_of e in
      (omega (arith, a), omega (arith, a, b), omega (arith, a, b))
  by false e later =
      let h = later e in
      (omega (arith, h.0), h.1, omega (arith, h.2))

pub range-within : (t : TrackState) (i x y : ℕ) → IsKept t → range_of t.cells i ≡ Some (x, y) → (x ≤ y) × (y ≤ length t.cells)
range-within t i x y kept e =
    let h : (0 ≤ x) × (x ≤ y) × (y ≤ 0 + frames_in (items_of t.cells)) = range_within (items_of t.cells) 0 i x y e in
    let l : length (cells_of (items_of t.cells)) ≡ length t.cells = ap length kept.whole in
    (h.1, omega (arith, h.2, l, length-cells_of (items_of t.cells)))

pub remove-stays : (table : Table) (c : Remove) (t u : TrackState) (result : Result Done (Fault Refusal)) → IsGood table t → Answers (remove_track c t) t u result → StaysGood table t u
remove-stays table c t u result g = by (range_of t.cells c.item) refl where
  by : (o : Option (ℕ × ℕ)) → range_of t.cells c.item ≡ o
      → Answers (on_range (λ x y. track_within_limits (spliced_track c.keep t x y (gap_views (y - x))) Plain) o) t u result → StaysGood table t u
  by None e a = stays-refused table t u NoItem result g a
  by (Some r) e a =
      let h : (r.0 ≤ r.1) × (r.1 ≤ length t.cells) = range-within t c.item r.0 r.1 g.kept e in
      stays-placed c.keep table t u r.0 r.1 (gap_views (r.1 - r.0)) Plain result g h.0 h.1 (put-gap table t (r.1 - r.0)) a

pub slice-stays : (table : Table) (c : Slice) (t u : TrackState) (result : Result Done (Fault Refusal)) → IsGood table t → Answers (slice_track c t) t u result → StaysGood table t u
slice-stays table c t u result g = by (ltb c.at (length t.cells)) refl where
  by : (b : Bool) → ltb c.at (length t.cells) ≡ b
      → Answers (cond b (track_within_limits (spliced_track c.keep t c.at c.at []) Plain) (Err NoItem)) t u result → StaysGood table t u
  by true e a = stays-placed c.keep table t u c.at c.at [] Plain result g (omega arith) (omega (arith, ltb-true c.at (length t.cells) e)) (put-gap table t 0) a
  by false e a = stays-refused table t u NoItem result g a
