-- A trim leaves good tracks.
use Rattle.std.proofs.Common.{◌≡◌, ℕ, suc, ◌+◌, ◌-◌, ◌<◌, ◌≤◌, ℤ, true, leb, min, List, [], ◌∷◌, length, refl, sym, ap, ◌∙◌, arith, subst, false}
use Rattle.std.proofs.lemmas.Bool.{and_parts, leb-true, ltb-true}
use Rattle.frame_meaning.specs.declared.cells.Cell.{Cell}
use Rattle.frame_meaning.specs.declared.cells.What.{What}
use Rattle.frame_meaning.specs.declared.frames.Side.{Side}
use Rattle.frame_meaning.specs.Cells.{later_side}
use Rattle.frame_meaning.specs.Render.{cell_at}
use Rattle.composables.specs.declared.calls.End.{End}
use Rattle.composables.specs.declared.calls.End.TheVariants.{Head, Tail}
use Rattle.composables.specs.declared.calls.Trim.{Trim}
use Rattle.composables.specs.declared.items.ItemView.{ItemView}
use Rattle.composables.specs.declared.media.Table.{Table}
use Rattle.composables.specs.declared.TheConstants.{MAX_FRAMES}
use Rattle.composables.specs.Good.{IsGood}
use Rattle.composables.specs.TrackState.{TrackState}
use Rattle.composables.specs.Views.{gap_views}
use Rattle.edit_delta.specs.Parts.{AreParts}
use Rattle.edit_delta.specs.Reaching.{going_on, has_after, has_before, keeps_a_cell, reaching_back}
use Rattle.edit_delta.proofs.Bounded.{stays-spliced}
use Rattle.edit_delta.proofs.Pieces.{back-parts, before-of, gap-alone, gap-parts, on-parts}
use Rattle.edit_delta.proofs.Spots.{Spot, side-head, spot-head, spot-last}
use Rattle.edit_splice.specs.Laws.{IsWithinLimits}
use Rattle.edit_splice.specs.Splicing.{spliced_track}
use Rattle.edit_trim.specs.Darkness.{dark_before, dark_behind}
use Rattle.edit_trim.specs.Trimming.{head_earlier, head_later, head_may_grow, tail_earlier, tail_later, tail_may_grow, trim_allows, trim_end, trim_named, trim_track, trimmed}
use Rattle.track_laws.specs.Goods.{IsBounded, KeepsGood}
use Rattle.track_laws.proofs.DeltaSteps.{GoodOne, all-good, goes-after, own-leaves, range-good, used-good}

-- parts of items in place of some frames
pub parts-good : (table : Table) (t : TrackState) (x y : ℕ) (views : List ItemView) → IsGood table t → AreParts table t x y views → IsWithinLimits (spliced_track false t x y views) → IsGood table (spliced_track false t x y views)
parts-good table t x y views good parts limits = (stays-spliced false table t x y views good parts limits).good

-- frames that an item gives up
dark_good : (table : Table) (t : TrackState) (x y n : ℕ) → IsGood table t → y ≡ x + suc n → y ≤ length t.cells → IsWithinLimits (spliced_track false t x y (gap_views (suc n))) → IsGood table (spliced_track false t x y (gap_views (suc n)))
dark_good table t x y n good long within limits =
    parts-good table t x y (gap_views (suc n)) good
    (subst (AreParts table t x y) (sym (gap-alone (suc n) (omega arith))) (gap-parts table t x y (suc n) good long within (omega arith))) limits

-- the head and the tail earlier and later

head_down : (table : Table) (t : TrackState) (i : ℕ) (v : ItemView) (x y n : ℕ) → IsGood table t → Spot table t i v x y → keeps_a_cell x y (suc n) ≡ true
    → IsWithinLimits (head_later t x (suc n)) → IsGood table (head_later t x (suc n))
head_down table t i v x y n good s keeps limits =
    let less : x + suc n < y = ltb-true (x + suc n) y keeps in
    dark_good table t x (x + suc n) n good refl (omega (arith, less, s.within)) limits

head_up : (table : Table) (t : TrackState) (i : ℕ) (v : ItemView) (x y n : ℕ) → IsGood table t → Spot table t i v x y → head_may_grow table t x (suc n) ≡ true
    → IsWithinLimits (head_earlier t x (suc n)) → IsGood table (head_earlier t x (suc n))
head_up table t i v x y n good s grows limits =
    let a = and_parts (dark_before t.cells x (suc n)) (has_before table (cell_at t.cells x).side (suc n)) grows in
    let le : suc n ≤ x = leb-true (suc n) x (and_parts (leb (suc n) x) _ a.0).0 in
    let side : (cell_at t.cells x).side ≡ v.first = ap (λ (c : Cell). c.side) (spot-head table t i v x y s) ∙ side-head v in
    let has : has_before table v.first (suc n) ≡ true = subst (λ (d : Side What). has_before table d (suc n) ≡ true) side a.1 in
    parts-good table t (x - suc n) x (reaching_back (cell_at t.cells x) (suc n) ∷ []) good
    (back-parts table t i v (reaching_back (cell_at t.cells x) (suc n)) x y (x - suc n) (suc n) good s (omega arith) (omega (arith, le)) (before-of table v.first v.len (suc n) has s.source s.lies)
    (ap (λ (c : Cell). reaching_back c (suc n)) (spot-head table t i v x y s))) limits

tail_up : (table : Table) (t : TrackState) (i : ℕ) (v : ItemView) (x y n : ℕ) → IsBounded table → IsGood table t → Spot table t i v x y → tail_may_grow table t y (suc n) ≡ true
    → IsWithinLimits (tail_later t y (suc n)) → IsGood table (tail_later t y (suc n))
tail_up table t i v x y n bounded good s grows limits =
    let a = and_parts (dark_behind t.cells y (suc n)) (has_after table (cell_at t.cells (y - 1)).side (suc n)) grows in
    let le : y + suc n ≤ MAX_FRAMES = leb-true (y + suc n) MAX_FRAMES (and_parts (leb (y + suc n) MAX_FRAMES) _ a.0).0 in
    let side : (cell_at t.cells (y - 1)).side ≡ later_side v.first (v.len - 1) = ap (λ (c : Cell). c.side) (spot-last table t i v x y s) in
    let has : has_after table (later_side v.first (v.len - 1)) (suc n) ≡ true = subst (λ (d : Side What). has_after table d (suc n) ≡ true) side a.1 in
    parts-good table t y (min (y + suc n) (length t.cells)) (going_on (cell_at t.cells (y - 1)) (suc n) ∷ []) good
    (on-parts table t i v (going_on (cell_at t.cells (y - 1)) (suc n)) x y (min (y + suc n) (length t.cells)) (suc n) s (omega arith) (omega (arith, s.within)) (omega arith) (omega (arith, le, good.frames))
    (goes-after table v.first v.len (suc n) bounded s.filled has s.lies)
    (ap (λ (c : Cell). going_on c (suc n)) (spot-last table t i v x y s))) limits

tail_down : (table : Table) (t : TrackState) (i : ℕ) (v : ItemView) (x y n : ℕ) → IsGood table t → Spot table t i v x y → keeps_a_cell x y (suc n) ≡ true
    → IsWithinLimits (tail_earlier t y (suc n)) → IsGood table (tail_earlier t y (suc n))
tail_down table t i v x y n good s keeps limits =
    let less : x + suc n < y = ltb-true (x + suc n) y keeps in
    dark_good table t (y - suc n) y n good (omega (arith, less)) s.within limits

end_good : (table : Table) (t : TrackState) (i : ℕ) (v : ItemView) (x y : ℕ) (end : End) (by : ℤ) → IsBounded table → IsGood table t → Spot table t i v x y → GoodOne table (trim_end table t end by x y)
end_good table t i v x y Head by bounded good s =
    used-good table t (trimmed t x y Head) (trim_allows table t x y Head) by good
    (λ n e limits. head_down table t i v x y n good s e limits) (λ n e limits. head_up table t i v x y n good s e limits)
end_good table t i v x y Tail by bounded good s =
    used-good table t (trimmed t x y Tail) (trim_allows table t x y Tail) by good
    (λ n e limits. tail_up table t i v x y n bounded good s e limits) (λ n e limits. tail_down table t i v x y n good s e limits)

pub trim-good : (table : Table) (c : Trim) → KeepsGood table (c.track ∷ []) (λ named. trim_named table named c)
trim-good table c =
    all-good table (c.track ∷ []) (λ named. trim_named table named c)
    (λ named bounded numbers good.
    own-leaves table c.track (trim_track table c) named good
    (λ t g. range-good table t c.item (trim_end table t c.end c.by) g (λ x y f. end_good table t f.index f.view x y c.end c.by bounded g f.spot)))
