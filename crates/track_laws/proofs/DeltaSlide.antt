-- A slide leaves good tracks.
use Rattle.std.proofs.Common.{◌≡◌, ℕ, suc, ◌+◌, ◌-◌, ◌<◌, ◌≤◌, ◌⊎◌, inl, inr, ℤ, pos, negsuc, true, ltb, [], ◌∷◌, length, None, ap, ◌∙◌, arith}
use Rattle.std.proofs.lemmas.Bool.{and_parts, cases_lt, ltb-true}
use Rattle.std.proofs.lemmas.List.{take_all}
use Rattle.std.proofs.lemmas.Option.{slice_get_within}
use Rattle.frame_meaning.specs.declared.cells.Cell.{Cell}
use Rattle.frame_meaning.specs.declared.cells.What.{What}
use Rattle.frame_meaning.specs.declared.frames.Side.{Side}
use Rattle.frame_meaning.specs.Render.{cell_at}
use Rattle.composables.specs.declared.calls.Slide.{Slide}
use Rattle.composables.specs.declared.items.ItemView.{ItemView}
use Rattle.composables.specs.declared.media.Table.{Table}
use Rattle.composables.specs.Good.{IsGood}
use Rattle.composables.specs.Items.{cell_in, items_of}
use Rattle.composables.specs.Joined.{frames_in}
use Rattle.composables.specs.OwnTracks.{among_named}
use Rattle.composables.specs.TrackSets.{tracks_in}
use Rattle.composables.specs.TrackState.{TrackState}
use Rattle.edit_delta.specs.Reaching.{going_on, reaching_back}
use Rattle.edit_delta.proofs.Spots.{Spot, length-frames, side-head, spot-head, spot-last}
use Rattle.edit_splice.specs.Laws.{IsWithinLimits}
use Rattle.edit_roll.specs.Neighbours.{has_neighbours, may_move_earlier, may_move_later}
use Rattle.edit_roll.specs.Sliding.{bare_item, bare_view, links_refuse, slid, slid_earlier, slid_later, slide_allows, slide_named, slide_own, slide_range, slide_track}
use Rattle.edit_roll.proofs.Slides.{slide-back, slide-on}
use Rattle.link_groups.specs.LinkedItems.{item_of}
use Rattle.track_laws.specs.Goods.{IsBounded, KeepsGood}
use Rattle.track_laws.proofs.Own.{found-good}
use Rattle.track_laws.proofs.DeltaSteps.{GoodOne, SpotOf, all-good, among-good, for-good, range-good, unless-good, used-good}
use Rattle.track_laws.proofs.DeltaRoll.{Neighbours, fits-back, fits-on, neighbours-of, some-index}
use Rattle.track_laws.proofs.DeltaTrim.{parts-good}

-- the neighbours of an item

item_beside : (table : Table) (t : TrackState) (i : ℕ) (v : ItemView) (x y : ℕ) → IsGood table t → Spot table t i v x y → has_neighbours t.cells x y ≡ true → Neighbours table t x y
item_beside table t i v x y good s both =
    let b = and_parts (ltb 0 x) (ltb y (length t.cells)) both in
    let more : 0 < x = ltb-true 0 x b.0 in
    let less : y < length t.cells = ltb-true y (length t.cells) b.1 in
    let inside : i < length (items_of t.cells) = slice_get_within (items_of t.cells) i v s.read in
    neighbours-of table t x y i (i + 1) good (some-index (items_of t.cells) i x more s.starts) (omega (arith, inside)) (after less (cases_lt (i + 1) (length (items_of t.cells)))) s.starts s.stops where
      after : y < length t.cells → (i + 1 < length (items_of t.cells)) ⊎ (length (items_of t.cells) ≤ i + 1) → i + 1 < length (items_of t.cells)
      after less (inl lt) = lt
      after less (inr le) = absurd (omega (arith, less, s.stops, ap frames_in (take_all (i + 1) (items_of t.cells) le), length-frames t good.kept))

-- the item put in beside where it stood

bare_is : (table : Table) (t : TrackState) (i : ℕ) (v : ItemView) (x y : ℕ) → Spot table t i v x y → bare_item (cell_at t.cells x) (y - x) ≡ bare_view v
bare_is table t i v x y s =
    let len : y - x ≡ v.len = omega (arith, s.long) in
    ap (λ (c : Cell). bare_item c (y - x)) (spot-head table t i v x y s)
    ∙ (ap (bare_item (cell_in v 0)) len ∙ ap (λ (d : Side What). record { item = v.item; first = d; len = v.len; mark = None; link = v.link }) (side-head v))

slid_on_good : (table : Table) (t : TrackState) (i : ℕ) (v : ItemView) (x y n : ℕ) → IsBounded table → IsGood table t → Spot table t i v x y → slide_allows table t x y (pos (suc n)) ≡ true
    → IsWithinLimits (slid_later t x y (suc n)) → IsGood table (slid_later t x y (suc n))
slid_on_good table t i v x y n bounded good s e limits =
    let b = and_parts (has_neighbours t.cells x y) (may_move_later table t x y (suc n)) e in
    let k = item_beside table t i v x y good s b.0 in
    parts-good table t x (y + suc n) (going_on (cell_at t.cells (x - 1)) (suc n) ∷ bare_item (cell_at t.cells x) (y - x) ∷ []) good
    (slide-on table t i v k.left k.right (going_on (cell_at t.cells (x - 1)) (suc n)) (bare_item (cell_at t.cells x) (y - x)) x y (suc n) good s k.around
    (fits-on table t x y k.left k.right n bounded k.around b.1)
    (ap (λ (c : Cell). going_on c (suc n)) (spot-last table t k.around.before k.left (x - k.left.len) x k.around.left)) (bare_is table t i v x y s)) limits

slid_back_good : (table : Table) (t : TrackState) (i : ℕ) (v : ItemView) (x y n : ℕ) → IsGood table t → Spot table t i v x y → slide_allows table t x y (negsuc n) ≡ true
    → IsWithinLimits (slid_earlier t x y (suc n)) → IsGood table (slid_earlier t x y (suc n))
slid_back_good table t i v x y n good s e limits =
    let b = and_parts (has_neighbours t.cells x y) (may_move_earlier table t x y (suc n)) e in
    let k = item_beside table t i v x y good s b.0 in
    parts-good table t (x - suc n) y (bare_item (cell_at t.cells x) (y - x) ∷ reaching_back (cell_at t.cells y) (suc n) ∷ []) good
    (slide-back table t i v k.left k.right (reaching_back (cell_at t.cells y) (suc n)) (bare_item (cell_at t.cells x) (y - x)) x y (suc n) good s k.around
    (fits-back table t x y k.left k.right n k.around b.1)
    (ap (λ (c : Cell). reaching_back c (suc n)) (spot-head table t k.around.behind k.right y (y + k.right.len) k.around.right)) (bare_is table t i v x y s)) limits

range_slides : (table : Table) (t : TrackState) (by : ℤ) (i x y : ℕ) → IsBounded table → IsGood table t → SpotOf table t i x y → GoodOne table (slide_range table t by x y)
range_slides table t by i x y bounded good f =
    used-good table t (slid t x y) (slide_allows table t x y) by good
    (λ n e limits. slid_on_good table t f.index f.view x y n bounded good f.spot e limits) (λ n e limits. slid_back_good table t f.index f.view x y n good f.spot e limits)

pub slide-good : (table : Table) (c : Slide) → KeepsGood table (tracks_in c.tracks) (λ named. slide_named table named c)
slide-good table c =
    all-good table (tracks_in c.tracks) (λ named. slide_named table named c)
    (λ named bounded numbers good.
    for-good table c.track (slide_own table named c) named
    (λ t e.
    (let g = found-good table c.track named t good e in
    unless-good table (links_refuse table named c t (item_of t c.item)) (among_named named (slide_track table c t))
    (among-good table named (slide_track table c t) good (range-good table t c.item (slide_range table t c.by) g (λ x y f. range_slides table t c.by c.item x y bounded g f))))))
