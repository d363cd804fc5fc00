-- A roll leaves good tracks; and what stands beside record frames of a track.
use Rattle.std.proofs.Common.{◌≡◌, ℕ, zero, suc, ◌+◌, ◌-◌, ◌<◌, ◌≤◌, ℤ, pos, negsuc, Bool, true, false, not, cond, ltb, ◌&&◌, List, [], ◌∷◌, take, length, get_or, Some, Err, refl, sym, ap, ◌∙◌, arith, slice_get, ⊎_elim}
use Rattle.std.proofs.lemmas.Bool.{and_parts, cases_lt, ltb-false, ltb-true}
use Rattle.std.proofs.lemmas.Option.{slice_get-get_or}
use Rattle.frame_meaning.specs.declared.cells.Cell.{Cell}
use Rattle.frame_meaning.specs.Cells.{belong, later_side}
use Rattle.frame_meaning.specs.Render.{cell_at}
use Rattle.composables.specs.declared.calls.Roll.{Roll}
use Rattle.composables.specs.declared.items.ItemView.{ItemView}
use Rattle.composables.specs.declared.items.Place.{Place}
use Rattle.composables.specs.declared.media.Table.{Table}
use Rattle.composables.specs.declared.refusals.Refusal.TheVariants.{NotACut}
use Rattle.composables.specs.Good.{IsGood}
use Rattle.composables.specs.Items.{items_of}
use Rattle.composables.specs.Joined.{frames_in}
use Rattle.composables.specs.Places.{StandsAt}
use Rattle.composables.specs.Ranges.{is_cut}
use Rattle.composables.specs.TrackState.{TrackState}
use Rattle.composables.proofs.Frames.{no_view}
use Rattle.edit_delta.specs.declared.deltas.Way.TheVariants.{Earlier, Later}
use Rattle.edit_delta.specs.Reaching.{going_on, has_after, has_before, reaching_back}
use Rattle.edit_delta.proofs.Spots.{length-frames, spot-head, spot-last}
use Rattle.edit_splice.specs.Laws.{IsWithinLimits}
use Rattle.edit_roll.specs.Neighbours.{move_allows}
use Rattle.edit_roll.specs.NeighboursInside.{FitsBetween, fits_earlier, fits_later}
use Rattle.edit_roll.specs.Rolling.{roll_cut, roll_named, roll_track, rolled, rolled_earlier, rolled_later}
use Rattle.edit_roll.proofs.Beside.{no-cut-inside}
use Rattle.edit_roll.proofs.Moves.{Around, around-of, roll-back, roll-on, same-moves}
use Rattle.track_laws.specs.Goods.{IsBounded, KeepsGood}
use Rattle.track_laws.proofs.DeltaSteps.{GoodOne, all-good, numbered-after, own-leaves, used-good}
use Rattle.track_laws.proofs.DeltaTrim.{parts-good}

-- the delta that is allowed between two neighbours fits

pub fits-on : (table : Table) (t : TrackState) (x y : ℕ) (l r : ItemView) (n : ℕ) → IsBounded table → Around table t x y l r → move_allows table t x y (pos (suc n)) ≡ true → FitsBetween table l r (Later (suc n))
fits-on table t x y l r n bounded a e =
    let f : fits_later table l r (suc n) ≡ true = same-moves table t x y l r (pos (suc n)) a ∙ e in
    let b = and_parts (ltb (suc n) r.len) (has_after table (later_side l.first (l.len - 1)) (suc n)) f in
    (omega arith, ltb-true (suc n) r.len b.0, b.1, numbered-after table l.first l.len (suc n) bounded a.left.filled b.1)

pub fits-back : (table : Table) (t : TrackState) (x y : ℕ) (l r : ItemView) (n : ℕ) → Around table t x y l r → move_allows table t x y (negsuc n) ≡ true → FitsBetween table l r (Earlier (suc n))
fits-back table t x y l r n a e =
    let f : fits_earlier table l r (suc n) ≡ true = same-moves table t x y l r (negsuc n) a ∙ e in
    let b = and_parts (ltb (suc n) l.len) (has_before table r.first (suc n)) f in
    (omega arith, ltb-true (suc n) l.len b.0, b.1)

-- what holds a place

record HoldsPlace (vs : List ItemView) (q : ℕ) : Type 0 where
  index : ℕ
  view : ItemView
  read : slice_get vs index ≡ Some view
  inside : index < length vs
  begins : frames_in (take index vs) ≤ q
  ends : q < frames_in (take (suc index) vs)

holds_place : (vs : List ItemView) (q : ℕ) → q < frames_in vs → HoldsPlace vs q
holds_place [] q h = absurd (omega (arith, h))
holds_place (v ∷ vs) q h = by (ltb q v.len) refl (λ lt. holds_place vs (q - v.len) lt) where
  by : (b : Bool) → ltb q v.len ≡ b → (q - v.len < frames_in vs → HoldsPlace vs (q - v.len)) → HoldsPlace (v ∷ vs) q
  by true e later = let lt : q < v.len = ltb-true q v.len e in record { index = 0; view = v; read = refl; inside = omega arith; begins = omega arith; ends = omega (arith, lt) }
  by false e later =
      let le : v.len ≤ q = ltb-false q v.len e in
      let r = later (omega (arith, h, le)) in
      record { index = suc r.index; view = r.view; read = r.read; inside = omega (arith, r.inside); begins = omega (arith, r.begins, le); ends = omega (arith, r.ends, le) }

-- the items or gaps beside record frames
pub record Neighbours (table : Table) (t : TrackState) (x y : ℕ) : Type 0 where
  pub left : ItemView
  pub right : ItemView
  pub around : Around table t x y left right

pub neighbours-of : (table : Table) (t : TrackState) (x y from to : ℕ) → IsGood table t → 0 < from → from - 1 < length (items_of t.cells) → to < length (items_of t.cells)
    → x ≡ frames_in (take from (items_of t.cells)) → y ≡ frames_in (take to (items_of t.cells)) → Neighbours table t x y
neighbours-of table t x y from to good some before behind ends begins =
    record {
      left = get_or (items_of t.cells) (from - 1) no_view;
      right = get_or (items_of t.cells) to no_view;
      around = around-of table t x y (record { left = get_or (items_of t.cells) (from - 1) no_view; right = get_or (items_of t.cells) to no_view }) good
          (record {
            from = from;
            to = to;
            beside = record { some = some; left = slice_get-get_or (items_of t.cells) (from - 1) no_view before; right = slice_get-get_or (items_of t.cells) to no_view behind };
            ends = ends;
            begins = begins;
          });
    }

-- those at a cut

cut_inside : (cells : List Cell) (p : ℕ) → is_cut cells p ≡ true → (0 < p) × (p < length cells)
cut_inside cells p e =
    let a = and_parts (ltb 0 p && ltb p (length cells)) (not (belong (cell_at cells (p - 1)) (cell_at cells p))) e in
    let b = and_parts (ltb 0 p) (ltb p (length cells)) a.0 in
    (ltb-true 0 p b.0, ltb-true p (length cells) b.1)

pub some-index : (vs : List ItemView) (i p : ℕ) → 0 < p → p ≡ frames_in (take i vs) → 0 < i
some-index vs zero p h e = absurd (omega (arith, h, e))
some-index vs (suc i) p h e = omega arith

differ : true ≡ false → ⊥
differ e = cc

cut_at : (table : Table) (t : TrackState) (p : ℕ) → IsGood table t → is_cut t.cells p ≡ true → HoldsPlace (items_of t.cells) p → Neighbours table t p p
cut_at table t p good cut h =
    let next : h.index + 1 ≡ suc h.index = omega arith in
    let place : Place = record { index = h.index; from = frames_in (take h.index (items_of t.cells)); to = frames_in (take (h.index + 1) (items_of t.cells)) } in
    let stands : StandsAt (items_of t.cells) place = record { index = h.inside; from = refl; to = refl } in
    let to : frames_in (take (h.index + 1) (items_of t.cells)) ≡ frames_in (take (suc h.index) (items_of t.cells)) = ap (λ (k : ℕ). frames_in (take k (items_of t.cells))) next in
    ⊎_elim
    (λ (less : frames_in (take h.index (items_of t.cells)) < p). absurd (differ (sym cut ∙ no-cut-inside t p place good.kept stands less (omega (arith, h.ends, to)))))
    (λ (le : p ≤ frames_in (take h.index (items_of t.cells))).
    (let here : p ≡ frames_in (take h.index (items_of t.cells)) = omega (arith, le, h.begins) in
    let some = some-index (items_of t.cells) h.index p (cut_inside t.cells p cut).0 here in
    neighbours-of table t p p h.index h.index good some (omega (arith, h.inside)) h.inside here here))
    (cases_lt (frames_in (take h.index (items_of t.cells))) p)

cut_beside : (table : Table) (t : TrackState) (p : ℕ) → IsGood table t → is_cut t.cells p ≡ true → Neighbours table t p p
cut_beside table t p good cut =
    cut_at table t p good cut (holds_place (items_of t.cells) p (omega (arith, (cut_inside t.cells p cut).1, length-frames t good.kept)))

-- a cut that rolls

roll_on_good : (table : Table) (t : TrackState) (p n : ℕ) (l r : ItemView) → IsBounded table → IsGood table t → Around table t p p l r → move_allows table t p p (pos (suc n)) ≡ true
    → IsWithinLimits (rolled_later t p (suc n)) → IsGood table (rolled_later t p (suc n))
roll_on_good table t p n l r bounded good a e limits =
    parts-good table t p (p + suc n) (going_on (cell_at t.cells (p - 1)) (suc n) ∷ []) good
    (roll-on table t p l r (going_on (cell_at t.cells (p - 1)) (suc n)) (suc n) good a (fits-on table t p p l r n bounded a e)
    (ap (λ (c : Cell). going_on c (suc n)) (spot-last table t a.before l (p - l.len) p a.left))) limits

roll_back_good : (table : Table) (t : TrackState) (p n : ℕ) (l r : ItemView) → IsGood table t → Around table t p p l r → move_allows table t p p (negsuc n) ≡ true
    → IsWithinLimits (rolled_earlier t p (suc n)) → IsGood table (rolled_earlier t p (suc n))
roll_back_good table t p n l r good a e limits =
    parts-good table t (p - suc n) p (reaching_back (cell_at t.cells p) (suc n) ∷ []) good
    (roll-back table t p l r (reaching_back (cell_at t.cells p) (suc n)) (suc n) good a (fits-back table t p p l r n a e)
    (ap (λ (c : Cell). reaching_back c (suc n)) (spot-head table t a.behind r p (p + r.len) a.right))) limits

cut_good : (table : Table) (t : TrackState) (by : ℤ) (p : ℕ) → IsBounded table → IsGood table t → Neighbours table t p p → GoodOne table (roll_cut table t by p)
cut_good table t by p bounded good b =
    used-good table t (rolled t p) (move_allows table t p p) by good
    (λ n e limits. roll_on_good table t p n b.left b.right bounded good b.around e limits) (λ n e limits. roll_back_good table t p n b.left b.right good b.around e limits)

track_good : (table : Table) (c : Roll) (t : TrackState) → IsBounded table → IsGood table t → GoodOne table (roll_track table c t)
track_good table c t bounded good = by (is_cut t.cells c.at) refl where
  by : (b : Bool) → is_cut t.cells c.at ≡ b → GoodOne table (cond b (roll_cut table t c.by c.at) (Err (NotACut c.at)))
  by true e = cut_good table t c.by c.at bounded good (cut_beside table t c.at good e)
  by false e = tt

pub roll-good : (table : Table) (c : Roll) → KeepsGood table (c.track ∷ []) (λ named. roll_named table named c)
roll-good table c =
    all-good table (c.track ∷ []) (λ named. roll_named table named c)
    (λ named bounded numbers good. own-leaves table c.track (roll_track table c) named good (λ t g. track_good table c t bounded g))
