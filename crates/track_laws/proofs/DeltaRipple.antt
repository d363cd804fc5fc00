-- A ripple leaves good tracks.
use Rattle.std.proofs.Common.{◌≡◌, ℕ, zero, suc, ◌+◌, ◌-◌, ◌<◌, ◌≤◌, ◌⊎◌, inl, inr, ℤ, pos, negsuc, Bool, true, false, cond, eqb, leb, ltb, ◌&&◌, ◌||◌, min, List, [], ◌∷◌, ◌++◌, All, length, get_or, Option, Some, None, refl, sym, ap, ◌∙◌, arith, subst}
use Rattle.std.proofs.lemmas.Bool.{and_parts, eq-eqb, eqb-true, leb-true, ltb-true}
use Rattle.frame_meaning.specs.declared.cells.Cell.{Cell}
use Rattle.frame_meaning.specs.declared.cells.What.{What}
use Rattle.frame_meaning.specs.declared.frames.Side.{Side}
use Rattle.frame_meaning.specs.Cells.{later_side}
use Rattle.frame_meaning.specs.Render.{cell_at}
use Rattle.composables.specs.declared.calls.End.{End}
use Rattle.composables.specs.declared.calls.End.TheVariants.{Head, Tail}
use Rattle.composables.specs.declared.calls.Ripple.{Ripple}
use Rattle.composables.specs.declared.items.ItemView.{ItemView}
use Rattle.composables.specs.declared.media.Table.{Table}
use Rattle.composables.specs.declared.refusals.Done.{Done}
use Rattle.composables.specs.declared.refusals.Done.TheVariants.{By}
use Rattle.composables.specs.declared.TheConstants.{MAX_FRAMES}
use Rattle.composables.specs.Answers.{Applied}
use Rattle.composables.specs.Good.{IsGood}
use Rattle.composables.specs.Items.{cell_in}
use Rattle.composables.specs.OwnTracks.{numbers_of, track_numbered}
use Rattle.composables.specs.Ranges.{on_range, range_of}
use Rattle.composables.specs.TrackSets.{tracks_in}
use Rattle.composables.specs.TrackState.{TrackState}
use Rattle.composables.specs.Views.{gap_views}
use Rattle.edit_delta.specs.Nearest.{nearest}
use Rattle.edit_delta.specs.Parts.{AreParts}
use Rattle.edit_delta.specs.Reaching.{going_on, has_after, has_before, keeps_a_cell, reaching_back}
use Rattle.edit_delta.proofs.Greatest.{is-nearest}
use Rattle.edit_delta.proofs.Pieces.{before-of, on-parts}
use Rattle.edit_delta.proofs.Spots.{Spot, side-head, spot-head, spot-last}
use Rattle.edit_splice.specs.declared.shifting.Shift.{Shift}
use Rattle.edit_splice.specs.Padding.{new_views}
use Rattle.edit_splice.specs.Shifts.{shift_of}
use Rattle.edit_splice.proofs.Bridging.{Rise, extract-moved, is-numbered, only-one, tracks-rise}
use Rattle.edit_delta.specs.Using.{used_from}
use Rattle.edit_trim.specs.Rippling.{as_split, has_room, have_room, ripple_allows, ripple_end, ripple_named, ripple_own, rippled}
use Rattle.edit_trim.proofs.Reached.{ends-nothing, split-reach, tail-ends, uncut-ripple}
use Rattle.edit_trim.proofs.RippleTracks.{all-stay, none-parts, own-stays}
use Rattle.link_groups.proofs.Uncut.{EndsApart}
use Rattle.track_laws.specs.Goods.{IsBounded, KeepsGood}
use Rattle.track_laws.proofs.DeltaReach.{back-good}
use Rattle.track_laws.proofs.DeltaSteps.{GoodAll, all-good, all-leave, for-good, found-spot, goes-after}
use Rattle.track_laws.proofs.Own.{found-good}
use Rattle.track_laws.proofs.Shifting.{shift-good}

-- the item on [x, y) of the own track, which alone has its number
record Owned (table : Table) (ts : List TrackState) (own : ℕ) (t : TrackState) (i : ℕ) (v : ItemView) (x y : ℕ) : Type 0 where
  all : All (IsGood table) ts
  good : IsGood table t
  spot : Spot table t i v x y
  found : track_numbered own ts ≡ Some t
  number : t.number ≡ own
  only : All (λ (u : TrackState). u.number ≡ own → u ≡ t) ts

-- the room of all is the room of the own track
own_has : (own place n : ℕ) (t : TrackState) → t.number ≡ own → has_room own place n t ≡ true → length t.cells + n ≤ MAX_FRAMES
own_has own place n t number e =
    leb-true (length t.cells + n) MAX_FRAMES (sym (ap (λ (b : Bool). cond (b || ltb place (length t.cells)) (leb (length t.cells + n) MAX_FRAMES) true) (eq-eqb t.number own number)) ∙ e)

own_room : (own place n : ℕ) (ts : List TrackState) (t : TrackState) → track_numbered own ts ≡ Some t → have_room own place ts n ≡ true → length t.cells + n ≤ MAX_FRAMES
own_room own place n [] t e h = absurd cc
own_room own place n (u ∷ us) t e h = by (eqb u.number own) refl e (λ k. own_room own place n us t k (and_parts (has_room own place n u) (have_room own place us n) h).1) where
  by : (c : Bool) → eqb u.number own ≡ c → cond c (Some u) (track_numbered own us) ≡ Some t → (track_numbered own us ≡ Some t → length t.cells + n ≤ MAX_FRAMES) → length t.cells + n ≤ MAX_FRAMES
  by true f k later =
      let same : u ≡ t = cc in
      subst (λ (w : TrackState). length w.cells + n ≤ MAX_FRAMES) same (own_has own place n u (eqb-true u.number own f) (and_parts (has_room own place n u) (have_room own place us n) h).0)
  by false f k later = later k

-- a shift that puts these parts into the own track
parts_shift : (table : Table) (ts : List TrackState) (own : ℕ) (t : TrackState) (i : ℕ) (v : ItemView) (x y : ℕ) (s : Shift) (done : Done) → Owned table ts own t i v x y → s.own ≡ own
    → AreParts table t s.x s.y (new_views s.new) → ((u : TrackState) → u ≡ t → EndsApart u (min s.y (length u.cells)) (gap_views (s.x - length u.cells) ++ new_views s.new))
    → GoodAll table (shift_of s.keep s.own s.x s.y (new_views s.new) done ts)
parts_shift table ts own t i v x y s done o is parts ends =
    all-leave table (shift_of s.keep s.own s.x s.y (new_views s.new) done ts)
    (λ us d k.
    shift-good table s done d ts ts us (extract-moved s ts long) refl parts.order o.all
    (all-stay table s ts t parts.order o.all only (own-stays table s t o.good (o.number ∙ sym is) parts))
    (uncut-ripple table s ts parts.order o.all (λ k d lt e. ends (get_or ts k d) (only k d lt e))) k) where
      only : All (λ (u : TrackState). u.number ≡ s.own → u ≡ t) ts
      only = subst (λ (n : ℕ). All (λ (u : TrackState). u.number ≡ n → u ≡ t) ts) (sym is) o.only

      long : All (λ (u : TrackState). u.number ≡ s.own → (s.x ≤ length u.cells) × (s.y ≤ length u.cells)) ts
      long k d lt e =
          let same : length (get_or ts k d).cells ≡ length t.cells = ap (λ (u : TrackState). length u.cells) (only k d lt e) in
          (omega (arith, same, parts.order, parts.within), omega (arith, same, parts.within))

-- the head later, and earlier

head_later : (table : Table) (ts : List TrackState) (own : ℕ) (t : TrackState) (i : ℕ) (v : ItemView) (x y n : ℕ) (done : Done) → Owned table ts own t i v x y → keeps_a_cell x y n ≡ true
    → GoodAll table (shift_of false own x (x + n) [] done ts)
head_later table ts own t i v x y n done o keeps =
    let less : x + n < y = ltb-true (x + n) y keeps in
    parts_shift table ts own t i v x y (record { own = own; x = x; y = x + n; new = None; keep = false }) done o refl
    (none-parts table t x (x + n) o.good (omega arith) (omega (arith, less, o.spot.within)))
    (λ u is.
    (let same : length u.cells ≡ length t.cells = ap (λ (w : TrackState). length w.cells) is in
    ends-nothing u (min (x + n) (length u.cells)) (x - length u.cells) (omega (arith, same, less, o.spot.within))))

head_earlier : (table : Table) (ts : List TrackState) (own : ℕ) (t : TrackState) (i : ℕ) (v : ItemView) (x y n : ℕ) (done : Done) → Owned table ts own t i v x y → 0 < n
    → have_room own x ts n && has_before table (cell_at t.cells x).side n ≡ true → GoodAll table (shift_of false own x x (reaching_back (cell_at (as_split x ts t).cells x) n ∷ []) done ts)
head_earlier table ts own t i v x y n done o some e =
    let b = and_parts (have_room own x ts n) (has_before table (cell_at t.cells x).side n) e in
    let side : (cell_at t.cells x).side ≡ v.first = ap (λ (c : Cell). c.side) (spot-head table t i v x y o.spot) ∙ side-head v in
    let has : has_before table v.first n ≡ true = subst (λ (d : Side What). has_before table d n ≡ true) side b.1 in
    let found : track_numbered t.number ts ≡ Some t = ap (λ (k : ℕ). track_numbered k ts) o.number ∙ o.found in
    subst (λ (g : ItemView). GoodAll table (shift_of false own x x (g ∷ []) done ts)) (sym (split-reach table ts t i v x y n o.spot found))
    (back-good table ts own t i v x y n done
    (record { good = o.good; spot = o.spot; only = o.only; some = some; room = own_room own x n ts t o.found b.0; before = before-of table v.first v.len n has o.spot.source o.spot.lies }) o.all)

-- the tail later, and earlier

tail_later : (table : Table) (ts : List TrackState) (own : ℕ) (t : TrackState) (i : ℕ) (v : ItemView) (x y n : ℕ) (done : Done) → IsBounded table → Owned table ts own t i v x y → 0 < n
    → have_room own y ts n && has_after table (cell_at t.cells (y - 1)).side n ≡ true → GoodAll table (shift_of false own y y (going_on (cell_at t.cells (y - 1)) n ∷ []) done ts)
tail_later table ts own t i v x y n done bounded o some e =
    let b = and_parts (have_room own y ts n) (has_after table (cell_at t.cells (y - 1)).side n) e in
    let last = spot-last table t i v x y o.spot in
    let side : (cell_at t.cells (y - 1)).side ≡ later_side v.first (v.len - 1) = ap (λ (c : Cell). c.side) last in
    let has : has_after table (later_side v.first (v.len - 1)) n ≡ true = subst (λ (d : Side What). has_after table d n ≡ true) side b.1 in
    let room = own_room own y n ts t o.found b.0 in
    subst (λ (c : Cell). GoodAll table (shift_of false own y y (going_on c n ∷ []) done ts)) (sym last)
    (parts_shift table ts own t i v x y (record { own = own; x = y; y = y; new = Some (going_on (cell_in v (v.len - 1)) n); keep = false }) done o refl
    (on-parts table t i v (going_on (cell_in v (v.len - 1)) n) x y y n o.spot some (omega arith) o.spot.within (omega (arith, room, o.spot.within)) (goes-after table v.first v.len n bounded o.spot.filled has o.spot.lies) refl)
    (λ u is.
    subst (λ (w : TrackState). EndsApart w (min y (length w.cells)) (gap_views (y - length w.cells) ++ going_on (cell_in v (v.len - 1)) n ∷ [])) (sym is) (tail-ends table t i v x y n o.good o.spot some)))

tail_earlier : (table : Table) (ts : List TrackState) (own : ℕ) (t : TrackState) (i : ℕ) (v : ItemView) (x y n : ℕ) (done : Done) → Owned table ts own t i v x y → keeps_a_cell x y n ≡ true
    → GoodAll table (shift_of false own (y - n) y [] done ts)
tail_earlier table ts own t i v x y n done o keeps =
    let less : x + n < y = ltb-true (x + n) y keeps in
    parts_shift table ts own t i v x y (record { own = own; x = y - n; y = y; new = None; keep = false }) done o refl
    (none-parts table t (y - n) y o.good (omega arith) o.spot.within)
    (λ u is.
    (let same : length u.cells ≡ length t.cells = ap (λ (w : TrackState). length w.cells) is in
    ends-nothing u (min y (length u.cells)) (y - n - length u.cells) (omega (arith, same, o.spot.within))))

-- the delta used, on all named tracks

all_used : (table : Table) (ts : List TrackState) (moved : Done → ℤ → Applied) (allowed : ℤ → Bool) (by : ℤ) → All (IsGood table) ts
    → ((n : ℕ) (done : Done) → allowed (pos (suc n)) ≡ true → GoodAll table (moved done (pos (suc n))))
    → ((n : ℕ) (done : Done) → allowed (negsuc n) ≡ true → GoodAll table (moved done (negsuc n))) → GoodAll table (used_from ts moved (nearest allowed by))
all_used table ts moved allowed by good later earlier = at (nearest allowed by) (is-nearest allowed by).member where
  at : (d : ℤ) → (d ≡ pos 0) ⊎ (allowed d ≡ true) → GoodAll table (used_from ts moved d)
  at (pos zero) m = good
  at (pos (suc n)) (inl e) = absurd cc
  at (pos (suc n)) (inr e) = later n (By (pos (suc n))) e
  at (negsuc n) (inl e) = absurd cc
  at (negsuc n) (inr e) = earlier n (By (negsuc n)) e

end_good : (table : Table) (ts : List TrackState) (own : ℕ) (t : TrackState) (i : ℕ) (v : ItemView) (x y : ℕ) (end : End) (by : ℤ) → IsBounded table → Owned table ts own t i v x y
    → GoodAll table (ripple_end table own ts t end by x y)
end_good table ts own t i v x y Head by bounded o =
    all_used table ts (rippled own ts t x y Head) (ripple_allows table own ts t x y Head) by o.all
    (λ n done e. head_later table ts own t i v x y (suc n) done o e) (λ n done e. head_earlier table ts own t i v x y (suc n) done o (omega arith) e)
end_good table ts own t i v x y Tail by bounded o =
    all_used table ts (rippled own ts t x y Tail) (ripple_allows table own ts t x y Tail) by o.all
    (λ n done e. tail_later table ts own t i v x y (suc n) done bounded o (omega arith) e) (λ n done e. tail_earlier table ts own t i v x y (suc n) done o e)

own_ripple : (table : Table) (ts : List TrackState) (c : Ripple) (t : TrackState) → IsBounded table → numbers_of ts ≡ tracks_in c.tracks → All (IsGood table) ts → track_numbered c.track ts ≡ Some t
    → GoodAll table (ripple_own table c ts t)
own_ripple table ts c t bounded numbers good e = by (range_of t.cells c.item) refl where
  own : IsGood table t
  own = found-good table c.track ts t good e

  by : (o : Option (ℕ × ℕ)) → range_of t.cells c.item ≡ o → GoodAll table (on_range (ripple_end table c.track ts t c.end c.by) o)
  by None f = tt
  by (Some (x, y)) f =
      let s = found-spot table t c.item x y own f in
      end_good table ts c.track t s.index s.view x y c.end c.by bounded
      (record {
        all = good;
        good = own;
        spot = s.spot;
        found = e;
        number = is-numbered c.track ts t e;
        only = only-one c.track ts t (subst Rise (sym numbers) (tracks-rise c.tracks)) e;
      })

pub ripple-good : (table : Table) (c : Ripple) → KeepsGood table (tracks_in c.tracks) (λ named. ripple_named table named c)
ripple-good table c =
    all-good table (tracks_in c.tracks) (λ named. ripple_named table named c)
    (λ named bounded numbers good. for-good table c.track (ripple_own table c named) named (λ t e. own_ripple table named c t bounded numbers good e))
