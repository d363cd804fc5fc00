-- The shift that a ripple makes, on all named tracks.
use Rattle.std.proofs.Common.{◌≡◌, ℕ, zero, suc, ◌+◌, ◌-◌, ◌<◌, ◌≤◌, ◌^◌, List, [], ◌∷◌, All, length, Option, Some, None, Ok, refl, sym, ap, ◌∙◌, arith, subst, option_map, slice_get, false}
use Rattle.composables.specs.declared.calls.End.{End}
use Rattle.composables.specs.declared.calls.End.TheVariants.{Head, Tail}
use Rattle.composables.specs.declared.calls.Ripple.{Ripple}
use Rattle.composables.specs.declared.items.ItemView.{ItemView}
use Rattle.composables.specs.declared.items.Place.{Place}
use Rattle.composables.specs.declared.media.Table.{Table}
use Rattle.composables.specs.declared.TheConstants.{MAX_FRAMES}
use Rattle.composables.specs.Good.{IsGood}
use Rattle.composables.specs.Items.{cell_in, items_of}
use Rattle.composables.specs.OwnTracks.{track_numbered}
use Rattle.composables.specs.Places.{StandsAt}
use Rattle.composables.specs.Ranges.{on_range, range_of}
use Rattle.composables.specs.Roomy.{IsRoomy}
use Rattle.composables.specs.TrackState.{TrackState}
use Rattle.edit_delta.specs.declared.deltas.Way.{Way}
use Rattle.edit_delta.specs.declared.deltas.Way.TheVariants.{Earlier, Later, Still}
use Rattle.edit_delta.specs.Nearest.{AreUpTo}
use Rattle.edit_delta.specs.Parts.{AreParts, IsWhole}
use Rattle.edit_delta.specs.Reaching.{going_on, reaching_back}
use Rattle.edit_delta.proofs.Own.{IsNamed, named-holds}
use Rattle.edit_delta.proofs.Pieces.{after-of, before-of, on-parts}
use Rattle.edit_delta.proofs.Spots.{Spot, spot-at}
use Rattle.edit_splice.specs.declared.shifting.Shift.{Shift}
use Rattle.edit_splice.specs.Moves.{IsShiftOf}
use Rattle.link_groups.specs.LinkedShifts.{linked_shift}
use Rattle.edit_splice.specs.Padding.{new_views}
use Rattle.edit_splice.proofs.Bridging.{StaysMoved, for-found, only-one}
use Rattle.edit_trim.specs.declared.rippling.Rippled.{Rippled}
use Rattle.edit_trim.specs.Rippling.{have_room, ripple_end, ripple_named, ripple_own}
use Rattle.edit_trim.specs.RipplingInside.{EndFits, IsRippled, RipplesAmong, end_place, place_after, shift_by}
use Rattle.edit_trim.proofs.Ripples.{HasPlaces, head-used, head_means, still_means, tail-used, tail_means}
use Rattle.edit_trim.proofs.RippleTracks.{all-shift, all-stay, before-parts, none-parts, own-room, own-shift, own-stays}

-- what the shift puts in place of what it takes out of the own track
parts_of : (table : Table) (ts : List TrackState) (t : TrackState) (i j : ℕ) (v : ItemView) (p : Place) (room : ℕ) (c : Ripple) (r : Rippled) (s : Shift) (end : End) → IsGood table t → Spot table t j v p.from p.to
    → slice_get ts i ≡ Some t → t.number ≡ c.track → room < 2 ^ 32 → AreUpTo (have_room c.track (end_place end p) ts) room → IsRippled table end p v room c r → r.shift ≡ Some s
    → AreParts table t s.x s.y (new_views s.new)
parts_of table ts t i j v p room c r s Head good spot read number small has is some = by is.delta.way is.fits (sym is.shift ∙ some) where
  by : (w : Way) → EndFits table Head v room w → shift_by c.track Head p v w ≡ Some s → AreParts table t s.x s.y (new_views s.new)
  by Still f e = absurd cc
  by (Later n) f e =
      let m : Shift = record { own = c.track; x = p.from; y = p.from + n; new = None; keep = false } in
      let same : m ≡ s = cc in
      subst (λ (z : Shift). AreParts table t z.x z.y (new_views z.new)) same (none-parts table t p.from (p.from + n) good (omega arith) (omega (arith, f.1, spot.long, spot.within)))
  by (Earlier n) f e =
      let m : Shift = record { own = c.track; x = p.from; y = p.from; new = Some (reaching_back (cell_in v 0) n); keep = false } in
      let same : m ≡ s = cc in
      let free : length t.cells + n ≤ MAX_FRAMES = own-room c.track p.from n room ts i t has small f.1 read number in
      subst (λ (z : Shift). AreParts table t z.x z.y (new_views z.new)) same
      (before-parts table t j v (reaching_back (cell_in v 0) n) p.from p.to n spot f.0 free (before-of table v.first v.len n f.2 spot.source spot.lies) refl)
parts_of table ts t i j v p room c r s Tail good spot read number small has is some = by is.delta.way is.fits (sym is.shift ∙ some) where
  by : (w : Way) → EndFits table Tail v room w → shift_by c.track Tail p v w ≡ Some s → AreParts table t s.x s.y (new_views s.new)
  by Still f e = absurd cc
  by (Later n) f e =
      let m : Shift = record { own = c.track; x = p.to; y = p.to; new = Some (going_on (cell_in v (v.len - 1)) n); keep = false } in
      let same : m ≡ s = cc in
      let free : length t.cells + n ≤ MAX_FRAMES = own-room c.track p.to n room ts i t has small f.1 read number in
      subst (λ (z : Shift). AreParts table t z.x z.y (new_views z.new)) same
      (on-parts table t j v (going_on (cell_in v (v.len - 1)) n) p.from p.to p.to n spot f.0 (omega arith) spot.within (omega (arith, free, spot.within)) (after-of table v.first v.len n n spot.filled (omega arith) f.2 f.3 spot.lies) refl)
  by (Earlier n) f e =
      let m : Shift = record { own = c.track; x = p.to - n; y = p.to; new = None; keep = false } in
      let same : m ≡ s = cc in
      subst (λ (z : Shift). AreParts table t z.x z.y (new_views z.new)) same (none-parts table t (p.to - n) p.to good (omega arith) spot.within)

-- what is known where an item is rippled
pub record IsReady (table : Table) (ts : List TrackState) (i : ℕ) (t : TrackState) (v : ItemView) (c : Ripple) (p : Place) (r : Rippled) : Type 0 where
  pub good : All (IsGood table) ts
  pub own : IsNamed c.track i ts t
  pub spot : Spot table t p.index v p.from p.to
  pub range : range_of t.cells c.item ≡ Some (p.from, p.to)
  pub among : RipplesAmong table ts c p v r

pub own-good : (table : Table) (ts : List TrackState) (i : ℕ) (t : TrackState) (c : Ripple) → IsNamed c.track i ts t → All (IsGood table) ts → IsGood table t
own-good table ts i t c o g = named-holds (IsGood table) c.track i ts t o g

pub ready-parts : (table : Table) (ts : List TrackState) (i : ℕ) (t : TrackState) (v : ItemView) (c : Ripple) (p : Place) (r : Rippled) (s : Shift) → IsReady table ts i t v c p r → r.shift ≡ Some s
    → AreParts table t s.x s.y (new_views s.new)
ready-parts table ts i t v c p r s k some =
    parts_of table ts t i p.index v p k.among.room c r s c.end (own-good table ts i t c k.own k.good) k.spot k.own.read k.own.number k.among.small k.among.has k.among.is some

own_of : (table : Table) (end : End) (p : Place) (v : ItemView) (room : ℕ) (c : Ripple) (r : Rippled) (s : Shift) → IsRippled table end p v room c r → r.shift ≡ Some s → s.own ≡ c.track
own_of table end p v room c r s is some = by end is.delta.way (sym is.shift ∙ some) where
  by : (end : End) (w : Way) → shift_by c.track end p v w ≡ Some s → s.own ≡ c.track
  by Head Still e = absurd cc
  by Head (Later n) e = cc
  by Head (Earlier n) e = cc
  by Tail Still e = absurd cc
  by Tail (Later n) e = cc
  by Tail (Earlier n) e = cc

ready_own : (table : Table) (ts : List TrackState) (i : ℕ) (t : TrackState) (v : ItemView) (c : Ripple) (p : Place) (r : Rippled) (s : Shift) → IsReady table ts i t v c p r → r.shift ≡ Some s → s.own ≡ c.track
ready_own table ts i t v c p r s k some = own_of table c.end p v k.among.room c r s k.among.is some

ready_only : (table : Table) (ts : List TrackState) (i : ℕ) (t : TrackState) (v : ItemView) (c : Ripple) (p : Place) (r : Rippled) → IsReady table ts i t v c p r → All (λ (u : TrackState). u.number ≡ c.track → u ≡ t) ts
ready_only table ts i t v c p r k = only-one c.track ts t k.own.rises k.own.found

pub ready-order : (table : Table) (ts : List TrackState) (i : ℕ) (t : TrackState) (v : ItemView) (c : Ripple) (p : Place) (r : Rippled) (s : Shift) → IsReady table ts i t v c p r → r.shift ≡ Some s → s.x ≤ s.y
ready-order table ts i t v c p r s k some = (ready-parts table ts i t v c p r s k some).order

pub ready-fits : (table : Table) (ts : List TrackState) (i : ℕ) (t : TrackState) (v : ItemView) (c : Ripple) (p : Place) (r : Rippled) (s : Shift) → IsReady table ts i t v c p r → All (λ (t : TrackState). IsRoomy t) ts
    → r.shift ≡ Some s → All (λ (u : TrackState). IsShiftOf s u) ts
ready-fits table ts i t v c p r s k roomy some =
    let own = ready_own table ts i t v c p r s k some in
    all-shift table s ts t k.good roomy (subst (λ (n : ℕ). All (λ (u : TrackState). u.number ≡ n → u ≡ t) ts) (sym own) (ready_only table ts i t v c p r k))
    (own-shift table s t (own-good table ts i t c k.own k.good) (named-holds (λ (t : TrackState). IsRoomy t) c.track i ts t k.own roomy) (k.own.number ∙ sym own) (ready-parts table ts i t v c p r s k some))

pub ready-stays : (table : Table) (ts : List TrackState) (i : ℕ) (t : TrackState) (v : ItemView) (c : Ripple) (p : Place) (r : Rippled) (s : Shift) → IsReady table ts i t v c p r → r.shift ≡ Some s → All (StaysMoved table s) ts
ready-stays table ts i t v c p r s k some =
    let own = ready_own table ts i t v c p r s k some in
    all-stay table s ts t (ready-order table ts i t v c p r s k some) k.good (subst (λ (n : ℕ). All (λ (u : TrackState). u.number ≡ n → u ≡ t) ts) (sym own) (ready_only table ts i t v c p r k))
    (own-stays table s t (own-good table ts i t c k.own k.good) (k.own.number ∙ sym own) (ready-parts table ts i t v c p r s k some))

-- what the ripple means is that shift
means_end : (table : Table) (ts : List TrackState) (i : ℕ) (t : TrackState) (v : ItemView) (c : Ripple) (p : Place) (r : Rippled) → IsReady table ts i t v c p r
    → ripple_named table ts c ≡ ripple_end table c.track ts t c.end c.by p.from p.to
means_end table ts i t v c p r k =
    for-found c.track (ripple_own table c ts) ts t k.own.found ∙ ap (on_range (ripple_end table c.track ts t c.end c.by)) k.range

ready_places : (table : Table) (ts : List TrackState) (i : ℕ) (t : TrackState) (v : ItemView) (c : Ripple) (p : Place) (r : Rippled) → IsReady table ts i t v c p r → HasPlaces c.track p.to ts
ready_places table ts i t v c p r k n d lt e =
    let same = ready_only table ts i t v c p r k n d lt e in
    omega (arith, k.spot.within, ap (λ (u : TrackState). length u.cells) same)

end_some : (table : Table) (ts : List TrackState) (t : TrackState) (v : ItemView) (p : Place) (room : ℕ) (c : Ripple) (r : Rippled) (s : Shift) (end : End) → Spot table t p.index v p.from p.to
    → AreUpTo (have_room c.track (end_place end p) ts) room → IsRippled table end p v room c r → All (IsGood table) ts → IsGood table t → All (λ (u : TrackState). u.number ≡ c.track → u ≡ t) ts → All (λ (u : TrackState). IsShiftOf s u) ts
    → track_numbered t.number ts ≡ Some t → HasPlaces c.track p.to ts → r.shift ≡ Some s → ripple_end table c.track ts t end c.by p.from p.to ≡ linked_shift s (place_after end s) r.done ts
end_some table ts t v p room c r s Head spot has is good own only fits found places some =
    head_means table ts t p.index v p room c r s spot is (head-used table ts t p.index v p room c r spot has is) found good own only fits places some
end_some table ts t v p room c r s Tail spot has is good own only fits found places some =
    tail_means table ts t p.index v p room c r s spot is (tail-used table ts t p.index v p room c r spot has is) good own only fits places some

end_none : (table : Table) (ts : List TrackState) (t : TrackState) (v : ItemView) (p : Place) (room : ℕ) (c : Ripple) (r : Rippled) (end : End) → Spot table t p.index v p.from p.to
    → AreUpTo (have_room c.track (end_place end p) ts) room → IsRippled table end p v room c r → r.shift ≡ None → ripple_end table c.track ts t end c.by p.from p.to ≡ Ok (ts, r.done)
end_none table ts t v p room c r Head spot has is none =
    still_means table ts t Head p v room c r is (head-used table ts t p.index v p room c r spot has is) none
end_none table ts t v p room c r Tail spot has is none =
    still_means table ts t Tail p v room c r is (tail-used table ts t p.index v p room c r spot has is) none

pub ready-some : (table : Table) (ts : List TrackState) (i : ℕ) (t : TrackState) (v : ItemView) (c : Ripple) (p : Place) (r : Rippled) (s : Shift) → IsReady table ts i t v c p r → All (λ (t : TrackState). IsRoomy t) ts → r.shift ≡ Some s
    → ripple_named table ts c ≡ linked_shift s (place_after c.end s) r.done ts
ready-some table ts i t v c p r s k roomy some =
    means_end table ts i t v c p r k
    ∙ end_some table ts t v p k.among.room c r s c.end k.spot k.among.has k.among.is k.good (own-good table ts i t c k.own k.good) (ready_only table ts i t v c p r k) (ready-fits table ts i t v c p r s k roomy some)
    (ap (λ (n : ℕ). track_numbered n ts) k.own.number ∙ k.own.found) (ready_places table ts i t v c p r k) some

pub ready-none : (table : Table) (ts : List TrackState) (i : ℕ) (t : TrackState) (v : ItemView) (c : Ripple) (p : Place) (r : Rippled) → IsReady table ts i t v c p r → r.shift ≡ None → ripple_named table ts c ≡ Ok (ts, r.done)
ready-none table ts i t v c p r k none =
    means_end table ts i t v c p r k ∙ end_none table ts t v p k.among.room c r c.end k.spot k.among.has k.among.is none

-- the facts at a place that was found
pub ready-at : (table : Table) (ts : List TrackState) (i : ℕ) (t : TrackState) (v : ItemView) (c : Ripple) (p : Place) (r : Rippled) (found : Option Place) → All (IsGood table) ts → IsNamed c.track i ts t
    → StandsAt (items_of t.cells) p → slice_get (items_of t.cells) p.index ≡ Some v → range_of t.cells c.item ≡ option_map (λ (p : Place). (p.from, p.to)) found → found ≡ Some p
    → RipplesAmong table ts c p v r → IsReady table ts i t v c p r
ready-at table ts i t v c p r found good own stands read range is among = record {
  good = good;
  own = own;
  spot = spot-at table t p v (own-good table ts i t c own good) stands read;
  range = range ∙ ap (option_map (λ (p : Place). (p.from, p.to))) is;
  among = among;
}

-- an item at a place is whole
pub whole-at : (table : Table) (t : TrackState) (p : Place) (v : ItemView) → IsGood table t → StandsAt (items_of t.cells) p → slice_get (items_of t.cells) p.index ≡ Some v → IsWhole table v
whole-at table t p v good stands read = let s = spot-at table t p v good stands read in record { filled = s.filled; lies = s.lies; source = s.source }

-- a place that was found has an item
pub item-there : (t : TrackState) (p : Place) → StandsAt (items_of t.cells) p → slice_get (items_of t.cells) p.index ≡ None → ⊥
item-there t p stands none = by (items_of t.cells) p.index stands.index none where
  by : (vs : List ItemView) (k : ℕ) → k < length vs → slice_get vs k ≡ None → ⊥
  by [] k h e = omega (arith, h)
  by (w ∷ ws) zero h e = cc
  by (w ∷ ws) (suc k) h e = by ws k (omega (arith, h)) e
