-- What a slip of an item at its place means, and the source frames that it shows after it.
use Rattle.std.proofs.Common.{◌≡◌, ℕ, zero, suc, ◌+◌, ◌-◌, ◌<◌, ◌≤◌, ◌^◌, Bool, true, List, [], ◌∷◌, length, ℤ, Option, Some, None, IfSome, Ok, slice_get, take, refl, sym, ap, ◌∙◌, arith, subst, w32, to_z, of_z, SFits}
use Rattle.std.proofs.lemmas.Bool.{leb-true, ltb-true}
use Rattle.std.proofs.lemmas.List.{take_all}
use Rattle.std.proofs.lemmas.Option.{slice_get_within}
use Rattle.frame_meaning.specs.declared.cells.What.{What}
use Rattle.frame_meaning.specs.declared.cells.Mark.{Mark}
use Rattle.frame_meaning.specs.declared.cells.Cell.{Cell}
use Rattle.frame_meaning.specs.declared.frames.Side.{Side}
use Rattle.frame_meaning.specs.declared.frames.Side.TheVariants.{Dark, Pic}
use Rattle.frame_meaning.specs.Cells.{later_side}
use Rattle.frame_meaning.specs.Render.{cell_at}
use Rattle.composables.specs.declared.items.ItemView.{ItemView}
use Rattle.composables.specs.declared.items.Place.{Place}
use Rattle.composables.specs.declared.media.Table.{Table}
use Rattle.composables.specs.declared.refusals.Done.{Done}
use Rattle.composables.specs.Bounds.{bounds_of}
use Rattle.composables.specs.Changes.{changed_track, side_from, with_source}
use Rattle.composables.specs.Good.{EachLiesIn, IsGood, LiesIn, SideLiesIn}
use Rattle.composables.specs.Items.{cell_in, items_of}
use Rattle.composables.specs.Joined.{frames_in}
use Rattle.composables.specs.Limits.{track_within_limits}
use Rattle.composables.specs.Places.{StandsAt}
use Rattle.composables.specs.Ranges.{HasNumber}
use Rattle.composables.specs.TrackFacts.{EachHolds, HasSource, ShowsAsItem, first_mark, left_reach, right_reach}
use Rattle.composables.specs.TrackState.{TrackState}
use Rattle.edit_delta.specs.declared.deltas.Used.{Used}
use Rattle.edit_delta.specs.declared.deltas.Way.TheVariants.{Earlier, Later, Still}
use Rattle.edit_delta.specs.Nearest.{AreUpTo, lies_within, nearest}
use Rattle.edit_delta.specs.Reaching.{has_after_in, has_before_in}
use Rattle.edit_delta.specs.Using.{IsUsed}
use Rattle.edit_delta.proofs.Answered.{IsUsedOf, earlier-means, later-means, still-means, used-of}
use Rattle.edit_delta.proofs.Pieces.{up-true}
use Rattle.edit_delta.proofs.Spots.{Spot, length-frames, side-head, spot-at, spot-head, spot-last, spot-of}
use Rattle.edit_splice.proofs.Limits.{within-few}
use Rattle.edit_trim.specs.Slipping.{mark_of, may_slip_earlier, may_slip_later, shows_from, slip_range, slipped_by}
use Rattle.edit_trim.proofs.Beside.{beyond, none-past, there-of}
use Rattle.edit_trim.proofs.Slips.{Reaches, sourced-good, sourced-slipped}

-- with what the dissolves at its ends show past it, an item lies in the range of its thing
pub lies-ends : (table : Table) (vs : List ItemView) (i : ℕ) (v : ItemView) → slice_get vs i ≡ Some v → EachLiesIn table vs
    → SideLiesIn table v.first v.len (left_reach v.mark) (right_reach (mark_of (slice_get vs (suc i))))
lies-ends table [] i v e h = absurd (omega (arith, slice_get_within [] i v e))
lies-ends table (w ∷ ws) zero v e h =
    let same : w ≡ v = cc in
    subst (λ (u : ItemView). SideLiesIn table u.first u.len (left_reach u.mark) (right_reach (mark_of (slice_get ws 0)))) same
    (subst (λ (m : Option Mark). SideLiesIn table w.first w.len (left_reach w.mark) (right_reach m)) (first_is ws) h.0) where
      first_is : (us : List ItemView) → first_mark us ≡ mark_of (slice_get us 0)
      first_is [] = refl
      first_is (u ∷ us) = refl
lies-ends table (w ∷ ws) (suc i) v e h = lies-ends table ws i v e h.1

pub source-ends : (vs : List ItemView) (i : ℕ) (v : ItemView) → slice_get vs i ≡ Some v → EachHolds vs → HasSource v.first v.len (left_reach v.mark) (right_reach (mark_of (slice_get vs (suc i))))
source-ends [] i v e h = absurd (omega (arith, slice_get_within [] i v e))
source-ends (w ∷ ws) zero v e h =
    let same : w ≡ v = cc in
    subst (λ (u : ItemView). HasSource u.first u.len (left_reach u.mark) (right_reach (mark_of (slice_get ws 0)))) same
    (subst (λ (m : Option Mark). HasSource w.first w.len (left_reach w.mark) (right_reach m)) (first_is ws) h.0.source) where
      first_is : (us : List ItemView) → first_mark us ≡ mark_of (slice_get us 0)
      first_is [] = refl
      first_is (u ∷ us) = refl
source-ends (w ∷ ws) (suc i) v e h = source-ends ws i v e h.1

-- the mark behind an item
mark_behind : (table : Table) (t : TrackState) (p : Place) (o : Option ItemView) → IsGood table t → StandsAt (items_of t.cells) p → slice_get (items_of t.cells) (p.index + 1) ≡ o
    → (cell_at t.cells p.to).mark ≡ mark_of o
mark_behind table t p (Some w) good stands e =
    let s = spot-of table t (p.index + 1) w p.to (p.to + w.len) good e stands.to (after_it w e) in
    ap (λ (c : Cell). c.mark) (spot-head table t (p.index + 1) w p.to (p.to + w.len) s) where
      after_it : (w : ItemView) → slice_get (items_of t.cells) (p.index + 1) ≡ Some w → p.to + w.len ≡ frames_in (take (p.index + 1 + 1) (items_of t.cells))
      after_it w e = (there-of t (p.index + 1) w p.to e stands.to).stops
mark_behind table t p None good stands e =
    let end : length t.cells ≡ p.to = length-frames t good.kept ∙ sym (stands.to ∙ ap frames_in (take_all (p.index + 1) (items_of t.cells) (none-past (items_of t.cells) (p.index + 1) e))) in
    ap (λ (c : Cell). c.mark) (beyond t.cells p.to (omega (arith, end)))

-- the item at its place, the thing that it shows from the source frame s on, and the dissolve at its tail
pub record Ready (table : Table) (t : TrackState) (p : Place) (v : ItemView) (s : ℕ) (tail : Option Mark) : Type 0 where
  pub spot : Spot table t p.index v p.from p.to
  pub what : What
  pub first : v.first ≡ Pic what s
  pub tail_is : tail ≡ mark_of (slice_get (items_of t.cells) (suc p.index))
  pub behind : (cell_at t.cells p.to).mark ≡ tail
  pub lies : SideLiesIn table v.first v.len (left_reach v.mark) (right_reach tail)
  pub source : HasSource v.first v.len (left_reach v.mark) (right_reach tail)

first_of : (d : Side What) (s : ℕ) → shows_from d s → (w : What) × (d ≡ Pic w s)
first_of Dark s h = absurd h
first_of (Pic w k) s h = (w, ap (Pic w) h)

pub ready : (table : Table) (t : TrackState) (p : Place) (v : ItemView) (s : ℕ) (tail : Option Mark) → IsGood table t → StandsAt (items_of t.cells) p → slice_get (items_of t.cells) p.index ≡ Some v → shows_from v.first s
    → tail ≡ mark_of (slice_get (items_of t.cells) (p.index + 1)) → Ready table t p v s tail
ready table t p v s tail good stands read shows is =
    let vs = items_of t.cells in
    let next : p.index + 1 ≡ suc p.index = omega arith in
    let here : tail ≡ mark_of (slice_get vs (suc p.index)) = is ∙ ap (λ (k : ℕ). mark_of (slice_get vs k)) next in
    record {
      spot = spot-at table t p v good stands read;
      what = (first_of v.first s shows).0;
      first = (first_of v.first s shows).1;
      tail_is = here;
      behind = mark_behind table t p (slice_get vs (p.index + 1)) good stands refl ∙ sym is;
      lies = subst (λ (m : Option Mark). SideLiesIn table v.first v.len (left_reach v.mark) (right_reach m)) (sym here) (lies-ends table vs p.index v read good.ranges);
      source = subst (λ (m : Option Mark). HasSource v.first v.len (left_reach v.mark) (right_reach m)) (sym here) (source-ends vs p.index v read good.kept.each);
    }

pub less-lies : (table : Table) (d : Side What) (len a b c e : ℕ) → c ≤ a → e ≤ b → SideLiesIn table d len a b → SideLiesIn table d len c e
less-lies table Dark len a b c e f g h = tt
less-lies table (Pic w s) len a b c e f g h = by (bounds_of table w) h where
  by : (o : Option (ℕ × ℕ)) → LiesIn o s len a b → LiesIn o s len c e
  by None h = absurd h
  by (Some r) h = (omega (arith, h.0, f), omega (arith, h.1, g))

pub lies-head : (table : Table) (t : TrackState) (p : Place) (v : ItemView) (s : ℕ) (tail : Option Mark) → Ready table t p v s tail → SideLiesIn table v.first v.len (left_reach v.mark) 0
lies-head table t p v s tail r = less-lies table v.first v.len (left_reach v.mark) (right_reach tail) (left_reach v.mark) 0 (omega arith) (omega arith) r.lies

pub lies-tail : (table : Table) (t : TrackState) (p : Place) (v : ItemView) (s : ℕ) (tail : Option Mark) → Ready table t p v s tail → SideLiesIn table v.first v.len 0 (right_reach tail)
lies-tail table t p v s tail r = less-lies table v.first v.len (left_reach v.mark) (right_reach tail) 0 (right_reach tail) (omega arith) (omega arith) r.lies

pub less-source : (d : Side What) (len a b : ℕ) → HasSource d len a b → HasSource d len 0 b
less-source Dark len a b h = tt
less-source (Pic w s) len a b h = (omega arith, h.1)

pub source-tail : (table : Table) (t : TrackState) (p : Place) (v : ItemView) (s : ℕ) (tail : Option Mark) → Ready table t p v s tail → HasSource v.first v.len 0 (right_reach tail)
source-tail table t p v s tail r = less-source v.first v.len (left_reach v.mark) (right_reach tail) r.source

-- its new source frames
pub record Fits (table : Table) (v : ItemView) (k : ℕ) (tail : Option Mark) : Type 0 where
  pub reaches : Reaches table v k tail
  pub small : k < 2 ^ 32

fits_of : (table : Table) (v : ItemView) (w : What) (s k : ℕ) (tail : Option Mark) → v.first ≡ Pic w s → 0 < v.len → LiesIn (bounds_of table w) k v.len (left_reach v.mark) (right_reach tail) → left_reach v.mark ≤ k
    → k + v.len + right_reach tail ≤ 2 ^ 32 → Fits table v k tail
fits_of table v w s k tail e filled lies before after = record {
  reaches = record {
    source = subst (λ (d : Side What). HasSource (side_from d k) v.len (left_reach v.mark) (right_reach tail)) (sym e) (before, after);
    lies = subst (λ (d : Side What). SideLiesIn table (side_from d k) v.len (left_reach v.mark) (right_reach tail)) (sym e) lies;
  };
  small = omega (arith, after, filled);
}

pub later-fits : (table : Table) (t : TrackState) (p : Place) (v : ItemView) (s : ℕ) (tail : Option Mark) (room n : ℕ) → Ready table t p v s tail
    → AreUpTo (may_slip_later table (later_side v.first (v.len - 1)) tail) room → HasSource v.first v.len 0 (right_reach tail + room) → room < 2 ^ 32 → n ≤ room → Fits table v (s + n) tail
later-fits table t p v s tail room n r up numbered small le = fits_of table v r.what s (s + n) tail r.first r.spot.filled lies before after where
  may : may_slip_later table (Pic r.what (s + (v.len - 1))) tail n ≡ true
  may =
      subst (λ (d : Side What). may_slip_later table (later_side d (v.len - 1)) tail n ≡ true) r.first
      (up-true (may_slip_later table (later_side v.first (v.len - 1)) tail) room n up le small)

  old : LiesIn (bounds_of table r.what) s v.len (left_reach v.mark) (right_reach tail)
  old = subst (λ (d : Side What). SideLiesIn table d v.len (left_reach v.mark) (right_reach tail)) r.first r.lies

  shifted : (o : Option (ℕ × ℕ)) → has_after_in o (s + (v.len - 1)) (right_reach tail + n) ≡ true → LiesIn o s v.len (left_reach v.mark) (right_reach tail) → LiesIn o (s + n) v.len (left_reach v.mark) (right_reach tail)
  shifted None e h = absurd h
  shifted (Some q) e h =
      let lt : s + (v.len - 1) + (right_reach tail + n) < q.1 = ltb-true (s + (v.len - 1) + (right_reach tail + n)) q.1 e in
      (omega (arith, h.0), omega (arith, lt, r.spot.filled))

  lies : LiesIn (bounds_of table r.what) (s + n) v.len (left_reach v.mark) (right_reach tail)
  lies = shifted (bounds_of table r.what) may old

  source : HasSource (Pic r.what s) v.len (left_reach v.mark) (right_reach tail)
  source = subst (λ (d : Side What). HasSource d v.len (left_reach v.mark) (right_reach tail)) r.first r.source

  numbers : HasSource (Pic r.what s) v.len 0 (right_reach tail + room)
  numbers = subst (λ (d : Side What). HasSource d v.len 0 (right_reach tail + room)) r.first numbered

  before : left_reach v.mark ≤ s + n
  before = omega (arith, source.0)

  after : s + n + v.len + right_reach tail ≤ 2 ^ 32
  after = omega (arith, numbers.1, le)

pub earlier-fits : (table : Table) (t : TrackState) (p : Place) (v : ItemView) (s : ℕ) (tail : Option Mark) (room n : ℕ) → Ready table t p v s tail
    → AreUpTo (may_slip_earlier table v.first v.mark) room → room < 2 ^ 32 → n ≤ room → Fits table v (s - n) tail × (n ≤ s)
earlier-fits table t p v s tail room n r up small le = (fits_of table v r.what s (s - n) tail r.first r.spot.filled (lies.0) (omega (arith, lies.1)) after, omega (arith, lies.1)) where
  may : may_slip_earlier table (Pic r.what s) v.mark n ≡ true
  may =
      subst (λ (d : Side What). may_slip_earlier table d v.mark n ≡ true) r.first
      (up-true (may_slip_earlier table v.first v.mark) room n up le small)

  old : LiesIn (bounds_of table r.what) s v.len (left_reach v.mark) (right_reach tail)
  old = subst (λ (d : Side What). SideLiesIn table d v.len (left_reach v.mark) (right_reach tail)) r.first r.lies

  shifted : (o : Option (ℕ × ℕ)) → has_before_in o s (left_reach v.mark + n) ≡ true → LiesIn o s v.len (left_reach v.mark) (right_reach tail)
      → LiesIn o (s - n) v.len (left_reach v.mark) (right_reach tail) × (left_reach v.mark + n ≤ s)
  shifted None e h = absurd h
  shifted (Some q) e h =
      let le : q.0 + (left_reach v.mark + n) ≤ s = leb-true (q.0 + (left_reach v.mark + n)) s e in
      ((omega (arith, le), omega (arith, h.1)), omega (arith, le))

  lies : LiesIn (bounds_of table r.what) (s - n) v.len (left_reach v.mark) (right_reach tail) × (left_reach v.mark + n ≤ s)
  lies = shifted (bounds_of table r.what) may old

  source : HasSource (Pic r.what s) v.len (left_reach v.mark) (right_reach tail)
  source = subst (λ (d : Side What). HasSource d v.len (left_reach v.mark) (right_reach tail)) r.first r.source

  after : s - n + v.len + right_reach tail ≤ 2 ^ 32
  after = omega (arith, source.1)

-- the delta used
abbrev pub later_of : Table → TrackState → Place → ℕ → Bool
later_of table t p = may_slip_later table (cell_at t.cells (p.to - 1)).side (cell_at t.cells p.to).mark

abbrev pub earlier_of : Table → TrackState → Place → ℕ → Bool
earlier_of table t p = may_slip_earlier table (cell_at t.cells p.from).side (cell_at t.cells p.from).mark

pub slip-used : (table : Table) (t : TrackState) (p : Place) (v : ItemView) (s : ℕ) (tail : Option Mark) (e l : ℕ) (by : ℤ) (u : Used) → Ready table t p v s tail → SFits w32 by
    → AreUpTo (may_slip_earlier table v.first v.mark) e → AreUpTo (may_slip_later table (later_side v.first (v.len - 1)) tail) l → IsUsed (nearest (lies_within e l) (to_z w32 (of_z w32 by))) u
    → IsUsedOf (later_of table t p) (earlier_of table t p) by u
slip-used table t p v s tail e l by u r fits up down is = used-of (later_of table t p) (earlier_of table t p) e l by u fits later earlier is where
  head : cell_at t.cells p.from ≡ cell_in v 0
  head = spot-head table t p.index v p.from p.to r.spot

  last : cell_at t.cells (p.to - 1) ≡ cell_in v (v.len - 1)
  last = spot-last table t p.index v p.from p.to r.spot

  side : (cell_at t.cells p.from).side ≡ v.first
  side = ap (λ (c : Cell). c.side) head ∙ side-head v

  mark : (cell_at t.cells p.from).mark ≡ v.mark
  mark = ap (λ (c : Cell). c.mark) head

  later : AreUpTo (later_of table t p) l
  later =
      subst (λ (d : Side What). AreUpTo (may_slip_later table d (cell_at t.cells p.to).mark) l) (sym (ap (λ (c : Cell). c.side) last))
      (subst (λ (m : Option Mark). AreUpTo (may_slip_later table (later_side v.first (v.len - 1)) m) l) (sym r.behind) down)

  earlier : AreUpTo (earlier_of table t p) e
  earlier =
      subst (λ (d : Side What). AreUpTo (may_slip_earlier table d (cell_at t.cells p.from).mark) e) (sym side)
      (subst (λ (m : Option Mark). AreUpTo (may_slip_earlier table v.first m) e) (sym mark) up)

-- what is meant by it
abbrev to_later : TrackState → Place → ℕ → TrackState
to_later t p n = slipped_by t p.from p.to n 0

abbrev to_earlier : TrackState → Place → ℕ → TrackState
to_earlier t p n = slipped_by t p.from p.to 0 n

pub slip-still : (table : Table) (t : TrackState) (p : Place) (by : ℤ) (u : Used) → IsUsedOf (later_of table t p) (earlier_of table t p) by u → u.way ≡ Still → slip_range table t by p.from p.to ≡ Ok (t, u.done)
slip-still table t p by u is way = still-means t (to_later t p) (to_earlier t p) (later_of table t p) (earlier_of table t p) by u is way

placed : (table : Table) (t m new : TrackState) (i k : ℕ) (v : ItemView) (done : Done) (tail : Option Mark) → IsGood table t → slice_get (items_of t.cells) i ≡ Some v → tail ≡ mark_of (slice_get (items_of t.cells) (suc i)) → Fits table v k tail
    → changed_track t i (with_source k) ≡ m → new ≡ changed_track t i (with_source k) → track_within_limits m done ≡ Ok (new, done)
placed table t m new i k v done tail g read is f same e =
    let good = sourced-good table t i k v g read (subst (Reaches table v k) is f.reaches) in
    ap (λ (z : TrackState). track_within_limits z done) (sym same)
    ∙ (within-few (changed_track t i (with_source k)) done good.frames good.items ∙ ap (λ (z : TrackState). Ok (z, done)) (sym e))

pub slip-later : (table : Table) (t new : TrackState) (p : Place) (v : ItemView) (s n : ℕ) (tail : Option Mark) (by : ℤ) (u : Used) → IsGood table t → Ready table t p v s tail → IsUsedOf (later_of table t p) (earlier_of table t p) by u
    → u.way ≡ Later n → Fits table v (s + n) tail → new ≡ changed_track t p.index (with_source (s + n)) → slip_range table t by p.from p.to ≡ Ok (new, u.done)
slip-later table t new p v s n tail by u g r is way f e =
    let on : s + n ≡ s + n - 0 = omega arith in
    later-means t (to_later t p) (to_earlier t p) (later_of table t p) (earlier_of table t p) n by u is way
    ∙ placed table t (to_later t p n) new p.index (s + n) v u.done tail g r.spot.read r.tail_is f
    (sourced-slipped t p.index p.from p.to s n 0 (s + n) r.what v g.kept r.spot.read r.spot.starts r.spot.long r.first (omega arith) on) e

pub slip-earlier : (table : Table) (t new : TrackState) (p : Place) (v : ItemView) (s n : ℕ) (tail : Option Mark) (by : ℤ) (u : Used) → IsGood table t → Ready table t p v s tail → IsUsedOf (later_of table t p) (earlier_of table t p) by u
    → u.way ≡ Earlier n → Fits table v (s - n) tail × (n ≤ s) → new ≡ changed_track t p.index (with_source (s - n)) → slip_range table t by p.from p.to ≡ Ok (new, u.done)
slip-earlier table t new p v s n tail by u g r is way f e =
    let on : s - n ≡ s + 0 - n = omega arith in
    earlier-means t (to_later t p) (to_earlier t p) (later_of table t p) (earlier_of table t p) n by u is way
    ∙ placed table t (to_earlier t p n) new p.index (s - n) v u.done tail g r.spot.read r.tail_is f.0
    (sourced-slipped t p.index p.from p.to s 0 n (s - n) r.what v g.kept r.spot.read r.spot.starts r.spot.long r.first f.1 on) e

-- an item is no gap
shows_at : (vs : List ItemView) (i : ℕ) (v : ItemView) → slice_get vs i ≡ Some v → EachHolds vs → ShowsAsItem v.item v.first v.link
shows_at [] i v e h = absurd (omega (arith, slice_get_within [] i v e))
shows_at (w ∷ ws) zero v e h = let same : w ≡ v = cc in subst (λ (u : ItemView). ShowsAsItem u.item u.first u.link) same h.0.shows
shows_at (w ∷ ws) (suc i) v e h = shows_at ws i v e h.1

pub no-dark : (table : Table) (t : TrackState) (i n : ℕ) (v : ItemView) → IsGood table t → slice_get (items_of t.cells) i ≡ Some v → HasNumber (items_of t.cells) i n → v.first ≡ Dark → ⊥
no-dark table t i n v good read number dark =
    let is : v.item ≡ Some n = subst (λ (o : Option ItemView). IfSome o (λ u. u.item ≡ Some n)) read number in
    subst (λ (d : Side What). ShowsAsItem (Some n) d v.link) dark (subst (λ (o : Option ℕ). ShowsAsItem o v.first v.link) is (shows_at (items_of t.cells) i v read good.kept.each))
