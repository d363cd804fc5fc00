-- A slip leaves good tracks, of an item alone and of all that has its link.
use Rattle.std.proofs.Common.{◌≡◌, ℕ, suc, ◌+◌, ◌-◌, ◌<◌, ◌≤◌, ◌^◌, ◌⊎◌, inl, inr, ℤ, pos, negsuc, Bool, true, false, cond, ◌&&◌, List, [], ◌∷◌, All, map, Option, Some, None, IfSome, slice_get, refl, sym, ap, ◌∙◌, arith, subst}
use Rattle.std.proofs.lemmas.Bool.{and_parts, ltb-true}
use Rattle.std.proofs.lemmas.Option.{slice_get_within}
use Rattle.frame_meaning.specs.declared.cells.Cell.{Cell}
use Rattle.frame_meaning.specs.declared.cells.Link.{Link}
use Rattle.frame_meaning.specs.declared.cells.Mark.{Mark}
use Rattle.frame_meaning.specs.declared.cells.What.{What}
use Rattle.frame_meaning.specs.declared.frames.Side.{Side}
use Rattle.frame_meaning.specs.declared.frames.Side.TheVariants.{Dark, Pic}
use Rattle.frame_meaning.specs.Cells.{later_side}
use Rattle.frame_meaning.specs.Render.{cell_at, moved}
use Rattle.composables.specs.declared.calls.Slip.{Slip}
use Rattle.composables.specs.declared.items.ItemView.{ItemView}
use Rattle.composables.specs.declared.items.Place.{Place}
use Rattle.composables.specs.declared.media.Table.{Table}
use Rattle.composables.specs.Bounds.{bounds_of}
use Rattle.composables.specs.Changes.{side_from}
use Rattle.composables.specs.Good.{EachLiesIn, IsGood, LiesIn, SideLiesIn}
use Rattle.composables.specs.Items.{items_of}
use Rattle.composables.specs.Links.{outside_refusal}
use Rattle.composables.specs.Places.{StandsAt}
use Rattle.composables.specs.TrackFacts.{EachHolds, HasSource, first_mark, left_reach, right_reach}
use Rattle.composables.specs.TrackSets.{tracks_in}
use Rattle.composables.specs.TrackState.{TrackState}
use Rattle.edit_delta.specs.Nearest.{nearest}
use Rattle.edit_delta.specs.Reaching.{has_after, has_after_in}
use Rattle.edit_delta.proofs.Greatest.{is-nearest}
use Rattle.edit_delta.proofs.Spots.{side-head, spot-head, spot-last}
use Rattle.edit_splice.proofs.Standing.{all_head, all_tail, each-good}
use Rattle.edit_trim.specs.LinkedSlips.{AllMove, EachMoves, ReachesBack, ShowsMoved}
use Rattle.edit_trim.specs.Slipping.{each_linked, each_linked_on, item_may_slip_earlier, item_may_slip_later, link_allows, mark_of, may_slip_earlier, may_slip_later, shows_from, slip_allows, slip_link, slip_link_by, slip_named, slip_own, slip_range, slip_track, slip_with, slipped, slipped_by, track_moved}
use Rattle.edit_trim.proofs.LinkedMoves.{all-stay}
use Rattle.edit_trim.proofs.LinkedRooms.{Shows, shows-earlier, shows-moved}
use Rattle.edit_trim.proofs.Slipped.{Ready, no-dark, ready}
use Rattle.edit_trim.proofs.Slips.{Reaches, sourced-good, sourced-slipped}
use Rattle.link_groups.specs.ItemLinks.{carries, link_of}
use Rattle.track_laws.specs.Goods.{IsBounded, KeepsGood}
use Rattle.track_laws.proofs.Own.{found-good}
use Rattle.track_laws.proofs.DeltaSteps.{GoodAll, GoodOne, SpotOf, all-good, among-good, for-good, range-good, unless-good, used-good}

-- an item that shows its thing later, earlier, and as it did

shows_later : (table : Table) (d : Side What) (len a b n : ℕ) → IsBounded table → 0 < len → SideLiesIn table d len a b → HasSource d len a b
    → has_after table (later_side d (len - 1)) (b + n) ≡ true → Shows table d len a b n 0
shows_later table Dark len a b n bounded f l k e = (tt, tt, tt)
shows_later table (Pic w s) len a b n bounded f l k e = by (bounds_of table w) (bounded w) e l where
  by : (o : Option (ℕ × ℕ)) → IfSome o (λ range. range.1 ≤ 2 ^ 32) → has_after_in o (s + (len - 1)) (b + n) ≡ true → LiesIn o s len a b
      → (0 ≤ s) × ((a ≤ s + n - 0) × (s + n - 0 + len + b ≤ 2 ^ 32)) × LiesIn o (s + n - 0) len a b
  by None g e h = absurd h
  by (Some q) g e h =
      let lt : s + (len - 1) + (b + n) < q.1 = ltb-true (s + (len - 1) + (b + n)) q.1 e in
      (omega arith, (omega (arith, k.0), omega (arith, lt, g, f)), (omega (arith, h.0), omega (arith, lt, f)))

shows_still : (table : Table) (d : Side What) (len a b : ℕ) → SideLiesIn table d len a b → HasSource d len a b → Shows table d len a b 0 0
shows_still table Dark len a b l k = (tt, tt, tt)
shows_still table (Pic w s) len a b l k =
    let same : s ≡ s + 0 - 0 = omega arith in
    (omega arith, subst (λ (m : ℕ). HasSource (Pic w m) len a b) same k, subst (λ (m : ℕ). SideLiesIn table (Pic w m) len a b) same l)

-- all that has a link

abbrev Moves : Table → ItemView → Option Mark → ℕ → ℕ → (ItemView → Option Mark → Bool) → Type 0
Moves table v tail on back holds = 0 < v.len → SideLiesIn table v.first v.len (left_reach v.mark) (right_reach tail) → HasSource v.first v.len (left_reach v.mark) (right_reach tail)
    → holds v tail ≡ true → ShowsMoved table v tail on back

each_moves : (table : Table) (l : Link) (on back : ℕ) (holds : ItemView → Option Mark → Bool) (vs : List ItemView) → ((v : ItemView) (tail : Option Mark) → Moves table v tail on back holds)
    → EachHolds vs → EachLiesIn table vs → each_linked l holds vs ≡ true → EachMoves table l vs on back
each_moves table l on back holds [] f h r e = tt
each_moves table l on back holds (v ∷ vs) f h r e =
    let b = and_parts (cond (carries l v.link) (holds v (first_mark vs)) true) (each_linked l holds vs) e in
    (λ c. f v (first_mark vs) h.0.filled r.0 h.0.source (here (carries l v.link) c b.0), each_moves table l on back holds vs f h.1 r.1 b.1) where
      here : (q : Bool) → q ≡ true → cond q (holds v (first_mark vs)) true ≡ true → holds v (first_mark vs) ≡ true
      here true c k = k
      here false c k = absurd cc

all_move : (table : Table) (l : Link) (on back : ℕ) (holds : ItemView → Option Mark → Bool) (ts : List TrackState) → ((v : ItemView) (tail : Option Mark) → Moves table v tail on back holds)
    → All (IsGood table) ts → each_linked_on l holds ts ≡ true → AllMove table l ts on back
all_move table l on back holds [] f g e = tt
all_move table l on back holds (t ∷ ts) f g e =
    let b = and_parts (each_linked l holds (items_of t.cells)) (each_linked_on l holds ts) e in
    let here = all_head (IsGood table) t ts g in
    (each_moves table l on back holds (items_of t.cells) f here.kept.each here.ranges b.0, all_move table l on back holds ts f (all_tail (IsGood table) t ts g) b.1)

item_later : (table : Table) (n : ℕ) → IsBounded table → (v : ItemView) (tail : Option Mark) → Moves table v tail n 0 (item_may_slip_later table n)
item_later table n bounded v tail f l k e = shows-moved table v tail n 0 (shows_later table v.first v.len (left_reach v.mark) (right_reach tail) n bounded f l k e)

item_earlier : (table : Table) (n : ℕ) (v : ItemView) (tail : Option Mark) → Moves table v tail 0 n (item_may_slip_earlier table n)
item_earlier table n v tail f l k e = shows-moved table v tail 0 n (shows-earlier table v.first v.len (left_reach v.mark) (right_reach tail) n l k e)

item_still : (table : Table) (v : ItemView) (tail : Option Mark) → Moves table v tail 0 0 (λ v tail. true)
item_still table v tail f l k e = shows-moved table v tail 0 0 (shows_still table v.first v.len (left_reach v.mark) (right_reach tail) l k)

all_linked : (l : Link) (vs : List ItemView) → each_linked l (λ v tail. true) vs ≡ true
all_linked l [] = refl
all_linked l (v ∷ vs) = by (carries l v.link) (all_linked l vs) where
  by : (b : Bool) → each_linked l (λ v tail. true) vs ≡ true → (cond b true true && each_linked l (λ v tail. true) vs) ≡ true
  by true k = k
  by false k = k

all_linked_on : (l : Link) (ts : List TrackState) → each_linked_on l (λ v tail. true) ts ≡ true
all_linked_on l [] = refl
all_linked_on l (t ∷ ts) = ap (λ (b : Bool). b && each_linked_on l (λ v tail. true) ts) (all_linked l (items_of t.cells)) ∙ all_linked_on l ts

moved_good : (table : Table) (l : Link) (on back : ℕ) (ts : List TrackState) → All (IsGood table) ts → AllMove table l ts on back → All (IsGood table) (map (track_moved l on back) ts)
moved_good table l on back ts good h = each-good table ts (map (track_moved l on back) ts) (all-stay table l on back ts good h)

link_good : (table : Table) (ts : List TrackState) (l : Link) (by : ℤ) → IsBounded table → All (IsGood table) ts → GoodAll table (slip_link table ts l by)
link_good table ts l by bounded good = at (nearest (link_allows table ts l) by) (is-nearest (link_allows table ts l) by).member where
  at : (d : ℤ) → (d ≡ pos 0) ⊎ (link_allows table ts l d ≡ true) → GoodAll table (slip_link_by l ts d)
  at (pos n) (inl e) =
      let none : n ≡ 0 = cc in
      subst (λ (k : ℕ). All (IsGood table) (map (track_moved l k 0) ts)) (sym none)
      (moved_good table l 0 0 ts good (all_move table l 0 0 (λ v tail. true) ts (item_still table) good (all_linked_on l ts)))
  at (pos n) (inr e) = moved_good table l n 0 ts good (all_move table l n 0 (item_may_slip_later table n) ts (item_later table n bounded) good e)
  at (negsuc n) (inl e) = absurd cc
  at (negsuc n) (inr e) = moved_good table l 0 (suc n) ts good (all_move table l 0 (suc n) (item_may_slip_earlier table (suc n)) ts (item_earlier table (suc n)) good e)

-- an item alone

slipped_good : (table : Table) (t : TrackState) (p : Place) (v : ItemView) (s : ℕ) (tail : Option Mark) (on back : ℕ) → IsGood table t → Ready table t p v s tail
    → ShowsMoved table v tail on back → IsGood table (slipped_by t p.from p.to on back)
slipped_good table t p v s tail on back good r h =
    let le : back ≤ s = subst (λ (d : Side What). ReachesBack d back) r.first h.reaches in
    let side : moved v.first on back ≡ side_from v.first (s + on - back) =
    ap (λ (d : Side What). moved d on back) r.first ∙ sym (ap (λ (d : Side What). side_from d (s + on - back)) r.first) in
    let reaches : Reaches table v (s + on - back) tail = record {
      source = subst (λ (d : Side What). HasSource d v.len (left_reach v.mark) (right_reach tail)) side h.source;
      lies = subst (λ (d : Side What). SideLiesIn table d v.len (left_reach v.mark) (right_reach tail)) side h.lies;
    } in
    subst (IsGood table) (sourced-slipped t p.index p.from p.to s on back (s + on - back) r.what v good.kept r.spot.read r.spot.starts r.spot.long r.first le refl)
    (sourced-good table t p.index (s + on - back) v good r.spot.read (subst (Reaches table v (s + on - back)) r.tail_is reaches))

later_good : (table : Table) (t : TrackState) (p : Place) (v : ItemView) (s : ℕ) (tail : Option Mark) (n : ℕ) → IsBounded table → IsGood table t → Ready table t p v s tail
    → slip_allows table t p.from p.to (pos (suc n)) ≡ true → IsGood table (slipped_by t p.from p.to (suc n) 0)
later_good table t p v s tail n bounded good r e =
    let last = spot-last table t p.index v p.from p.to r.spot in
    let side : (cell_at t.cells (p.to - 1)).side ≡ later_side v.first (v.len - 1) = ap (λ (c : Cell). c.side) last in
    let has : may_slip_later table (later_side v.first (v.len - 1)) tail (suc n) ≡ true =
    subst (λ (m : Option Mark). may_slip_later table (later_side v.first (v.len - 1)) m (suc n) ≡ true) r.behind
    (subst (λ (d : Side What). may_slip_later table d (cell_at t.cells p.to).mark (suc n) ≡ true) side e) in
    slipped_good table t p v s tail (suc n) 0 good r
    (shows-moved table v tail (suc n) 0 (shows_later table v.first v.len (left_reach v.mark) (right_reach tail) (suc n) bounded r.spot.filled r.lies r.source has))

earlier_good : (table : Table) (t : TrackState) (p : Place) (v : ItemView) (s : ℕ) (tail : Option Mark) (n : ℕ) → IsGood table t → Ready table t p v s tail
    → slip_allows table t p.from p.to (negsuc n) ≡ true → IsGood table (slipped_by t p.from p.to 0 (suc n))
earlier_good table t p v s tail n good r e =
    let head = spot-head table t p.index v p.from p.to r.spot in
    let side : (cell_at t.cells p.from).side ≡ v.first = ap (λ (c : Cell). c.side) head ∙ side-head v in
    let mark : (cell_at t.cells p.from).mark ≡ v.mark = ap (λ (c : Cell). c.mark) head in
    let has : may_slip_earlier table v.first v.mark (suc n) ≡ true =
    subst (λ (m : Option Mark). may_slip_earlier table v.first m (suc n) ≡ true) mark
    (subst (λ (d : Side What). may_slip_earlier table d (cell_at t.cells p.from).mark (suc n) ≡ true) side e) in
    slipped_good table t p v s tail 0 (suc n) good r
    (shows-moved table v tail 0 (suc n) (shows-earlier table v.first v.len (left_reach v.mark) (right_reach tail) (suc n) r.lies r.source has))

-- the item that was found is at a place, and shows a thing

place_good : (table : Table) (t : TrackState) (by : ℤ) (p : Place) (v : ItemView) (s : ℕ) (tail : Option Mark) → IsBounded table → IsGood table t → Ready table t p v s tail → GoodOne table (slip_range table t by p.from p.to)
place_good table t by p v s tail bounded good r =
    used-good table t (slipped t p.from p.to) (slip_allows table t p.from p.to) by good
    (λ n e limits. later_good table t p v s tail n bounded good r e) (λ n e limits. earlier_good table t p v s tail n good r e)

range_slips : (table : Table) (t : TrackState) (by : ℤ) (i x y : ℕ) → IsBounded table → IsGood table t → SpotOf table t i x y → GoodOne table (slip_range table t by x y)
range_slips table t by i x y bounded good f = at f.view.first refl where
  stands : StandsAt (items_of t.cells) (record { index = f.index; from = x; to = y })
  stands = record { index = slice_get_within (items_of t.cells) f.index f.view f.spot.read; from = f.spot.starts; to = f.spot.stops }

  at : (d : Side What) → f.view.first ≡ d → GoodOne table (slip_range table t by x y)
  at Dark e = absurd (no-dark table t f.index i f.view good f.spot.read (subst (λ (o : Option ItemView). IfSome o (λ v. v.item ≡ Some i)) (sym f.spot.read) f.number) e)
  at (Pic w s) e =
      place_good table t by (record { index = f.index; from = x; to = y }) f.view s (mark_of (slice_get (items_of t.cells) (f.index + 1))) bounded good
      (ready table t (record { index = f.index; from = x; to = y }) f.view s (mark_of (slice_get (items_of t.cells) (f.index + 1))) good stands f.spot.read (subst (λ (d : Side What). shows_from d s) (sym e) refl) refl)

with_good : (table : Table) (named : List TrackState) (c : Slip) (t : TrackState) (o : Option Link) → IsBounded table → All (IsGood table) named → IsGood table t → GoodAll table (slip_with table named c t o)
with_good table named c t None bounded good g =
    among-good table named (slip_track table c t) good (range-good table t c.item (slip_range table t c.by) g (λ x y f. range_slips table t c.by c.item x y bounded g f))
with_good table named c t (Some l) bounded good g = unless-good table (outside_refusal named (Some l)) (slip_link table named l c.by) (link_good table named l c.by bounded good)

pub slip-good : (table : Table) (c : Slip) → KeepsGood table (tracks_in c.tracks) (λ named. slip_named table named c)
slip-good table c =
    all-good table (tracks_in c.tracks) (λ named. slip_named table named c)
    (λ named bounded numbers good.
    for-good table c.track (slip_own table named c) named
    (λ t e. with_good table named c t (link_of t c.item) bounded good (found-good table c.track named t good e)))
