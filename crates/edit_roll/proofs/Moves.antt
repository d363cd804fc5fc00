-- The deltas that are allowed between two neighbours, and what is put in where one moves.
use Rattle.std.proofs.Common.{◌≡◌, ℕ, suc, ◌+◌, ◌-◌, ◌<◌, ◌≤◌, ◌^◌, Bool, true, false, cond, ◌&&◌, ltb, min, ℤ, pos, negsuc, [], ◌∷◌, Ok, Err, refl, sym, ap, ◌∙◌, arith, subst, ⊎_elim, w32, SFits, to_z, of_z}
use Rattle.std.proofs.lemmas.Int.{to_z-of_z}
use Rattle.std.proofs.lemmas.Bool.{le-leb, lt-leb, lt-ltb, le-ltb, cases_lt}
use Rattle.frame_meaning.specs.declared.cells.Cell.{Cell}
use Rattle.frame_meaning.specs.declared.cells.What.{What}
use Rattle.frame_meaning.specs.declared.frames.Side.{Side}
use Rattle.frame_meaning.specs.declared.frames.Side.TheVariants.{Dark, Pic}
use Rattle.frame_meaning.specs.Cells.{later_side}
use Rattle.frame_meaning.specs.Render.{cell_at}
use Rattle.composables.specs.declared.calls.Roll.{Roll}
use Rattle.composables.specs.declared.items.ItemView.{ItemView}
use Rattle.composables.specs.declared.media.Table.{Table}
use Rattle.composables.specs.declared.refusals.Refusal.TheVariants.{NotACut}
use Rattle.composables.specs.Good.{IsGood}
use Rattle.composables.specs.Items.{cell_in}
use Rattle.composables.specs.Ranges.{is_cut}
use Rattle.composables.specs.Limits.{track_within_limits}
use Rattle.composables.specs.TrackFacts.{HasSource}
use Rattle.composables.specs.TrackState.{TrackState}
use Rattle.edit_delta.specs.declared.deltas.Used.{Used}
use Rattle.edit_delta.specs.declared.deltas.Way.{Way}
use Rattle.edit_delta.specs.declared.deltas.Way.TheVariants.{Earlier, Later, Still}
use Rattle.edit_delta.specs.Nearest.{AreUpTo, lies_within, nearest}
use Rattle.edit_delta.specs.Parts.{AreParts}
use Rattle.edit_delta.specs.Reaching.{going_on, has_after, has_before, reaching_back}
use Rattle.edit_delta.specs.Using.{IsUsed}
use Rattle.edit_delta.proofs.Answered.{IsUsedOf, earlier-means, earlier-most, later-means, later-most, still-means, up-both}
use Rattle.edit_delta.proofs.Greatest.{nearest-same}
use Rattle.edit_delta.proofs.Pieces.{After, Before, after-of, back-parts, before-of, on-parts, up-true}
use Rattle.edit_delta.proofs.Spots.{Spot, side-head, spot-head, spot-last}
use Rattle.edit_splice.specs.Splicing.{spliced_track}
use Rattle.edit_roll.specs.declared.neighbours.Sides.{Sides}
use Rattle.edit_roll.specs.Neighbours.{begin_at, end_at, may_move_earlier, may_move_later, move_allows}
use Rattle.edit_roll.specs.NeighboursInside.{FitsBetween, StandBeside, fits_between, fits_earlier, fits_later}
use Rattle.edit_roll.specs.Rolling.{roll_cut, roll_track, rolled_earlier, rolled_later}
use Rattle.edit_roll.proofs.Beside.{left-spot, range-of, right-spot}

-- the ends of what is allowed
up_keeps : (len : ℕ) → 0 < len → AreUpTo (λ n. ltb n len) (len - 1)
up_keeps len f n small =
    ⊎_elim
    (λ (less : len - 1 < n). le-ltb n len (omega (arith, less)) ∙ sym (lt-leb n (len - 1) less))
    (λ (le : n ≤ len - 1). lt-ltb n len (omega (arith, le, f)) ∙ sym (le-leb n (len - 1) le))
    (cases_lt (len - 1) n)

pub later-up : (table : Table) (l r : ItemView) (reach most : ℕ) → 0 < r.len → AreUpTo (has_after table (later_side l.first (l.len - 1))) reach → most ≡ min (r.len - 1) reach → AreUpTo (fits_later table l r) most
later-up table l r reach most f h e = up-both (λ n. ltb n r.len) (has_after table (later_side l.first (l.len - 1))) (r.len - 1) reach most e (up_keeps r.len f) h

pub earlier-up : (table : Table) (l r : ItemView) (reach most : ℕ) → 0 < l.len → AreUpTo (has_before table r.first) reach → most ≡ min (l.len - 1) reach → AreUpTo (fits_earlier table l r) most
earlier-up table l r reach most f h e = up-both (λ n. ltb n l.len) (has_before table r.first) (l.len - 1) reach most e (up_keeps l.len f) h

less_source : (s : Side What) (len most n : ℕ) → n ≤ most → HasSource s len 0 most → HasSource s len 0 n
less_source Dark len most n le h = tt
less_source (Pic w s) len most n le h = (omega arith, omega (arith, le, h.1))

-- the delta that is used fits, whichever way it goes
pub fits-used : (table : Table) (l r : ItemView) (after before later earlier : ℕ) (by : ℤ) (u : Used) → 0 < l.len → 0 < r.len
    → AreUpTo (has_after table (later_side l.first (l.len - 1))) after → AreUpTo (has_before table r.first) before → HasSource l.first l.len 0 after → after < 2 ^ 32 → before < 2 ^ 32
    → later ≡ min (r.len - 1) after → earlier ≡ min (l.len - 1) before → IsUsed (nearest (lies_within earlier later) (to_z w32 (of_z w32 by))) u → FitsBetween table l r u.way
fits-used table l r after before later earlier by u fl fr a b source sa sb e f is = by_way u.way refl where
  by_way : (w : Way) → u.way ≡ w → FitsBetween table l r w
  by_way Still k = tt
  by_way (Later n) k =
      let m = later-most earlier later n by u is k in
      let le : n ≤ after = omega (arith, m.1, e) in
      (m.0, omega (arith, m.0, m.1, e, fr), up-true (has_after table (later_side l.first (l.len - 1))) after n a le sa, less_source l.first l.len after n le source)
  by_way (Earlier n) k =
      let m = earlier-most earlier later n by u is k in
      let le : n ≤ before = omega (arith, m.1, f) in
      (m.0, omega (arith, m.0, m.1, f, fl), up-true (has_before table r.first) before n b le sb)

-- the same deltas, of the neighbours and of the track
shifted_less : (p n len : ℕ) → ltb (p + n) (p + len) ≡ ltb n len
shifted_less p n len =
    ⊎_elim
    (λ (less : n < len). lt-ltb (p + n) (p + len) (omega (arith, less)) ∙ sym (lt-ltb n len less))
    (λ (le : len ≤ n). le-ltb (p + n) (p + len) (omega (arith, le)) ∙ sym (le-ltb n len le))
    (cases_lt n len)

-- what stands beside [x, y)
pub record Around (table : Table) (t : TrackState) (x y : ℕ) (l r : ItemView) : Type 0 where
  pub before : ℕ
  pub behind : ℕ
  pub left : Spot table t before l (x - l.len) x
  pub right : Spot table t behind r y (y + r.len)

pub around-of : (table : Table) (t : TrackState) (x y : ℕ) (s : Sides) → IsGood table t → (b : StandBeside t.cells x y s) → Around table t x y s.left s.right
around-of table t x y s good b = record { before = b.from - 1; behind = b.to; left = left-spot table t x y s good b; right = right-spot table t x y s good b }

same_later : (table : Table) (t : TrackState) (x y : ℕ) (l r : ItemView) (n : ℕ) → Around table t x y l r → fits_later table l r n ≡ may_move_later table t x y n
same_later table t x y l r n a =
    let end : y + r.len ≡ end_at t.cells y = sym (ap (λ (p : ℕ × ℕ). p.1) (range-of table t a.behind r y (y + r.len) y a.right (omega arith) (omega (arith, a.right.filled)))) in
    let side : later_side l.first (l.len - 1) ≡ (cell_at t.cells (x - 1)).side = sym (ap (λ (c : Cell). c.side) (spot-last table t a.before l (x - l.len) x a.left)) in
    ap (λ (b : Bool). b && has_after table (later_side l.first (l.len - 1)) n) (sym (shifted_less y n r.len) ∙ ap (ltb (y + n)) end)
    ∙ ap (λ (s : Side What). ltb (y + n) (end_at t.cells y) && has_after table s n) side

same_earlier : (table : Table) (t : TrackState) (x y : ℕ) (l r : ItemView) (n : ℕ) → Around table t x y l r → fits_earlier table l r n ≡ may_move_earlier table t x y n
same_earlier table t x y l r n a =
    let begin : x - l.len ≡ begin_at t.cells (x - 1) = sym (ap (λ (p : ℕ × ℕ). p.0) (range-of table t a.before l (x - l.len) x (x - 1) a.left (omega (arith, a.left.long, a.left.filled)) (omega (arith, a.left.long, a.left.filled)))) in
    let long : x - l.len + l.len ≡ x = sym a.left.long in
    let side : r.first ≡ (cell_at t.cells y).side = sym (ap (λ (c : Cell). c.side) (spot-head table t a.behind r y (y + r.len) a.right) ∙ side-head r) in
    ap (λ (b : Bool). b && has_before table r.first n) (sym (shifted_less (x - l.len) n l.len) ∙ (ap (ltb (x - l.len + n)) long ∙ ap (λ (p : ℕ). ltb (p + n) x) begin))
    ∙ ap (λ (s : Side What). ltb (begin_at t.cells (x - 1) + n) x && has_before table s n) side

pub same-moves : (table : Table) (t : TrackState) (x y : ℕ) (l r : ItemView) (e : ℤ) → Around table t x y l r → fits_between table l r e ≡ move_allows table t x y e
same-moves table t x y l r (pos n) a = same_later table t x y l r n a
same-moves table t x y l r (negsuc n) a = same_earlier table t x y l r (suc n) a

pub moved-used : (table : Table) (t : TrackState) (x y : ℕ) (l r : ItemView) (by : ℤ) (u : Used) → Around table t x y l r → SFits w32 by → IsUsed (nearest (fits_between table l r) (to_z w32 (of_z w32 by))) u
    → IsUsedOf (may_move_later table t x y) (may_move_earlier table t x y) by u
moved-used table t x y l r by u a fits is = record {
  used = subst (λ (d : ℤ). IsUsed d u)
      (ap (nearest (fits_between table l r)) (to_z-of_z w32 by fits) ∙ nearest-same (fits_between table l r) (move_allows table t x y) by (λ e between. same-moves table t x y l r e a)) is;
}

-- what is put in
pub after-fits : (table : Table) (t : TrackState) (x y : ℕ) (l r : ItemView) (n : ℕ) → Around table t x y l r → FitsBetween table l r (Later n) → After table l.first l.len n
after-fits table t x y l r n a f = after-of table l.first l.len n n a.left.filled (omega arith) f.2 f.3 a.left.lies

pub before-fits : (table : Table) (t : TrackState) (x y : ℕ) (l r : ItemView) (n : ℕ) → Around table t x y l r → FitsBetween table l r (Earlier n) → Before table r.first n
before-fits table t x y l r n a f = before-of table r.first r.len n f.2 a.right.source a.right.lies

pub roll-on : (table : Table) (t : TrackState) (at : ℕ) (l r g : ItemView) (n : ℕ) → IsGood table t → Around table t at at l r → FitsBetween table l r (Later n) → g ≡ going_on (cell_in l (l.len - 1)) n
    → AreParts table t at (at + n) (g ∷ [])
roll-on table t at l r g n good a f is =
    on-parts table t a.before l g (at - l.len) at (at + n) n a.left f.0 (omega arith) (omega (arith, f.1, a.right.within)) (omega (arith, f.1, a.right.within, good.frames)) (after-fits table t at at l r n a f) is

pub roll-back : (table : Table) (t : TrackState) (at : ℕ) (l r b : ItemView) (n : ℕ) → IsGood table t → Around table t at at l r → FitsBetween table l r (Earlier n) → b ≡ reaching_back (cell_in r 0) n
    → AreParts table t (at - n) at (b ∷ [])
roll-back table t at l r b n good a f is =
    back-parts table t a.behind r b at (at + r.len) (at - n) n good a.right f.0 (omega (arith, f.1, a.left.long)) (before-fits table t at at l r n a f) is

-- what is meant
pub roll-still : (table : Table) (t : TrackState) (at : ℕ) (by : ℤ) (u : Used) → IsUsedOf (may_move_later table t at at) (may_move_earlier table t at at) by u → u.way ≡ Still → roll_cut table t by at ≡ Ok (t, u.done)
roll-still table t at by u is way = still-means t (rolled_later t at) (rolled_earlier t at) (may_move_later table t at at) (may_move_earlier table t at at) by u is way

pub roll-later : (table : Table) (t : TrackState) (at : ℕ) (l r g : ItemView) (n : ℕ) (by : ℤ) (u : Used) → Around table t at at l r → IsUsedOf (may_move_later table t at at) (may_move_earlier table t at at) by u → u.way ≡ Later n
    → g ≡ going_on (cell_in l (l.len - 1)) n → roll_cut table t by at ≡ track_within_limits (spliced_track false t at (at + n) (g ∷ [])) u.done
roll-later table t at l r g n by u a is way e =
    later-means t (rolled_later t at) (rolled_earlier t at) (may_move_later table t at at) (may_move_earlier table t at at) n by u is way
    ∙ ap (λ (v : ItemView). track_within_limits (spliced_track false t at (at + n) (v ∷ [])) u.done) (ap (λ (c : Cell). going_on c n) (spot-last table t a.before l (at - l.len) at a.left) ∙ sym e)

pub roll-earlier : (table : Table) (t : TrackState) (at : ℕ) (l r b : ItemView) (n : ℕ) (by : ℤ) (u : Used) → Around table t at at l r → IsUsedOf (may_move_later table t at at) (may_move_earlier table t at at) by u → u.way ≡ Earlier n
    → b ≡ reaching_back (cell_in r 0) n → roll_cut table t by at ≡ track_within_limits (spliced_track false t (at - n) at (b ∷ [])) u.done
roll-earlier table t at l r b n by u a is way e =
    earlier-means t (rolled_later t at) (rolled_earlier t at) (may_move_later table t at at) (may_move_earlier table t at at) n by u is way
    ∙ ap (λ (v : ItemView). track_within_limits (spliced_track false t (at - n) at (v ∷ [])) u.done) (ap (λ (c : Cell). reaching_back c n) (spot-head table t a.behind r at (at + r.len) a.right) ∙ sym e)

-- the cut that was found, or none
pub track-rolls : (table : Table) (c : Roll) (t : TrackState) → SFits w32 c.by → is_cut t.cells c.at ≡ true → roll_track table c t ≡ roll_cut table t (to_z w32 (of_z w32 c.by)) c.at
track-rolls table c t fits cut =
    ap (λ (b : Bool). cond b (roll_cut table t c.by c.at) (Err (NotACut c.at))) cut ∙ ap (λ (z : ℤ). roll_cut table t z c.at) (sym (to_z-of_z w32 c.by fits))

pub track-stays : (table : Table) (c : Roll) (t : TrackState) → is_cut t.cells c.at ≡ false → roll_track table c t ≡ Err (NotACut c.at)
track-stays table c t none = ap (λ (b : Bool). cond b (roll_cut table t c.by c.at) (Err (NotACut c.at))) none
