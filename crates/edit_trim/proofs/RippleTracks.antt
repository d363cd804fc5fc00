-- The tracks on which a ripple's shift is made.
use Rattle.std.proofs.Common.{◌≡◌, ◌≢◌, ℕ, zero, suc, ◌+◌, ◌-◌, ◌<◌, ◌≤◌, ◌^◌, Bool, true, false, cond, eqb, leb, ltb, ◌&&◌, ◌||◌, min, List, [], ◌∷◌, ◌++◌, All, length, get_or, Some, refl, sym, ap, ◌∙◌, arith, subst, slice_get}
use Rattle.std.proofs.lemmas.Bool.{eq-eqb, eqb-true, eqb-false, leb-true}
use Rattle.composables.specs.declared.items.ItemView.{ItemView}
use Rattle.composables.specs.declared.media.Table.{Table}
use Rattle.composables.specs.declared.TheConstants.{MAX_FRAMES}
use Rattle.composables.specs.Good.{IsGood}
use Rattle.composables.specs.Items.{cell_in}
use Rattle.composables.specs.Joined.{AllFilled}
use Rattle.composables.specs.Roomy.{IsRoomy}
use Rattle.composables.specs.TrackFacts.{IsKept, NumbersBelow}
use Rattle.composables.specs.TrackState.{TrackState}
use Rattle.composables.specs.Views.{gap_views}
use Rattle.edit_delta.specs.Nearest.{AreUpTo}
use Rattle.edit_delta.specs.Parts.{AreParts}
use Rattle.edit_delta.specs.Reaching.{reaching_back}
use Rattle.edit_delta.proofs.Bounded.{below-more, parts-kept, stays-spliced}
use Rattle.edit_delta.proofs.Pieces.{Before, none-alone, reaches-back, up-true}
use Rattle.edit_delta.proofs.Spots.{Spot}
use Rattle.edit_splice.specs.declared.shifting.Shift.{Shift}
use Rattle.edit_splice.specs.Laws.{IsWithinLimits}
use Rattle.edit_splice.specs.Moves.{IsShiftOf, moved, put_views}
use Rattle.edit_splice.specs.Padding.{new_len, new_views}
use Rattle.edit_splice.specs.PutIn.{alone, reaching_back as reaches}
use Rattle.edit_splice.specs.Splicing.{spliced_track}
use Rattle.edit_splice.specs.Standing.{StaysGood}
use Rattle.edit_splice.proofs.Bridging.{StaysMoved, is-shift, put-moved}
use Rattle.edit_splice.proofs.Moving.{put-other, put-own}
use Rattle.edit_splice.proofs.Put.{PutIn, put-gap}
use Rattle.edit_trim.specs.Rippling.{has_room, have_room}

abbrev pub no_track : TrackState
no_track = record { number = 0; cells = []; next_item = 0; next_link = 0 }

-- nothing in place of some frames
pub none-parts : (table : Table) (t : TrackState) (x y : ℕ) → IsGood table t → x ≤ y → y ≤ length t.cells → AreParts table t x y []
none-parts table t x y good le within = record {
  order = le;
  within = within;
  few = omega arith;
  filled = tt;
  may = alone (none-alone table t x y);
  numbers = tt;
  short = omega (arith, le, within, good.frames);
}

-- what begins at x reaches back by frames that are put in before it
pub before-parts : (table : Table) (t : TrackState) (i : ℕ) (v b : ItemView) (x y n : ℕ) → Spot table t i v x y → 0 < n → length t.cells + n ≤ MAX_FRAMES → Before table v.first n → b ≡ reaching_back (cell_in v 0) n
    → AreParts table t x x (b ∷ [])
before-parts table t i v b x y n s h room before is = subst (λ (u : ItemView). AreParts table t x x (u ∷ [])) (sym is) back where
  back : AreParts table t x x (reaching_back (cell_in v 0) n ∷ [])
  back = record {
    order = omega arith;
    within = omega (arith, s.within, s.long);
    few = omega arith;
    filled = (h, tt);
    may = reaches {views = []} (reaches-back table t i v x y n s h before) (none-alone table t x x);
    numbers = (s.number, tt);
    short = omega (arith, room, s.within, s.long);
  }

-- the room of all is the room of each
pub own-room : (own place n room : ℕ) (ts : List TrackState) (i : ℕ) (t : TrackState) → AreUpTo (have_room own place ts) room → room < 2 ^ 32 → n ≤ room → slice_get ts i ≡ Some t → t.number ≡ own → length t.cells + n ≤ MAX_FRAMES
own-room own place n room ts i t up small le read number = leb-true (length t.cells + n) MAX_FRAMES (grows (by ts i (up-true (have_room own place ts) room n up le small) read)) where
  left_true : (a b : Bool) → a && b ≡ true → a ≡ true
  left_true true b e = refl
  left_true false b e = absurd cc

  right_true : (a b : Bool) → a && b ≡ true → b ≡ true
  right_true true b e = e
  right_true false b e = absurd cc

  by : (ts : List TrackState) (i : ℕ) → have_room own place ts n ≡ true → slice_get ts i ≡ Some t → has_room own place n t ≡ true
  by [] i e r = absurd cc
  by (u ∷ us) zero e r =
      let same : u ≡ t = cc in
      ap (has_room own place n) (sym same) ∙ left_true (has_room own place n u) (have_room own place us n) e
  by (u ∷ us) (suc i) e r = by us i (right_true (has_room own place n u) (have_room own place us n) e) r

  grows : has_room own place n t ≡ true → leb (length t.cells + n) MAX_FRAMES ≡ true
  grows e = sym (ap (λ (b : Bool). cond (b || ltb place (length t.cells)) (leb (length t.cells + n) MAX_FRAMES) true) (eq-eqb t.number own number)) ∙ e

-- the own track, on which the shift is a splice
own_spliced : (s : Shift) (t : TrackState) → t.number ≡ s.own → s.x ≤ length t.cells → s.y ≤ length t.cells → moved s t ≡ spliced_track s.keep t s.x s.y (new_views s.new)
own_spliced s t number x y =
    let a : min s.x (length t.cells) ≡ s.x = omega (arith, x) in
    let b : min s.y (length t.cells) ≡ s.y = omega (arith, y) in
    let z : s.x - length t.cells ≡ 0 = omega (arith, x) in
    ap (λ (n : ℕ). spliced_track s.keep t n (min s.y (length t.cells)) (put_views s t)) a
    ∙ (ap (λ (n : ℕ). spliced_track s.keep t s.x n (put_views s t)) b
    ∙ ap (spliced_track s.keep t s.x s.y) (put-own s t number ∙ ap (λ (n : ℕ). gap_views n ++ new_views s.new) z))

own_views : (s : Shift) (t : TrackState) → t.number ≡ s.own → s.x ≤ length t.cells → put_views s t ≡ new_views s.new
own_views s t number x = let z : s.x - length t.cells ≡ 0 = omega (arith, x) in put-own s t number ∙ ap (λ (n : ℕ). gap_views n ++ new_views s.new) z

pub own-shift : (table : Table) (s : Shift) (t : TrackState) → IsGood table t → IsRoomy t → t.number ≡ s.own → (p : AreParts table t s.x s.y (new_views s.new)) → IsShiftOf s t
own-shift table s t good roomy number p =
    let x : s.x ≤ length t.cells = omega (arith, p.order, p.within) in
    let same = own_spliced s t number x p.within in
    record {
      kept = good.kept;
      roomy = roomy;
      frames = good.frames;
      stays = λ le limits. subst IsKept (sym same) (parts-kept s.keep table t s.x s.y (new_views s.new) good p (subst IsWithinLimits same limits));
      filled = subst AllFilled (sym (own_views s t number x)) p.filled;
      numbers = subst (NumbersBelow (t.next_item + 1)) (sym (own_views s t number x)) (below-more t.next_item (t.next_item + 1) (new_views s.new) (omega arith) p.numbers);
    }

pub own-stays : (table : Table) (s : Shift) (t : TrackState) → IsGood table t → t.number ≡ s.own → (p : AreParts table t s.x s.y (new_views s.new)) → StaysMoved table s t
own-stays table s t good number p limits =
    let same = own_spliced s t number (omega (arith, p.order, p.within)) p.within in
    subst (StaysGood table t) (sym same) (stays-spliced s.keep table t s.x s.y (new_views s.new) good p (subst IsWithinLimits same limits))

-- the other tracks, into which dark frames are put
pub other-put : (table : Table) (s : Shift) (t : TrackState) → t.number ≢ s.own → PutIn table t (put_views s t)
other-put table s t not_own = subst (PutIn table t) (sym (put-other s t not_own)) (by (ltb s.x (length t.cells))) where
  by : (b : Bool) → PutIn table t (cond b (gap_views (new_len s.new)) [])
  by true = put-gap table t (new_len s.new)
  by false = put-gap table t 0

-- all named tracks
each_track : (P : TrackState → Type 0) (own : ℕ) (t : TrackState) (u : TrackState) → (u.number ≡ own → u ≡ t) → P t → (u.number ≢ own → P u) → P u
each_track P own t u only here other = by (eqb u.number own) refl where
  by : (b : Bool) → eqb u.number own ≡ b → P u
  by true e = subst P (sym (only (eqb-true u.number own e))) here
  by false e = other (eqb-false u.number own e)

pub all-shift : (table : Table) (s : Shift) (ts : List TrackState) (t : TrackState) → All (IsGood table) ts → All (λ (t : TrackState). IsRoomy t) ts → All (λ (u : TrackState). u.number ≡ s.own → u ≡ t) ts → IsShiftOf s t → All (λ (u : TrackState). IsShiftOf s u) ts
all-shift table s ts t good roomy only here k d lt =
    each_track (IsShiftOf s) s.own t (get_or ts k d) (only k d lt) here (λ n. is-shift table s (get_or ts k d) (good k d lt) (roomy k d lt) (other-put table s (get_or ts k d) n))

pub all-stay : (table : Table) (s : Shift) (ts : List TrackState) (t : TrackState) → s.x ≤ s.y → All (IsGood table) ts → All (λ (u : TrackState). u.number ≡ s.own → u ≡ t) ts → StaysMoved table s t → All (StaysMoved table s) ts
all-stay table s ts t le good only here k d lt =
    each_track (StaysMoved table s) s.own t (get_or ts k d) (only k d lt) here (λ n. put-moved table s (get_or ts k d) le (good k d lt) (other-put table s (get_or ts k d) n))
