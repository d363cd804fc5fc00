-- What a shift does on one track.
use Rattle.std.proofs.Common.{◌≡◌, ◌≢◌, ℕ, ◌+◌, ◌-◌, ◌<◌, ◌≤◌, Bool, true, false, cond, eqb, ltb, List, [], ◌++◌, length, min, Option, Some, None, refl, sym, ap, ◌∙◌, arith, subst}
use Rattle.std.proofs.lemmas.Bool.{eq-eqb, eqb-true, lt-ltb, le-ltb}
use Rattle.composables.specs.declared.items.ItemView.{ItemView}
use Rattle.composables.specs.declared.TheConstants.{MAX_FRAMES}
use Rattle.composables.specs.Joined.{frames_in}
use Rattle.composables.specs.TrackState.{TrackState}
use Rattle.composables.specs.Views.{gap_views}
use Rattle.composables.proofs.Frames.{frames_in-append}
use Rattle.composables.specs.TrackFacts.{IsKept}
use Rattle.edit_splice.specs.Laws.{IsWithinLimits}
use Rattle.edit_splice.specs.NewItems.{AreNew}
use Rattle.edit_splice.specs.Splicing.{spliced_track}
use Rattle.edit_splice.proofs.Keeping.{kept_spliced}
use Rattle.edit_splice.proofs.Outcomes.{length-spliced_track}
use Rattle.edit_splice.specs.declared.shifting.Shift.{Shift}
use Rattle.edit_splice.specs.Moves.{IsShiftOf, moved, put_views}
use Rattle.edit_splice.specs.Padding.{new_len, new_views}
use Rattle.edit_splice.proofs.Padding.{frames-gap}

no_eqb : (a b : ℕ) → a ≢ b → eqb a b ≡ false
no_eqb a b n = by (eqb a b) refl where
  by : (t : Bool) → eqb a b ≡ t → eqb a b ≡ false
  by true e = absurd (n (eqb-true a b e))
  by false e = e

pub frames_new : (o : Option ItemView) → frames_in (new_views o) ≡ new_len o
frames_new None = refl
frames_new (Some v) = omega arith

pub frames-put : (n : ℕ) (o : Option ItemView) → frames_in (gap_views n ++ new_views o) ≡ n + new_len o
frames-put n o = omega (arith, frames_in-append (gap_views n) (new_views o), frames-gap n, frames_new o)

pub put-own : (s : Shift) (t : TrackState) → t.number ≡ s.own → put_views s t ≡ gap_views (s.x - length t.cells) ++ new_views s.new
put-own s t e = ap (λ (b : Bool). cond b (gap_views (s.x - length t.cells) ++ new_views s.new) (cond (ltb s.x (length t.cells)) (gap_views (new_len s.new)) [])) (eq-eqb t.number s.own e)

pub put-other : (s : Shift) (t : TrackState) → t.number ≢ s.own → put_views s t ≡ cond (ltb s.x (length t.cells)) (gap_views (new_len s.new)) []
put-other s t n = ap (λ (b : Bool). cond b (gap_views (s.x - length t.cells) ++ new_views s.new) (cond (ltb s.x (length t.cells)) (gap_views (new_len s.new)) [])) (no_eqb t.number s.own n)

pub put-along : (s : Shift) (t : TrackState) → t.number ≢ s.own → s.x < length t.cells → put_views s t ≡ gap_views (new_len s.new)
put-along s t n h = put-other s t n ∙ ap (λ (b : Bool). cond b (gap_views (new_len s.new)) []) (lt-ltb s.x (length t.cells) h)

pub put-none : (s : Shift) (t : TrackState) → t.number ≢ s.own → length t.cells ≤ s.x → put_views s t ≡ []
put-none s t n h = put-other s t n ∙ ap (λ (b : Bool). cond b (gap_views (new_len s.new)) []) (le-ltb s.x (length t.cells) h)

pub length-moved : (s : Shift) (t : TrackState) → s.x ≤ s.y
    → length (moved s t).cells ≡ min s.x (length t.cells) + frames_in (put_views s t) + (length t.cells - min s.y (length t.cells))
length-moved s t le = length-spliced_track s.keep t (min s.x (length t.cells)) (min s.y (length t.cells)) (put_views s t) (omega (arith, le)) (omega arith)

pub length-own : (s : Shift) (t : TrackState) → s.x ≤ s.y → t.number ≡ s.own
    → length (moved s t).cells ≡ min s.x (length t.cells) + (length t.cells - min s.y (length t.cells)) + (s.x - length t.cells) + new_len s.new
length-own s t le e = omega (arith, length-moved s t le, ap frames_in (put-own s t e), frames-put (s.x - length t.cells) s.new)

pub length-along : (s : Shift) (t : TrackState) → s.x ≤ s.y → t.number ≢ s.own → s.x < length t.cells
    → length (moved s t).cells ≡ min s.x (length t.cells) + (length t.cells - min s.y (length t.cells)) + new_len s.new
length-along s t le n h = omega (arith, length-moved s t le, ap frames_in (put-along s t n h), frames-gap (new_len s.new))

pub length-none : (s : Shift) (t : TrackState) → s.x ≤ s.y → t.number ≢ s.own → length t.cells ≤ s.x
    → length (moved s t).cells ≡ min s.x (length t.cells) + (length t.cells - min s.y (length t.cells))
length-none s t le n h = omega (arith, length-moved s t le, ap frames_in (put-none s t n h))

-- on a track that keeps its limits it leaves one that keeps what every track keeps
pub new-kept : (s : Shift) (t : TrackState) → IsKept t → length t.cells ≤ MAX_FRAMES → AreNew t.next_item (put_views s t) → s.x ≤ s.y → IsWithinLimits (moved s t) → IsKept (moved s t)
new-kept s t kept frames new le limits =
    kept_spliced s.keep t (min s.x (length t.cells)) (min s.y (length t.cells)) (put_views s t) kept (omega (arith, le)) (omega arith) new
    (omega (arith, length-moved s t le, limits.frames, frames, le))

pub kept-put : (s : Shift) (t : TrackState) (x y : ℕ) (views : List ItemView) → s.x ≤ s.y → IsShiftOf s t → IsWithinLimits (moved s t)
    → x ≡ min s.x (length t.cells) → y ≡ min s.y (length t.cells) → views ≡ put_views s t → IsKept (spliced_track s.keep t x y views)
kept-put s t x y views le f limits e h k =
    let same : moved s t ≡ spliced_track s.keep t x y views =
    ap (λ (n : ℕ). spliced_track s.keep t n (min s.y (length t.cells)) (put_views s t)) (sym e)
    ∙ (ap (λ (n : ℕ). spliced_track s.keep t x n (put_views s t)) (sym h) ∙ ap (spliced_track s.keep t x y) (sym k)) in
    subst IsKept same (f.stays le limits)
