-- What is told of a frame and of a label, by the counting.
use Rattle.std.proofs.Common.{◌≡◌, ℕ, ◌+◌, ◌*◌, ◌%◌, ◌<◌, ◌≤◌, Bool, true, false, length, Result, Ok, ◌⊎◌, inl, inr, ◌↔◌, IsTrue, refl, sym, ap, ◌∙◌, subst, arith}
use Rattle.std.proofs.lemmas.Bool.{cases_lt}
use Rattle.timecode12.specs.declared.label.Label.{Label}
use Rattle.timecode12.specs.declared.rate.SequenceRate.{SequenceRate}
use Rattle.timecode12.specs.declared.rate.SequenceRate.TheVariants.{F23976, F24, F25, F2997, F30}
use Rattle.timecode12.specs.declared.counting.LabelFault.{LabelFault}
use Rattle.timecode12.specs.Numbers.{numbers_a_second, Counted}
use Rattle.timecode12.specs.Labels.{day_of, is_dropped, IsLabelOf, HasLargeField, IsDropped}
use Rattle.timecode12.specs.Places.{hour, place_of}
use Rattle.timecode12.proofs.Places.{dropped_by, IsPlaced, placed_in_day, length_day, some_label, label_placed, lacks_no_more, dropped_first, stays_after}

some_numbers : (rate : SequenceRate) → 2 ≤ numbers_a_second rate
some_numbers F23976 = omega arith
some_numbers F24 = omega arith
some_numbers F25 = omega arith
some_numbers F2997 = omega arith
some_numbers F30 = omega arith

-- a label of the day, by the units of the counting
Placed : Counted → Label → ℕ → Type 0
Placed c l n = IsPlaced c.drop_frame (numbers_a_second c.rate) l n

label_from : (c : Counted) (l : Label) (n : ℕ) → Placed c l n → IsLabelOf c n l
unfolding Placed
label_from c l n p = placed_in_day c.drop_frame (numbers_a_second c.rate) l n (some_numbers c.rate) p

placed_from : (c : Counted) (l : Label) (n : ℕ) → IsLabelOf c n l → Placed c l n
unfolding Placed
placed_from c l n found = label_placed c.drop_frame (numbers_a_second c.rate) n l (some_numbers c.rate) found

day_length : (c : Counted) → length (day_of c) ≡ 24 * hour (numbers_a_second c.rate) (dropped_by c.drop_frame)
day_length c = length_day c.drop_frame (numbers_a_second c.rate) (some_numbers c.rate)

pub day_is : (c : Counted) (n d r : ℕ) → n ≡ numbers_a_second c.rate → d ≡ dropped_by c.drop_frame → r ≡ 24 * hour n d → r ≡ length (day_of c)
day_is c n d r en ed er = er ∙ (rw (en, ed) (sym (day_length c)))

pub in_day_of : (c : Counted) (n d r frame : ℕ) → n ≡ numbers_a_second c.rate → d ≡ dropped_by c.drop_frame → r ≡ length (day_of c) → frame < r → frame < 24 * hour n d
in_day_of c n d r frame en ed er lt =
    let all : r ≡ 24 * hour n d = er ∙ (rw (en, ed) (day_length c)) in
    subst (λ x. frame < x) all lt

pub label_is : (c : Counted) (n d frame : ℕ) (l : Label) → n ≡ numbers_a_second c.rate → d ≡ dropped_by c.drop_frame
    → place_of n d l ≡ frame → l.hours < 24 → l.minutes < 60 → l.seconds < 60 → l.frames < n → (0 < l.minutes % 10 → d ≤ l.seconds * n + l.frames)
    → IsLabelOf c frame l
unfolding Placed
label_is c n d frame l en ed place h m s f stays =
    let here : place_of (numbers_a_second c.rate) (dropped_by c.drop_frame) l ≡ frame = rw (← en, ← ed) place in
    let few : l.frames < numbers_a_second c.rate = subst (λ x. l.frames < x) en f in
    let after : 0 < l.minutes % 10 → dropped_by c.drop_frame ≤ l.seconds * numbers_a_second c.rate + l.frames =
    λ some. rw (← en, ← ed) (stays some) in
    label_from c l frame (record { hours = h; minutes = m; seconds = s; frames = few; stays = lacks_no_more c.drop_frame l.minutes _ after; place = here })

-- ---- a label's faults

pub no_large : (c : Counted) (l : Label) (frame : ℕ) → IsLabelOf c frame l → HasLargeField c l → ⊥
unfolding Placed
no_large c l frame found large = by (placed_from c l frame found) large
  where
    by : IsPlaced c.drop_frame (numbers_a_second c.rate) l frame → HasLargeField c l → ⊥
    by p (inl h) = let k = p.hours in omega arith
    by p (inr (inl m)) = let k = p.minutes in omega arith
    by p (inr (inr (inl s))) = let k = p.seconds in omega arith
    by p (inr (inr (inr f))) = let k = p.frames in omega arith

pub no_dropped : (c : Counted) (l : Label) (frame : ℕ) → IsLabelOf c frame l → IsDropped c l → ⊥
unfolding Placed
no_dropped c l frame found dropped =
    let p = placed_from c l frame found in
    let stays = dropped_first c.drop_frame (numbers_a_second c.rate) l p.stays in cc

below : (a b : ℕ) → (b ≤ a → ⊥) → a < b
below a b h = by (cases_lt a b)
  where
    by : (a < b) ⊎ (b ≤ a) → a < b
    by (inl lt) = lt
    by (inr le) = absurd (h le)

pub frame_is : (c : Counted) (n d frame : ℕ) (l : Label) → n ≡ numbers_a_second c.rate → d ≡ dropped_by c.drop_frame
    → (HasLargeField c l → ⊥) → is_dropped c.drop_frame l ≡ false → frame ≡ place_of n d l → IsLabelOf c frame l
unfolding Placed
frame_is c n d frame l en ed small stays place =
    let here : place_of (numbers_a_second c.rate) (dropped_by c.drop_frame) l ≡ frame = rw (← en, ← ed) (sym place) in
    label_from c l frame (record {
      hours = below l.hours 24 (λ h. small (inl h));
      minutes = below l.minutes 60 (λ m. small (inr (inl m)));
      seconds = below l.seconds 60 (λ s. small (inr (inr (inl s))));
      frames = below l.frames (numbers_a_second c.rate) (λ f. small (inr (inr (inr f))));
      stays = stays_after c.drop_frame (numbers_a_second c.rate) l (some_numbers c.rate) stays;
      place = here;
    })

-- the frame of a label is one
pub one_frame : (c : Counted) (l : Label) (f g : ℕ) → IsLabelOf c f l → IsLabelOf c g l → f ≡ g
unfolding Placed
one_frame c l f g p q = sym (placed_from c l f p).place ∙ (placed_from c l g q).place

pub each_frame : (c : Counted) (f : ℕ) → f < length (day_of c) → (l : Label) × IsLabelOf c f l
unfolding Placed
each_frame c f lt =
    let within : f < 24 * hour (numbers_a_second c.rate) (dropped_by c.drop_frame) = subst (λ x. f < x) (day_length c) lt in
    let found = some_label c.drop_frame (numbers_a_second c.rate) f (some_numbers c.rate) within in
    (found.0, label_from c found.0 f found.1)

pub each_label : (c : Counted) (l : Label) → (HasLargeField c l → ⊥) → (IsDropped c l → ⊥) → (f : ℕ) × IsLabelOf c f l
each_label c l small stays =
    (place_of (numbers_a_second c.rate) (dropped_by c.drop_frame) l, frame_is c (numbers_a_second c.rate) (dropped_by c.drop_frame) _ l refl refl small (not_true (is_dropped c.drop_frame l) stays) refl)
  where
    not_true : (b : Bool) → (IsTrue b → ⊥) → b ≡ false
    not_true true h = absurd (h refl)
    not_true false h = refl

pub told_frame : (c : Counted) (n d p : ℕ) (l : Label) → n ≡ numbers_a_second c.rate → d ≡ dropped_by c.drop_frame
    → (HasLargeField c l → ⊥) → (IsDropped c l → ⊥) → p ≡ place_of n d l
    → (frame : ℕ) → (◌≡◌ {A = Result ℕ LabelFault} (Ok p) (Ok frame)) ↔ IsLabelOf c frame l
told_frame c n d p l en ed small stays place frame =
    let here = frame_is c n d p l en ed small (not_true (is_dropped c.drop_frame l) stays) place in
    ((λ e. let same : p ≡ frame = cc in subst (λ x. IsLabelOf c x l) same here), (λ found. ap (λ x. Ok x) (one_frame c l p frame here found)))
  where
    not_true : (b : Bool) → (IsTrue b → ⊥) → b ≡ false
    not_true true h = absurd (h refl)
    not_true false h = refl
