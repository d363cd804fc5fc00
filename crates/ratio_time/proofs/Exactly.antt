-- Each answer on a moment is given exactly where it holds.
use Rattle.std.proofs.Common.{◌≡◌, ◌+◌, ◌^◌, ◌≤◌, unsigned_abs, ℤ, pos, neg_ℤ, ◌+ℤ◌, ◌*ℤ◌, ◌≤ℤ◌, nat_le, Bool, true, false, cond, ◌&&◌, Option, Some, None, MatchResult, FitsSigned, to_z, of_z, w64, ◌∙◌, ◌↔◌, Result, Ok, Err, IsErr, refl, subst, sym, ap, arith, rules}
use Rattle.std.proofs.lemmas.Int.{ints, to_z-of_z, fits_signed_from_abs}
use Rattle.std.specs.Int.{w128}
use Rattle.ratio_time.specs.declared.rate.Rate.{Rate}
use Rattle.ratio_time.specs.declared.time.RationalTime.{RationalTime}
use Rattle.ratio_time.specs.declared.time.TimeRange.{TimeRange}
use Rattle.ratio_time.specs.declared.time.TimeFault.{TimeFault}
use Rattle.ratio_time.specs.declared.time.TimeFault.TheVariants.{NotOnFrame, TooFar}
use Rattle.ratio_time.specs.declared.time.TooFar.{TooFar as Far}
use Rattle.ratio_time.specs.Moments.{under, over, OnFrame, IsRoundedDown, IsRoundedUp, IsNarrowed, IsNear}
use Rattle.ratio_time.proofs.Products.{under_positive}
use Rattle.ratio_time.specs.Division.{floor_of, ceiling_of, near_or_fault, frames_of, near_pair, narrowed_of}
use Rattle.std.specs.Prelude.{int_le}
use Rattle.std.proofs.lemmas.Bool.Decides.{nat_tests}
use Rattle.ratio_time.proofs.Rounding.{one_number, whole_number, floor_below, floor_greatest, ceiling_above, ceiling_least, above_more}

pub under_some : (time : RationalTime) (rate : Rate) → 1 ≤ under time rate
under_some time rate = under_positive time.value.places time.rate.num rate.den time.rate.num_in.0 rate.den_in.0

pub one_frame : (time : RationalTime) (rate : Rate) (f g : ℤ) → OnFrame time rate f → OnFrame time rate g → f ≡ g
one_frame time rate f g p q = one_number (over time rate) f g (under time rate) (under_some time rate) p q

-- what is told of a moment
abbrev pub Told : RationalTime → Rate → Result ℤ TimeFault → Type 0
Told time rate (Ok f) = OnFrame time rate f × IsNear f
Told time rate (Err NotOnFrame) = (f : ℤ) → OnFrame time rate f → ⊥
Told time rate (Err TooFar) = (f : ℤ) × OnFrame time rate f × (IsNear f → ⊥)

pub told_ok : (time : RationalTime) (rate : Rate) (r : Result ℤ TimeFault) → Told time rate r → (f : ℤ) → (r ≡ Ok f) ↔ (OnFrame time rate f × IsNear f)
told_ok time rate (Ok f) told g = ((λ e. let same : f ≡ g = cc in subst (λ x. OnFrame time rate x × IsNear x) same told), (λ p. let same : f ≡ g = one_frame time rate f g told.0 p.0 in cc))
told_ok time rate (Err NotOnFrame) told g = ((λ e. cc), (λ p. absurd (told g p.0)))
told_ok time rate (Err TooFar) told g = ((λ e. cc), (λ p. absurd (told.2 (subst IsNear (one_frame time rate g told.0 p.0 told.1) p.1))))

pub told_not_on_frame : (time : RationalTime) (rate : Rate) (r : Result ℤ TimeFault) → Told time rate r → (r ≡ Err NotOnFrame) ↔ ((f : ℤ) → OnFrame time rate f → ⊥)
told_not_on_frame time rate (Ok f) told = ((λ e. cc), (λ none. absurd (none f told.0)))
told_not_on_frame time rate (Err NotOnFrame) told = ((λ e. told), (λ none. refl))
told_not_on_frame time rate (Err TooFar) told = ((λ e. cc), (λ none. absurd (none told.0 told.1)))

pub told_too_far : (time : RationalTime) (rate : Rate) (r : Result ℤ TimeFault) → Told time rate r → (r ≡ Err TooFar) ↔ ((f : ℤ) × OnFrame time rate f × (IsNear f → ⊥))
told_too_far time rate (Ok f) told = ((λ e. cc), (λ p. absurd (p.2 (subst IsNear (one_frame time rate f p.0 told.0 p.1) told.1))))
told_too_far time rate (Err NotOnFrame) told = ((λ e. cc), (λ p. absurd (told p.0 p.1)))
told_too_far time rate (Err TooFar) told = ((λ e. told), (λ p. refl))

one_down : (time : RationalTime) (rate : Rate) (f g : ℤ) → IsRoundedDown time rate f → IsRoundedDown time rate g → f ≡ g
one_down time rate f g p q = omega (arith, ints, p.greatest g q.not_after, q.greatest f p.not_after)

one_up : (time : RationalTime) (rate : Rate) (f g : ℤ) → IsRoundedUp time rate f → IsRoundedUp time rate g → f ≡ g
one_up time rate f g p q = omega (arith, ints, p.least g q.not_before, q.least f p.not_before)

one_from : (range : TimeRange) (rate : Rate) (a b c d : ℤ) → IsNarrowed range rate a b → IsNarrowed range rate c d → a ≡ c
one_from range rate a b c d p q = one_up range.start rate a c p.from_frame q.from_frame

one_to : (range : TimeRange) (rate : Rate) (a b c d : ℤ) → IsNarrowed range rate a b → IsNarrowed range rate c d → b ≡ d
one_to range rate a b c d p q =
    let first = one_down range.start rate _ _ p.to_frame.2 q.to_frame.2 in
    let count = one_down range.duration rate _ _ p.to_frame.3 q.to_frame.3 in
    rw (p.to_frame.4, first, count) (sym q.to_frame.4)

one_both : (range : TimeRange) (rate : Rate) (a b c d : ℤ) → IsNarrowed range rate a b → IsNarrowed range rate c d → IsNear a × IsNear b → IsNear c × IsNear d
one_both range rate a b c d p q near = (subst IsNear (one_from range rate a b c d p q) near.0, subst IsNear (one_to range rate a b c d p q) near.1)

-- what is told of a range
abbrev pub Narrows : TimeRange → Rate → Result (ℤ × ℤ) Far → Type 0
Narrows range rate (Ok r) = IsNarrowed range rate r.0 r.1 × IsNear r.0 × IsNear r.1
Narrows range rate (Err e) = (from : ℤ) × (to : ℤ) × IsNarrowed range rate from to × (IsNear from × IsNear to → ⊥)

pub narrows_ok : (range : TimeRange) (rate : Rate) (r : Result (ℤ × ℤ) Far) → Narrows range rate r
    → (from to : ℤ) → (r ≡ Ok (from, to)) ↔ (IsNarrowed range rate from to × IsNear from × IsNear to)
narrows_ok range rate (Ok r) told from to = (
  (λ e. let same : r ≡ (from, to) = cc in subst (λ (x : ℤ × ℤ). IsNarrowed range rate x.0 x.1 × IsNear x.0 × IsNear x.1) same told),
  (λ p. ap (λ (x : ℤ × ℤ). Ok x) (pair_eq (one_from range rate _ _ _ _ told.0 p.0) (one_to range rate _ _ _ _ told.0 p.0))),
)
  where
    pair_eq : {a b c d : ℤ} → a ≡ c → b ≡ d → ◌≡◌ {A = ℤ × ℤ} (a, b) (c, d)
    pair_eq {a} {b} {c} {d} p q = cc
narrows_ok range rate (Err e) told from to =
    ((λ e. cc), (λ p. absurd (told.3 (one_both range rate _ _ _ _ p.0 told.2 (p.1, p.2)))))

pub narrows_too_far : (range : TimeRange) (rate : Rate) (r : Result (ℤ × ℤ) Far) → Narrows range rate r
    → IsErr r ↔ ((from : ℤ) × (to : ℤ) × IsNarrowed range rate from to × (IsNear from × IsNear to → ⊥))
narrows_too_far range rate (Ok r) told = ((λ e. absurd (cc)), (λ p. absurd (p.3 (one_both range rate _ _ _ _ told.0 p.2 (told.1, told.2)))))
narrows_too_far range rate (Err e) told = ((λ e. told), (λ p. search rules))

-- ---- the answers as the code has them, with numbers that went through 128 and 64 bits

abbrev held : ℤ → ℤ
held z = to_z w128 (of_z w128 z)

held_is : (z : ℤ) → FitsSigned w128 z → held z ≡ z
held_is z fits = to_z-of_z w128 z fits

kept : (f : ℤ) → IsNear f → to_z w64 (of_z w64 f) ≡ f
kept f near = to_z-of_z w64 f (fits_signed_from_abs w64 f (omega (arith, near)))

same_number : (a b : ℤ) → FitsSigned w128 a → FitsSigned w128 b → of_z w128 a ≡ of_z w128 b → a ≡ b
same_number a b fa fb same = sym (held_is a fa) ∙ (ap (to_z w128) same ∙ held_is b fb)

rounded_both : (time : RationalTime) (rate : Rate) (f : ℤ) → IsRoundedUp time rate f → IsRoundedDown time rate f → OnFrame time rate f
rounded_both time rate f up down = omega (arith, ints, up.not_before, down.not_after)

pub told_frame : (time : RationalTime) (rate : Rate) (up down f : ℤ) → FitsSigned w128 up → FitsSigned w128 down
    → IsRoundedUp time rate up → IsRoundedDown time rate down → of_z w128 up ≡ of_z w128 down
    → f ≡ held down → IsNear f → Told time rate (Ok (to_z w64 (of_z w64 f)))
told_frame time rate up down f fu fd above below same is near =
    let all : up ≡ down = same_number up down fu fd same in
    let exact : f ≡ down = is ∙ held_is down fd in
    rw (kept f near) (subst (OnFrame time rate) (sym exact) (rounded_both time rate down (subst (IsRoundedUp time rate) all above) below), near)

pub told_far : (time : RationalTime) (rate : Rate) (up down : ℤ) → FitsSigned w128 up → FitsSigned w128 down
    → IsRoundedUp time rate up → IsRoundedDown time rate down → of_z w128 up ≡ of_z w128 down
    → (IsNear (held down) → ⊥) → Told time rate (Err TooFar)
told_far time rate up down fu fd above below same far =
    let all : up ≡ down = same_number up down fu fd same in
    (down, rounded_both time rate down (subst (IsRoundedUp time rate) all above) below, rw (held_is down fd) at far)

pub told_between : (time : RationalTime) (rate : Rate) (up down : ℤ)
    → IsRoundedUp time rate up → IsRoundedDown time rate down → (of_z w128 up ≡ of_z w128 down → ⊥) → Told time rate (Err NotOnFrame)
told_between time rate up down above below apart = λ f on.
    apart (ap (of_z w128) (whole_number (over time rate) f up down (under time rate) (under_some time rate) on above.not_before above.least below.not_after below.greatest))

narrowed : (range : TimeRange) (rate : Rate) (up first count : ℤ) → FitsSigned w128 up → unsigned_abs first ≤ 10 ^ 36 → unsigned_abs count ≤ 10 ^ 36
    → IsRoundedUp range.start rate up → IsRoundedDown range.start rate first → IsRoundedDown range.duration rate count
    → IsNarrowed range rate (held up) (held (held first +ℤ held count))
narrowed range rate up first count fu sf sc above below lasting =
    let ff : FitsSigned w128 first = fits_signed_from_abs w128 first (omega (arith, sf)) in
    let fc : FitsSigned w128 count = fits_signed_from_abs w128 count (omega (arith, sc)) in
    let fs : FitsSigned w128 (first +ℤ count) = fits_signed_from_abs w128 (first +ℤ count) (omega (arith, sum_size first count, sf, sc)) in
    rw (held_is up fu, held_is first ff, held_is count fc, held_is (first +ℤ count) fs)
    (record { from_frame = above; to_frame = (first, count, below, lasting, refl) })
  where
    sum_size : (a b : ℤ) → unsigned_abs (a +ℤ b) ≤ unsigned_abs a + unsigned_abs b
    sum_size a b = omega (arith, ints)

pub narrows_range : (range : TimeRange) (rate : Rate) (up first count a b : ℤ) → FitsSigned w128 up → unsigned_abs first ≤ 10 ^ 36 → unsigned_abs count ≤ 10 ^ 36
    → IsRoundedUp range.start rate up → IsRoundedDown range.start rate first → IsRoundedDown range.duration rate count
    → (a ≡ held up) × IsNear a → (b ≡ held (held first +ℤ held count)) × IsNear b
    → Narrows range rate (Ok (to_z w64 (of_z w64 a), to_z w64 (of_z w64 b)))
narrows_range range rate up first count a b fu sf sc above below lasting na nb =
    let whole = narrowed range rate up first count fu sf sc above below lasting in
    rw (kept a na.1, kept b nb.1)
    (subst (λ x. IsNarrowed range rate x b) (sym na.0) (subst (IsNarrowed range rate (held up)) (sym nb.0) whole), na.1, nb.1)

pub narrows_far : (range : TimeRange) (rate : Rate) (up first count : ℤ) (r : Result (ℤ × ℤ) Far) → FitsSigned w128 up → unsigned_abs first ≤ 10 ^ 36 → unsigned_abs count ≤ 10 ^ 36
    → IsRoundedUp range.start rate up → IsRoundedDown range.start rate first → IsRoundedDown range.duration rate count
    → IsErr r → (IsNear (held up) × IsNear (held (held first +ℤ held count)) → ⊥)
    → Narrows range rate r
narrows_far range rate up first count (Ok x) fu sf sc above below lasting err far = absurd (cc)
narrows_far range rate up first count (Err e) fu sf sc above below lasting err far =
    (held up, held (held first +ℤ held count), narrowed range rate up first count fu sf sc above below lasting, far)

-- ---- the same by division

pub down_of : (time : RationalTime) (rate : Rate) → IsRoundedDown time rate (floor_of time rate)
unfolding floor_of
down_of time rate =
    let some : pos 1 ≤ℤ pos (under time rate) = omega (arith, ints, under_some time rate) in
    record { not_after = floor_below (over time rate) (pos (under time rate)) some; greatest = λ g. floor_greatest (over time rate) (pos (under time rate)) g some }

pub up_of : (time : RationalTime) (rate : Rate) → IsRoundedUp time rate (ceiling_of time rate)
unfolding ceiling_of
up_of time rate =
    let o = over time rate in
    let d = pos (under time rate) in
    let some : pos 1 ≤ℤ d = omega (arith, ints, under_some time rate) in
    record {
      not_before = ceiling_above o d _ some (floor_below (neg_ℤ o) d some);
      least = λ g. ceiling_least o d _ g some (λ n. floor_greatest (neg_ℤ o) d n some);
    }

down_up : (time : RationalTime) (rate : Rate) (down up : ℤ) → IsRoundedDown time rate down → IsRoundedUp time rate up → up ≤ℤ down → OnFrame time rate down
down_up time rate down up below above order =
    let covers : over time rate ≤ℤ (down *ℤ pos (under time rate)) = above_more (over time rate) up down (under time rate) above.not_before order in
    omega (arith, ints, below.not_after, covers)

told_near : (time : RationalTime) (rate : Rate) (f : ℤ) (b : Bool) → nat_le (unsigned_abs f) 2147483647 ≡ b → OnFrame time rate f → Told time rate (cond b (Ok f) (Err TooFar))
told_near time rate f true e on = (on, grind (arith, nat_tests))
told_near time rate f false e on = (f, on, λ near. grind (arith, nat_tests))

told_by : (time : RationalTime) (rate : Rate) (down up : ℤ) (b : Bool) → int_le up down ≡ b → IsRoundedDown time rate down → IsRoundedUp time rate up
    → Told time rate (cond b (near_or_fault down) (Err NotOnFrame))
told_by time rate down up true e below above =
    let order : up ≤ℤ down = grind (arith, ints) in
    told_near time rate down (nat_le (unsigned_abs down) 2147483647) refl (down_up time rate down up below above order)
told_by time rate down up false e below above = λ f on.
    let same = whole_number (over time rate) f up down (under time rate) (under_some time rate) on above.not_before above.least below.not_after below.greatest in
    not_same up down e same
  where
    not_same : (a b : ℤ) → int_le a b ≡ false → a ≡ b → ⊥
    not_same a b e same = grind (arith, ints)

told_of : (time : RationalTime) (rate : Rate) → Told time rate (frames_of time rate)
unfolding frames_of
told_of time rate = told_by time rate (floor_of time rate) (ceiling_of time rate) (int_le (ceiling_of time rate) (floor_of time rate)) refl (down_of time rate) (up_of time rate)

told_one : (time : RationalTime) (rate : Rate) (r s : Result ℤ TimeFault) → Told time rate r → Told time rate s → r ≡ s
told_one time rate (Ok f) (Ok g) p q = ap (λ x. Ok x) (one_frame time rate f g p.0 q.0)
told_one time rate (Ok f) (Err NotOnFrame) p q = absurd (q f p.0)
told_one time rate (Ok f) (Err TooFar) p q = absurd (q.2 (subst IsNear (one_frame time rate f q.0 p.0 q.1) p.1))
told_one time rate (Err NotOnFrame) (Ok g) p q = absurd (p g q.0)
told_one time rate (Err NotOnFrame) (Err NotOnFrame) p q = refl
told_one time rate (Err NotOnFrame) (Err TooFar) p q = absurd (p q.0 q.1)
told_one time rate (Err TooFar) (Ok g) p q = absurd (p.2 (subst IsNear (one_frame time rate g p.0 q.0 p.1) q.1))
told_one time rate (Err TooFar) (Err NotOnFrame) p q = absurd (q p.0 p.1)
told_one time rate (Err TooFar) (Err TooFar) p q = refl

pub told_value : (time : RationalTime) (rate : Rate) (r : Result ℤ TimeFault) → Told time rate r → r ≡ frames_of time rate
told_value time rate r told = told_one time rate r (frames_of time rate) told (told_of time rate)

narrowed_value : (range : TimeRange) (rate : Rate) → IsNarrowed range rate (ceiling_of range.start rate) (floor_of range.start rate +ℤ floor_of range.duration rate)
narrowed_value range rate = record {
  from_frame = up_of range.start rate;
  to_frame = (floor_of range.start rate, floor_of range.duration rate, down_of range.start rate, down_of range.duration rate, refl);
}

near_test : (f : ℤ) → IsNear f → nat_le (unsigned_abs f) 2147483647 ≡ true
near_test f near = grind (arith, nat_tests)

near_pair_is : (from to : ℤ) → IsNear from → IsNear to → near_pair from to ≡ Some (from, to)
near_pair_is from to a b = rw (near_test from a, near_test to b) refl

far_pair : (from to : ℤ) (a b : Bool) → nat_le (unsigned_abs from) 2147483647 ≡ a → nat_le (unsigned_abs to) 2147483647 ≡ b → (IsNear from × IsNear to → ⊥)
    → cond {A = Option (ℤ × ℤ)} (a && b) (Some (from, to)) None ≡ None
far_pair from to true true ea eb far = absurd (far (grind (arith, nat_tests), grind (arith, nat_tests)))
far_pair from to true false ea eb far = refl
far_pair from to false b ea eb far = refl

pub narrows_value : (range : TimeRange) (rate : Rate) (r : Result (ℤ × ℤ) Far) → Narrows range rate r
    → MatchResult r (λ frames. narrowed_of range rate ≡ Some frames) (λ _. narrowed_of range rate ≡ None)
unfolding narrowed_of
narrows_value range rate (Ok r) told =
    let value = narrowed_value range rate in
    let near = one_both range rate _ _ _ _ told.0 value (told.1, told.2) in
    near_pair_is _ _ near.0 near.1 ∙ ap (λ (x : ℤ × ℤ). Some x) (same_pair (one_from range rate _ _ _ _ value told.0) (one_to range rate _ _ _ _ value told.0))
  where
    same_pair : {a b c d : ℤ} → a ≡ c → b ≡ d → ◌≡◌ {A = ℤ × ℤ} (a, b) (c, d)
    same_pair {a} {b} {c} {d} p q = cc
narrows_value range rate (Err e) told =
    far_pair (ceiling_of range.start rate) (floor_of range.start rate +ℤ floor_of range.duration rate) _ _ refl refl (λ near. told.3 (one_both range rate _ _ _ _ (narrowed_value range rate) told.2 near))
