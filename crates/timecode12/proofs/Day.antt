-- Where the labels of a day stand.
use Rattle.std.proofs.Common.{◌≡◌, ℕ, zero, suc, ◌+◌, ◌-◌, ◌*◌, ◌/◌, ◌%◌, ◌<◌, ◌≤◌, Bool, true, false, not, ◌&&◌, ◌==◌, nat_lt, cond, List, ◌++◌, map, length, drop, Some, ◌⊎◌, inl, inr, refl, sym, ap, ◌∙◌, arith, suc-mul}
use Rattle.std.specs.Prelude.{slice_get}
use Rattle.std.specs.List.{flat_map, filter}
use Rattle.std.proofs.lemmas.List.{length-drop}
use Rattle.std.proofs.lemmas.List.Elements.{filter-append}
use Rattle.std.proofs.lemmas.Bool.Decides.{nat_tests}
use Rattle.std.proofs.lemmas.Bool.{cases_lt}
use Rattle.std.proofs.lemmas.Nat.{mod_below}
use Rattle.timecode12.specs.declared.label.Label.{Label}
use Rattle.timecode12.specs.Labels.{range, label_with, second_of, minute_of, hour_of, hours_of, is_dropped}
use Rattle.timecode12.proofs.Blocks.{at_block, length-blocks, at_map, length-map-range, get_drop, get_within, filter-flat_map, flat_map-same, filter-all_map, filter-all_blocks, filter-two_less, filter-two_more}

abbrev pub keep : Bool → Label → Bool
keep df label = not (is_dropped df label)

-- whether a minute lacks its first two numbers, and how many it lacks
abbrev pub lacks : Bool → ℕ → Bool
lacks df m = df && not ((m % 10) == 0)

abbrev pub lacking : Bool → ℕ → ℕ
lacking df m = cond (lacks df m) 2 0

keep_first_two : (t u v : Bool) → t ≡ true → u ≡ true → v ≡ true → not (t && (u && v)) ≡ false
keep_first_two t u v et eu ev = rw (et, eu, ev) refl

keep_whole : (t u v : Bool) → t ≡ false → not (t && (u && v)) ≡ true
keep_whole t u v et = rw et refl

keep_second : (t u v : Bool) → u ≡ false → not (t && (u && v)) ≡ true
keep_second true u v eu = rw eu refl
keep_second false u v eu = refl

keep_frame : (t u v : Bool) → v ≡ false → not (t && (u && v)) ≡ true
keep_frame true true v ev = rw ev refl
keep_frame true false v ev = refl
keep_frame false u v ev = refl

not_first : (s : ℕ) → 1 ≤ s → (s == 0) ≡ false
not_first s h = grind (arith, nat_tests)

not_low : (f : ℕ) → 2 ≤ f → nat_lt f 2 ≡ false
not_low f h = grind (arith, nat_tests)

-- after a minute's first two numbers
rest_of : ℕ → ℕ → ℕ → ℕ → List Label
rest_of n k h m = map (label_with h m 0) (range 2 n) ++ flat_map (second_of (suc (suc n)) h m) (range 1 k)

rest_kept : (df : Bool) (n k h m : ℕ) → filter (keep df) (rest_of n k h m) ≡ rest_of n k h m
unfolding rest_of
rest_kept df n k h m =
    filter-append (keep df) (map (label_with h m 0) (range 2 n)) (flat_map (second_of (suc (suc n)) h m) (range 1 k))
    ∙ (ap (λ ys. ys ++ filter (keep df) (flat_map (second_of (suc (suc n)) h m) (range 1 k)))
    (filter-all_map (keep df) (label_with h m 0) 2 n (λ f low. keep_frame (lacks df m) (0 == 0) (nat_lt f 2) (not_low f low)))
    ∙ ap (λ ys. map (label_with h m 0) (range 2 n) ++ ys)
    (filter-all_blocks (keep df) (second_of (suc (suc n)) h m) 1 k
    (λ s later. filter-all_map (keep df) (label_with h m s) 0 (suc (suc n)) (λ f low. keep_second (lacks df m) (s == 0) (nat_lt f 2) (not_first s later)))))

minute_cut : (df t : Bool) (n k h m : ℕ) → lacks df m ≡ t → filter (keep df) (minute_of (suc (suc n)) (suc k) h m) ≡ drop (cond t 2 0) (minute_of (suc (suc n)) (suc k) h m)
unfolding rest_of
minute_cut df true n k h m e =
    filter-two_less (keep df) (label_with h m 0 0) (label_with h m 0 1) (rest_of n k h m)
    (keep_first_two (lacks df m) (0 == 0) (nat_lt 0 2) e refl refl) (keep_first_two (lacks df m) (0 == 0) (nat_lt 1 2) e refl refl) (rest_kept df n k h m)
minute_cut df false n k h m e =
    filter-two_more (keep df) (label_with h m 0 0) (label_with h m 0 1) (rest_of n k h m)
    (keep_whole (lacks df m) (0 == 0) (nat_lt 0 2) e) (keep_whole (lacks df m) (0 == 0) (nat_lt 1 2) e) (rest_kept df n k h m)

minute_kept : (df : Bool) (numbers sixty h m : ℕ) → 2 ≤ numbers → 1 ≤ sixty → filter (keep df) (minute_of numbers sixty h m) ≡ drop (lacking df m) (minute_of numbers sixty h m)
minute_kept df zero sixty h m some more = absurd (omega arith)
minute_kept df (suc zero) sixty h m some more = absurd (omega arith)
minute_kept df (suc (suc n)) zero h m some more = absurd (omega arith)
minute_kept df (suc (suc n)) (suc k) h m some more = minute_cut df (lacks df m) n k h m refl

-- ---- how many frames the units have

length-second : (numbers h m s : ℕ) → length (second_of numbers h m s) ≡ numbers
length-second numbers h m s = length-map-range (label_with h m s) 0 numbers

length-minute : (numbers sixty h m : ℕ) → length (minute_of numbers sixty h m) ≡ sixty * numbers
length-minute numbers sixty h m =
    let z : 0 + sixty ≡ sixty = omega arith in
    let e : (0 + sixty) * numbers ≡ sixty * numbers = ap (λ n. n * numbers) z in
    omega (arith, length-blocks (second_of numbers h m) (λ x. x * numbers) 0 sixty (λ x. step x numbers (length (second_of numbers h m x)) (length-second numbers h m x)))
  where
    step : (x k l : ℕ) → l ≡ k → (x + 1) * k ≡ x * k + l
    step x k l e = omega (arith, suc-mul x k)

pub lacking_first : (df : Bool) (m : ℕ) → m % 10 ≡ 0 → lacking df m ≡ 0
lacking_first true m e = rw e refl
lacking_first false m e = refl

pub lacking_other : (df : Bool) (m : ℕ) → 1 ≤ m % 10 → lacking df m ≡ cond df 2 0
lacking_other true m e = rw (not_first (m % 10) e) refl
lacking_other false m e = refl

lacking_most : (df : Bool) (m : ℕ) → lacking df m ≤ 2
lacking_most df m = at_most (lacks df m)
  where
    at_most : (t : Bool) → cond t 2 0 ≤ 2
    at_most true = omega arith
    at_most false = omega arith

-- where minute m begins in its hour, if a whole minute has `whole` frames
unfoldable pub start : Bool → ℕ → ℕ → ℕ
start df whole m = m / 10 * (10 * whole - 9 * cond df 2 0) + (m % 10 * (whole - cond df 2 0) + lacking df m)

start_step : (df : Bool) (whole m : ℕ) → 2 ≤ whole → start df whole (m + 1) ≡ start df whole m + (whole - lacking df m)
unfolding start
start_step df whole m some = steps (cases_lt (m % 10) 9)
  where
    most : (t : Bool) → cond t 2 0 ≤ 2
    most true = omega arith
    most false = omega arith

    steps : (m % 10 < 9) ⊎ (9 ≤ m % 10) → start df whole (m + 1) ≡ start df whole m + (whole - lacking df m)
    steps (inl low) =
        let q : (m + 1) / 10 ≡ m / 10 = omega arith in
        let r : (m + 1) % 10 ≡ m % 10 + 1 = omega arith in
        let l : lacking df (m + 1) ≡ cond df 2 0 = lacking_other df (m + 1) (omega arith) in
        rw (l, q, r) (omega (arith, suc-mul (m % 10) (whole - cond df 2 0), lacking_most df m, most df))
    steps (inr high) =
        let q : (m + 1) / 10 ≡ m / 10 + 1 = omega arith in
        let r : (m + 1) % 10 ≡ 0 = omega arith in
        let n : m % 10 ≡ 9 = omega (arith, mod_below m 10 (omega arith)) in
        let l : lacking df (m + 1) ≡ 0 = lacking_first df (m + 1) r in
        let k : m % 10 * (whole - cond df 2 0) ≡ 9 * (whole - cond df 2 0) = ap (λ x. x * (whole - cond df 2 0)) n in
        let none : (m + 1) % 10 * (whole - cond df 2 0) ≡ 0 * (whole - cond df 2 0) = ap (λ x. x * (whole - cond df 2 0)) r in
        rw (l, q) (omega (arith, r, k, none, suc-mul (m / 10) (10 * whole - 9 * cond df 2 0), lacking_most df m, most df))

-- the labels of a minute, and of an hour, that stay
minute_left : Bool → ℕ → ℕ → ℕ → ℕ → List Label
minute_left df numbers sixty h m = drop (lacking df m) (minute_of numbers sixty h m)

pub hour_left : Bool → ℕ → ℕ → ℕ → List Label
hour_left df numbers sixty h = flat_map (minute_left df numbers sixty h) (range 0 sixty)

pub left_over : (df : Bool) (numbers sixty hours : ℕ) → 2 ≤ numbers → 1 ≤ sixty
    → filter (keep df) (hours_of numbers sixty hours) ≡ flat_map (hour_left df numbers sixty) (range 0 hours)
unfolding minute_left hour_left
left_over df numbers sixty hours some more =
    filter-flat_map (keep df) (hour_of numbers sixty) (range 0 hours)
    ∙ flat_map-same (λ h. filter (keep df) (hour_of numbers sixty h)) (hour_left df numbers sixty) (range 0 hours)
    (λ h. filter-flat_map (keep df) (minute_of numbers sixty h) (range 0 sixty)
    ∙ flat_map-same (λ m. filter (keep df) (minute_of numbers sixty h m)) (minute_left df numbers sixty h) (range 0 sixty)
    (λ m. minute_kept df numbers sixty h m some more))

length-minute_left : (df : Bool) (numbers sixty h m : ℕ) → length (minute_left df numbers sixty h m) ≡ sixty * numbers - lacking df m
unfolding minute_left
length-minute_left df numbers sixty h m = length-drop (lacking df m) (minute_of numbers sixty h m) ∙ ap (λ n. n - lacking df m) (length-minute numbers sixty h m)

start_first : (df : Bool) (whole : ℕ) → start df whole 0 ≡ 0
unfolding start
start_first df whole = omega (arith, lacking_first df 0 refl)

pub length-hour_left : (df : Bool) (numbers sixty h : ℕ) → 2 ≤ sixty * numbers → length (hour_left df numbers sixty h) ≡ start df (sixty * numbers) sixty
unfolding hour_left
length-hour_left df numbers sixty h some =
    let z : 0 + sixty ≡ sixty = omega arith in
    let e : start df (sixty * numbers) (0 + sixty) ≡ start df (sixty * numbers) sixty = ap (start df (sixty * numbers)) z in
    omega (
      arith,
      start_first df (sixty * numbers),
      length-blocks (minute_left df numbers sixty h) (start df (sixty * numbers)) 0 sixty
          (λ x. start_step df (sixty * numbers) x some ∙ ap (λ n. start df (sixty * numbers) x + n) (sym (length-minute_left df numbers sixty h x))),
    )

pub times_step : (x k l : ℕ) → l ≡ k → (x + 1) * k ≡ x * k + l
times_step x k l e = omega (arith, suc-mul x k)

-- the label of a place in a minute, an hour and a day
in_minute : (numbers sixty h m s f : ℕ) → s < sixty → f < numbers → slice_get (minute_of numbers sixty h m) (s * numbers + f) ≡ Some (label_with h m s f)
in_minute numbers sixty h m s f ls lf =
    let zs : 0 + s ≡ s = omega arith in
    let zf : 0 + f ≡ f = omega arith in
    let sized : (0 + s) * numbers + f ≡ s * numbers + f = ap (λ x. x * numbers + f) zs in
    let place : 0 * numbers + (s * numbers + f) ≡ (0 + s) * numbers + f = omega arith in
    at_block (second_of numbers h m) (λ x. x * numbers) 0 sixty s f (s * numbers + f) (λ x. times_step x numbers (length (second_of numbers h m x)) (length-second numbers h m x)) ls
    (omega (arith, length-second numbers h m (0 + s))) place
    ∙ (ap (λ x. slice_get (second_of numbers h m x) f) zs ∙ (at_map (label_with h m s) 0 numbers f lf ∙ ap (λ x. Some (label_with h m s x)) zf))

in_hour : (df : Bool) (numbers sixty h m s f : ℕ) → 2 ≤ sixty * numbers → m < sixty → s < sixty → f < numbers → lacking df m ≤ s * numbers + f
    → slice_get (hour_left df numbers sixty h) (start df (sixty * numbers) m + (s * numbers + f - lacking df m)) ≡ Some (label_with h m s f)
unfolding minute_left hour_left
in_hour df numbers sixty h m s f some lm ls lf stays =
    let zm : 0 + m ≡ m = omega arith in
    let place : start df (sixty * numbers) 0 + (start df (sixty * numbers) m + (s * numbers + f - lacking df m)) ≡ start df (sixty * numbers) (0 + m) + (s * numbers + f - lacking df m) =
    omega (arith, start_first df (sixty * numbers), ap (start df (sixty * numbers)) zm) in
    let found : slice_get (minute_left df numbers sixty h m) (s * numbers + f - lacking df m) ≡ Some (label_with h m s f) =
    get_drop (minute_of numbers sixty h m) (lacking df m) (s * numbers + f - lacking df m)
    ∙ (ap (slice_get (minute_of numbers sixty h m)) (past (lacking df m) (s * numbers + f) stays) ∙ in_minute numbers sixty h m s f ls lf) in
    let same : slice_get (minute_left df numbers sixty h (0 + m)) (s * numbers + f - lacking df m) ≡ Some (label_with h m s f) =
    ap (λ x. slice_get (minute_left df numbers sixty h x) (s * numbers + f - lacking df m)) zm ∙ found in
    at_block (minute_left df numbers sixty h) (start df (sixty * numbers)) 0 sixty m (s * numbers + f - lacking df m) _
    (λ x. start_step df (sixty * numbers) x some ∙ ap (λ n. start df (sixty * numbers) x + n) (sym (length-minute_left df numbers sixty h x)))
    lm (get_within _ _ _ same) place ∙ same
  where
    past : (k n : ℕ) → k ≤ n → k + (n - k) ≡ n
    past k n h = omega arith

pub in_day : (df : Bool) (numbers sixty hours h m s f : ℕ) → 2 ≤ numbers → 1 ≤ sixty → 2 ≤ sixty * numbers → h < hours → m < sixty → s < sixty → f < numbers → lacking df m ≤ s * numbers + f
    → slice_get (filter (keep df) (hours_of numbers sixty hours)) (h * start df (sixty * numbers) sixty + (start df (sixty * numbers) m + (s * numbers + f - lacking df m))) ≡ Some (label_with h m s f)
in_day df numbers sixty hours h m s f two one some lh lm ls lf stays =
    let zh : 0 + h ≡ h = omega arith in
    let p = start df (sixty * numbers) m + (s * numbers + f - lacking df m) in
    let big = start df (sixty * numbers) sixty in
    let found : slice_get (hour_left df numbers sixty (0 + h)) p ≡ Some (label_with h m s f) =
    ap (λ x. slice_get (hour_left df numbers sixty x) p) zh ∙ in_hour df numbers sixty h m s f some lm ls lf stays in
    let sized : (0 + h) * big + p ≡ h * big + p = ap (λ x. x * big + p) zh in
    let place : 0 * big + (h * big + p) ≡ (0 + h) * big + p = omega arith in
    ap (λ xs. slice_get xs (h * big + p)) (left_over df numbers sixty hours two one)
    ∙ (at_block (hour_left df numbers sixty) (λ x. x * big) 0 hours h p (h * big + p)
    (λ x. times_step x big (length (hour_left df numbers sixty x)) (length-hour_left df numbers sixty x some)) lh (get_within _ _ _ found) place ∙ found)
