-- Each label of a day has one frame, and each frame of a day one label.
use Rattle.std.proofs.Common.{◌≡◌, ℕ, zero, suc, ◌+◌, ◌-◌, ◌*◌, ◌/◌, ◌%◌, ◌<◌, ◌≤◌, Bool, true, false, not, ◌&&◌, ◌==◌, nat_lt, cond, length, Some, ◌⊎◌, inl, inr, refl, sym, ap, ◌∙◌, subst, arith, suc-mul}
use Rattle.std.specs.Prelude.{slice_get}
use Rattle.std.specs.List.{filter}
use Rattle.std.proofs.lemmas.Bool.Decides.{nat_tests}
use Rattle.std.proofs.lemmas.Bool.{cases_lt}
use Rattle.std.proofs.lemmas.Nat.{div-add-mod', div_below, mod_below}
use Rattle.timecode12.specs.declared.label.Label.{Label}
use Rattle.timecode12.specs.Labels.{label_with, hours_of, all_labels, is_dropped}
use Rattle.timecode12.specs.Places.{ten_minutes, hour, place_of}
use Rattle.timecode12.proofs.Blocks.{length-blocks, get_within}
use Rattle.timecode12.proofs.Day.{keep, lacks, lacking, lacking_first, lacking_other, start, hour_left, in_day, left_over, length-hour_left, times_step}

-- how many numbers a dropping minute lacks
abbrev pub dropped_by : Bool → ℕ
dropped_by df = cond df 2 0

pub dropped_most : (df : Bool) → dropped_by df ≤ 2
dropped_most true = omega arith
dropped_most false = omega arith

-- a label of the day, and its frame
pub record IsPlaced (df : Bool) (numbers : ℕ) (l : Label) (n : ℕ) : Type 0 where
  pub hours : l.hours < 24
  pub minutes : l.minutes < 60
  pub seconds : l.seconds < 60
  pub frames : l.frames < numbers
  pub stays : lacking df l.minutes ≤ l.seconds * numbers + l.frames
  pub place : place_of numbers (dropped_by df) l ≡ n

start_is : (df : Bool) (whole m x : ℕ) → lacking df m ≤ x
    → start df whole m + (x - lacking df m) ≡ m / 10 * (10 * whole - 9 * dropped_by df) + (m % 10 * (whole - dropped_by df) + x)
unfolding start
start_is df whole m x stays = omega arith

start_hour : (df : Bool) (whole : ℕ) → start df whole 60 ≡ 6 * (10 * whole - 9 * dropped_by df)
unfolding start
start_hour df whole = omega (arith, lacking_first df 60 refl)

pub placed_in_day : (df : Bool) (numbers : ℕ) (l : Label) (n : ℕ) → 2 ≤ numbers → IsPlaced df numbers l n
    → slice_get (filter (λ label. not (is_dropped df label)) (all_labels numbers)) n ≡ Some l
unfolding all_labels
placed_in_day df numbers l n two p =
    let place : l.hours * start df (60 * numbers) 60 + (start df (60 * numbers) l.minutes + (l.seconds * numbers + l.frames - lacking df l.minutes)) ≡ n =
    ap (λ x. l.hours * x + (start df (60 * numbers) l.minutes + (l.seconds * numbers + l.frames - lacking df l.minutes))) (start_hour df (60 * numbers))
    ∙ (ap (λ x. l.hours * (6 * (10 * (60 * numbers) - 9 * dropped_by df)) + x) (start_is df (60 * numbers) l.minutes (l.seconds * numbers + l.frames) p.stays)
    ∙ p.place) in
    ap (λ x. slice_get (filter (keep df) (hours_of numbers 60 24)) x) (sym place)
    ∙ in_day df numbers 60 24 l.hours l.minutes l.seconds l.frames two (omega arith) (omega arith) p.hours p.minutes p.seconds p.frames p.stays

length_some : (df : Bool) (numbers sixty hours : ℕ) → 2 ≤ numbers → 1 ≤ sixty → 2 ≤ sixty * numbers
    → length (filter (keep df) (hours_of numbers sixty hours)) ≡ hours * start df (sixty * numbers) sixty
length_some df numbers sixty hours two one some =
    let big = start df (sixty * numbers) sixty in
    let z : 0 + hours ≡ hours = omega arith in
    let e : (0 + hours) * big ≡ hours * big = ap (λ x. x * big) z in
    ap length (left_over df numbers sixty hours two one)
    ∙ omega (
      arith,
      length-blocks (hour_left df numbers sixty) (λ x. x * big) 0 hours
          (λ x. times_step x big (length (hour_left df numbers sixty x)) (length-hour_left df numbers sixty x some)),
    )

pub length_day : (df : Bool) (numbers : ℕ) → 2 ≤ numbers → length (filter (λ label. not (is_dropped df label)) (all_labels numbers)) ≡ 24 * hour numbers (dropped_by df)
unfolding all_labels
length_day df numbers two = length_some df numbers 60 24 two (omega arith) (omega arith) ∙ ap (λ x. 24 * x) (start_hour df (60 * numbers))

-- a frame of ten minutes, in its minute
record Split (whole d q : ℕ) : Type 0 where
  minute : ℕ
  frame : ℕ
  few : minute ≤ 9
  is : minute * (whole - d) + frame ≡ q
  within : frame < whole
  after : 0 < minute → d ≤ frame

split : (whole d q : ℕ) → d < whole → q < 10 * whole - 9 * d → Split whole d q
split whole d q less lt = by (cases_lt q whole)
  where
    by : (q < whole) ⊎ (whole ≤ q) → Split whole d q
    by (inl first) = record { minute = 0; frame = q; few = omega arith; is = omega arith; within = first; after = λ h. absurd (omega arith) }
    by (inr later) =
        let short = whole - d in
        let rest = q - whole in
        let some : 0 < short = omega arith in
        let in_nine : rest < 9 * short = omega arith in
        let few : rest / short < 9 = div_below rest short 9 some in_nine in
        let low : rest % short < short = mod_below rest short some in
        let sum : rest / short * short + rest % short ≡ rest = div-add-mod' rest short in
        record {
          minute = suc (rest / short);
          frame = d + rest % short;
          few = omega arith;
          is = omega (arith, suc-mul (rest / short) short);
          within = omega arith;
          after = λ h. omega arith;
        }

pub lacks_no_more : (df : Bool) (m x : ℕ) → (0 < m % 10 → dropped_by df ≤ x) → lacking df m ≤ x
lacks_no_more df m x h = by (cases_lt 0 (m % 10))
  where
    by : (0 < m % 10) ⊎ (m % 10 ≤ 0) → lacking df m ≤ x
    by (inl some) = omega (arith, lacking_other df m some, h some)
    by (inr none) = omega (arith, lacking_first df m (omega arith))

joined : (h big rest n t ten q k short x s numbers f tens ones : ℕ) → h * big + rest ≡ n → t * ten + q ≡ rest → k * short + x ≡ q → s * numbers + f ≡ x → tens ≡ t → ones ≡ k
    → h * big + (tens * ten + (ones * short + (s * numbers + f))) ≡ n
joined h big rest n t ten q k short x s numbers f tens ones en er eq ex et eo = rw (et, eo, ex, eq, er) en

-- by division
pub some_label : (df : Bool) (numbers n : ℕ) → 2 ≤ numbers → n < 24 * hour numbers (dropped_by df) → (l : Label) × IsPlaced df numbers l n
some_label df numbers n two lt =
    let d = dropped_by df in
    let whole = 60 * numbers in
    let most : d ≤ 2 = dropped_most df in
    let ten = ten_minutes numbers d in
    let big = hour numbers d in
    let some_ten : 0 < ten = omega arith in
    let some_big : 0 < big = omega arith in
    let rest = n % big in
    let in_hour : rest < big = mod_below n big some_big in
    let in_ten : rest % ten < ten = mod_below rest ten some_ten in
    let s = split whole d (rest % ten) (omega arith) in_ten in
    let t : rest / ten < 6 = div_below rest ten 6 some_ten in_hour in
    let h : n / big < 24 = div_below n big 24 some_big lt in
    let m = rest / ten * 10 + s.minute in
    let tens : m / 10 ≡ rest / ten = omega (arith, s.few) in
    let ones : m % 10 ≡ s.minute = omega (arith, s.few) in
    let sec : s.frame / numbers < 60 = div_below s.frame numbers 60 (omega arith) s.within in
    let frm : s.frame % numbers < numbers = mod_below s.frame numbers (omega arith) in
    let sum : s.frame / numbers * numbers + s.frame % numbers ≡ s.frame = div-add-mod' s.frame numbers in (
      label_with (n / big) m (s.frame / numbers) (s.frame % numbers),
      record {
        hours = h;
        minutes = omega (arith, s.few);
        seconds = sec;
        frames = frm;
        stays = lacks_no_more df m (s.frame / numbers * numbers + s.frame % numbers) (λ k. omega (arith, s.after (omega arith)));
        place =
            joined (n / big) big rest n (rest / ten) ten (rest % ten) s.minute (whole - d) s.frame (s.frame / numbers) numbers (s.frame % numbers) (m / 10) (m % 10)
            (div-add-mod' n big) (div-add-mod' rest ten) s.is sum tens ones;
      },
    )

pub label_placed : (df : Bool) (numbers n : ℕ) (l : Label) → 2 ≤ numbers → slice_get (filter (λ label. not (is_dropped df label)) (all_labels numbers)) n ≡ Some l → IsPlaced df numbers l n
label_placed df numbers n l two found =
    let lt : n < 24 * hour numbers (dropped_by df) = subst (λ x. n < x) (length_day df numbers two) (get_within _ _ _ found) in
    let other = some_label df numbers n two lt in
    let same : other.0 ≡ l = one (sym (placed_in_day df numbers other.0 n two other.1) ∙ found) in
    subst (λ x. IsPlaced df numbers x n) same other.1
  where
    one : {a b : Label} → Some a ≡ Some b → a ≡ b
    one {a} {b} e = cc

-- ---- dropped labels

pub dropped_first : (df : Bool) (numbers : ℕ) (l : Label) → lacking df l.minutes ≤ l.seconds * numbers + l.frames → is_dropped df l ≡ false
dropped_first df numbers l stays = low (lacks df l.minutes) l.seconds l.frames numbers stays
  where
    low : (t : Bool) (s f k : ℕ) → cond t 2 0 ≤ s * k + f → (t && ((s == 0) && nat_lt f 2)) ≡ false
    low true zero f k h = let e : zero * k ≡ 0 = omega arith in grind (arith, nat_tests)
    low true (suc s) f k h = let later : (suc s == 0) ≡ false = grind (arith, nat_tests) in rw later refl
    low false s f k h = refl

pub stays_after : (df : Bool) (numbers : ℕ) (l : Label) → 2 ≤ numbers → is_dropped df l ≡ false → lacking df l.minutes ≤ l.seconds * numbers + l.frames
stays_after df numbers l two e = high (lacks df l.minutes) l.seconds l.frames numbers two e
  where
    high : (t : Bool) (s f k : ℕ) → 2 ≤ k → (t && ((s == 0) && nat_lt f 2)) ≡ false → cond t 2 0 ≤ s * k + f
    high true zero f k two e = let z : zero * k ≡ 0 = omega arith in grind (arith, nat_tests)
    high true (suc s) f k two e = omega (arith, suc-mul s k)
    high false s f k two e = omega arith
