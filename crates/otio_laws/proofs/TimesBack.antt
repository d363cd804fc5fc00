-- A time and a range that were written are read again.
use Rattle.std.proofs.Common.{◌≡◌, ℕ, zero, suc, ◌+◌, ◌-◌, ◌*◌, ◌/◌, ◌<◌, ◌≤◌, min, ℤ, pos, negsuc, neg_ℤ, ◌+ℤ◌, int_le, int_lt, Bool, true, false, cond, ◌&&◌, Option, Some, None, Result, Ok, Err, refl, sym, ap, subst, ◌∙◌, arith, if◌then◌else◌}
use Rattle.std.specs.Prelude.{codes, nat_lt}
use Rattle.std.specs.Int.{int_div_euclid}
use Rattle.std.proofs.lemmas.Bool.{le-leb, lt-ltb, leb-true}
use Rattle.std.proofs.lemmas.Nat.{div-mul-add}
use Rattle.std.proofs.Math.Nat.{mul_comm, mul-add}
use Rattle.timecode12.specs.declared.rate.SequenceRate.{SequenceRate}
use Rattle.timecode12.specs.declared.rate.SequenceRate.TheVariants.{F23976, F24, F25, F2997, F30}
use Rattle.timecode12.specs.Numbers.{rate_num, rate_den}
use Rattle.ratio_time.specs.declared.time.TimeFault.{TimeFault}
use Rattle.ratio_time.specs.declared.time.TimeFault.TheVariants.{NotOnFrame, TooFar}
use Rattle.ratio_time.specs.Division.{near_or_fault, near_pair}
use Rattle.json_tree.specs.Tree.{At, Numeral_of}
use Rattle.json_tree.specs.Parts.{place_of}
use Rattle.json_tree.proofs.WriteLaws.{placed}
use Rattle.otio_tracks.specs.declared.faults.DocCode.TheVariants.{O14}
use Rattle.otio_tracks.specs.Reading.{refuse}
use Rattle.otio_tracks.specs.Values.{needed, expected}
use Rattle.otio_tracks.specs.Times.{Moment, rate_meant, rate_read, moment_read, frame_below, frame_above, frame_at, on_frame, frame_read, length_read, span_read, gap_read}
use Rattle.otio_tracks.specs.Clips.{clamped, in_media, narrowed, media_if, available_read}
use Rattle.otio_laws.specs.CutTrees.{rate_tree, time_tree, range_tree}
use Rattle.otio_laws.proofs.Walk.{goes, Has, IsOf, needed_back, expected_back}

abbrev pub pair_of : SequenceRate → ℕ × ℕ
pair_of r = (rate_num r, rate_den r)

-- ---- numbers

floor_back : (n k f : ℕ) → 0 < k → n ≡ f * k → int_div_euclid (pos n) (pos k) ≡ pos f
floor_back n k f some e =
    let sum : n ≡ f * k + 0 = omega arith in
    ap pos (ap (λ (x : ℕ). x / k) sum ∙ div-mul-add f k 0 some)

ceiling_suc : (n g k : ℕ) → suc n ≡ g * k + k → 0 < k → neg_ℤ (int_div_euclid (negsuc n) (pos k)) ≡ pos (suc g)
ceiling_suc n g k e some =
    let sum : n ≡ g * k + (k - 1) = omega arith in
    let q : n / k ≡ g = ap (λ (x : ℕ). x / k) sum ∙ div-mul-add g k (k - 1) (omega arith) in
    ap (λ (x : ℕ). pos (suc x)) q

ceiling_back : (n k f : ℕ) → 0 < k → n ≡ f * k → neg_ℤ (int_div_euclid (neg_ℤ (pos n)) (pos k)) ≡ pos f
ceiling_back n k zero some e =
    let none : n ≡ 0 = omega arith in
    let zero_is : 0 ≡ 0 * k + 0 = omega arith in
    let q : 0 / k ≡ 0 = ap (λ (x : ℕ). x / k) zero_is ∙ div-mul-add 0 k 0 some in
    subst (λ (m : ℕ). neg_ℤ (int_div_euclid (neg_ℤ (pos m)) (pos k)) ≡ pos 0) (sym none) (ap (λ (x : ℕ). neg_ℤ (pos x)) q)
ceiling_back n k (suc g) some e = by_number n (e ∙ more)
  where
    more : suc g * k ≡ g * k + k
    more = mul_comm (suc g) k ∙ ap (λ (x : ℕ). k * x) (omega arith) ∙ mul-add k g 1 ∙ omega (arith, mul_comm k g)

    by_number : (m : ℕ) → m ≡ g * k + k → neg_ℤ (int_div_euclid (neg_ℤ (pos m)) (pos k)) ≡ pos (suc g)
    by_number zero h = absurd (omega arith)
    by_number (suc m) h = ceiling_suc m g k h some

pub not_below : (f : ℕ) → int_lt (pos f) (pos 0) ≡ false
not_below f = grind arith

le_self : (f : ℕ) → int_le (pos f) (pos f) ≡ true
le_self f = grind arith

frame_from : (f : ℕ) (a b : ℤ) → a ≡ pos f → b ≡ pos f → f ≤ 2147483647 → cond (int_le a b) (near_or_fault b) (Err NotOnFrame) ≡ Ok (pos f)
frame_from f a b above below near =
    (λ i. cond (int_le (above i) (below i)) (near_or_fault (below i)) (Err NotOnFrame))
    ∙ (λ i. cond (le_self f i) (cond (le-leb f 2147483647 near i) (Ok (pos f)) (Err TooFar)) (Err NotOnFrame))

-- a whole number of frames at a rate
abbrev whole_moment : SequenceRate → ℕ → Moment
whole_moment r f = record { value = (pos f, 0); rate = pair_of r }

below_whole : (r : SequenceRate) (f : ℕ) → frame_below (whole_moment r f) (pair_of r) ≡ pos f
below_whole F23976 f = floor_back (f * 24024000) 24024000 f (omega arith) refl
below_whole F24 f = floor_back (f * 24) 24 f (omega arith) refl
below_whole F25 f = floor_back (f * 25) 25 f (omega arith) refl
below_whole F2997 f = floor_back (f * 30030000) 30030000 f (omega arith) refl
below_whole F30 f = floor_back (f * 30) 30 f (omega arith) refl

above_whole : (r : SequenceRate) (f : ℕ) → frame_above (whole_moment r f) (pair_of r) ≡ pos f
above_whole F23976 f = ceiling_back (f * 24024000) 24024000 f (omega arith) refl
above_whole F24 f = ceiling_back (f * 24) 24 f (omega arith) refl
above_whole F25 f = ceiling_back (f * 25) 25 f (omega arith) refl
above_whole F2997 f = ceiling_back (f * 30030000) 30030000 f (omega arith) refl
above_whole F30 f = ceiling_back (f * 30) 30 f (omega arith) refl

frame_whole : (r : SequenceRate) (f : ℕ) → f ≤ 2147483647 → frame_at (whole_moment r f) (pair_of r) ≡ Ok (pos f)
unfolding frame_at
frame_whole r f near = frame_from f (frame_above (whole_moment r f) (pair_of r)) (frame_below (whole_moment r f) (pair_of r)) (above_whole r f) (below_whole r f) near

-- ---- times

time_is : (r : SequenceRate) (f : ℕ) → IsOf (codes "RationalTime.1") (time_tree r f)
unfolding time_tree
time_is r f = record { object = refl; schema = refl }

time_rate : (r : SequenceRate) (f : ℕ) → Has (codes "rate") (time_tree r f) (rate_tree r)
unfolding time_tree
time_rate r f = refl

time_value : (r : SequenceRate) (f : ℕ) → Has (codes "value") (time_tree r f) (At 0 (Numeral_of (pos f) 0))
unfolding time_tree
time_value r f = refl

rate_back : (r : SequenceRate) (at : ℕ) → rate_read (placed at (rate_tree r)) ≡ Ok (pair_of r)
unfolding rate_meant
rate_back F23976 at = refl
rate_back F24 at = refl
rate_back F25 at = refl
rate_back F2997 at = refl
rate_back F30 at = refl

pub moment_back : (r : SequenceRate) (f at : ℕ) → moment_read (placed at (time_tree r f)) ≡ Ok (whole_moment r f)
unfolding moment_read
moment_back r f at =
    let t = placed at (time_tree r f) in
    let a = needed_back (codes "rate") (time_tree r f) (rate_tree r) at (time_rate r f) in
    let v = needed_back (codes "value") (time_tree r f) (At 0 (Numeral_of (pos f) 0)) at (time_value r f) in
    goes (expected (codes "RationalTime.1") t) _ tt _ (expected_back (codes "RationalTime.1") (time_tree r f) at (time_is r f))
    (goes (needed (codes "rate") t) _ (placed a.0 (rate_tree r)) _ a.1
    (goes (rate_read (placed a.0 (rate_tree r))) _ (pair_of r) _ (rate_back r a.0)
    (goes (needed (codes "value") t) _ (placed v.0 (At 0 (Numeral_of (pos f) 0))) _ v.1 refl)))

pub frame_back : (r : SequenceRate) (f at : ℕ) → f ≤ 2147483647 → frame_read (pair_of r) (placed at (time_tree r f)) ≡ Ok (pos f)
unfolding frame_read
frame_back r f at near =
    goes (moment_read (placed at (time_tree r f))) _ (whole_moment r f) _ (moment_back r f at)
    (ap (λ (x : Result ℤ TimeFault). on_frame x (place_of (placed at (time_tree r f)))) (frame_whole r f near))

-- ---- ranges

range_is : (r : SequenceRate) (from len : ℕ) → IsOf (codes "TimeRange.1") (range_tree r from len)
unfolding range_tree
range_is r from len = record { object = refl; schema = refl }

range_duration : (r : SequenceRate) (from len : ℕ) → Has (codes "duration") (range_tree r from len) (time_tree r len)
unfolding range_tree
range_duration r from len = refl

range_start : (r : SequenceRate) (from len : ℕ) → Has (codes "start_time") (range_tree r from len) (time_tree r from)
unfolding range_tree
range_start r from len = refl

length_back : (r : SequenceRate) (from len at : ℕ) → len ≤ 2147483647 → length_read (pair_of r) (placed at (range_tree r from len)) ≡ Ok len
unfolding length_read
length_back r from len at near =
    let d = needed_back (codes "duration") (range_tree r from len) (time_tree r len) at (range_duration r from len) in
    goes (needed (codes "duration") (placed at (range_tree r from len))) _ (placed d.0 (time_tree r len)) _ d.1
    (goes (frame_read (pair_of r) (placed d.0 (time_tree r len))) _ (pos len) _ (frame_back r len d.0 near)
    (ap (λ (b : Bool). if b then refuse O14 (place_of (placed d.0 (time_tree r len))) else Ok len) (not_below len)))

pub gap_back : (r : SequenceRate) (from len at : ℕ) → len ≤ 2147483647 → gap_read (pair_of r) (placed at (range_tree r from len)) ≡ Ok len
unfolding gap_read
gap_back r from len at near =
    goes (expected (codes "TimeRange.1") (placed at (range_tree r from len))) _ tt _ (expected_back (codes "TimeRange.1") (range_tree r from len) at (range_is r from len))
    (length_back r from len at near)

pub span_back : (r : SequenceRate) (from len at : ℕ) → from ≤ 2147483647 → len ≤ 2147483647
    → span_read (pair_of r) (placed at (range_tree r from len)) ≡ Ok (record { at = place_of (placed at (range_tree r from len)); start = pos from; len = len })
unfolding span_read
span_back r from len at f l =
    let t = placed at (range_tree r from len) in
    let s = needed_back (codes "start_time") (range_tree r from len) (time_tree r from) at (range_start r from len) in
    goes (expected (codes "TimeRange.1") t) _ tt _ (expected_back (codes "TimeRange.1") (range_tree r from len) at (range_is r from len))
    (goes (needed (codes "start_time") t) _ (placed s.0 (time_tree r from)) _ s.1
    (goes (frame_read (pair_of r) (placed s.0 (time_tree r from))) _ (pos from) _ (frame_back r from s.0 f)
    (goes (length_read (pair_of r) t) _ len _ (length_back r from len at l) refl)))

-- ---- the frames that a range has in media

clamped_back : (f : ℕ) → f ≤ 16777216 → clamped (pos f) ≡ f
clamped_back f le = by_test (int_le (pos f) (pos 0)) refl where
  by_test : (b : Bool) → int_le (pos f) (pos 0) ≡ b → (if b then 0 else min f 16777216) ≡ f
  by_test true e = let none : f ≤ 0 = leb-true f 0 e in omega arith
  by_test false e = omega arith

abbrev some_if : Bool → ℕ → ℕ → Option (ℕ × ℕ)
some_if b from to = if b then Some (from, to) else None

media_by : (a b from to : ℕ) → a ≡ from → b ≡ to → from < to → some_if (nat_lt a b) a b ≡ Some (from, to)
media_by a b from to e f lt = (λ i. some_if (nat_lt (e i) (f i)) (e i) (f i)) ∙ ap (λ (t : Bool). some_if t from to) (lt-ltb from to lt)

media_back : (from to : ℕ) → from < to → to ≤ 16777216 → in_media (pos from) (pos to) ≡ Some (from, to)
media_back from to lt le = media_by (clamped (pos from)) (clamped (pos to)) from to (clamped_back from (omega arith)) (clamped_back to le) lt

narrowed_from : (a b d : ℤ) (from len at : ℕ) → a ≡ pos from → b ≡ pos from → d ≡ pos len → 0 < len → from + len ≤ 16777216 → media_if (near_pair a (b +ℤ d)) at ≡ Ok (Some (from, from + len))
narrowed_from a b d from len at e f g some le =
    (λ i. media_if (near_pair (e i) (f i +ℤ g i)) at)
    ∙ (λ i. media_if (cond (le-leb from 2147483647 (omega arith) i && le-leb (from + len) 2147483647 (omega arith) i) (Some (pos from, pos (from + len))) None) at)
    ∙ ap Ok (media_back from (from + len) (omega arith) le)

pub available_back : (r : SequenceRate) (from len at : ℕ) → 0 < len → from + len ≤ 16777216 → available_read (pair_of r) (placed at (range_tree r from len)) ≡ Ok (Some (from, from + len))
unfolding available_read narrowed
available_back r from len at some le =
    let t = placed at (range_tree r from len) in
    let s = needed_back (codes "start_time") (range_tree r from len) (time_tree r from) at (range_start r from len) in
    let d = needed_back (codes "duration") (range_tree r from len) (time_tree r len) at (range_duration r from len) in
    goes (expected (codes "TimeRange.1") t) _ tt _ (expected_back (codes "TimeRange.1") (range_tree r from len) at (range_is r from len))
    (goes (needed (codes "start_time") t) _ (placed s.0 (time_tree r from)) _ s.1
    (goes (moment_read (placed s.0 (time_tree r from))) _ (whole_moment r from) _ (moment_back r from s.0)
    (goes (needed (codes "duration") t) _ (placed d.0 (time_tree r len)) _ d.1
    (goes (moment_read (placed d.0 (time_tree r len))) _ (whole_moment r len) _ (moment_back r len d.0)
    (ap (λ (b : Bool). if b then refuse O14 (place_of (placed d.0 (time_tree r len))) else media_if (narrowed (whole_moment r from) (whole_moment r len) (pair_of r)) (place_of t)) (not_below len)
    ∙ narrowed_from (frame_above (whole_moment r from) (pair_of r)) (frame_below (whole_moment r from) (pair_of r)) (frame_below (whole_moment r len) (pair_of r)) from len (place_of t) (above_whole r from) (below_whole r from) (below_whole r len) some le)))))
