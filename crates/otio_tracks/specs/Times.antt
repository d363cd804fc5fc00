-- Times: a RationalTime is a value at a rate, and names a moment; a TimeRange is a start and a duration. Rates and
-- numbers are pairs here: num/den a second, and m/10^p.
use Rattle.std.specs.Prelude.{ℕ, ◌*◌, ◌^◌, ℤ, pos, neg_ℤ, ◌*ℤ◌, ◌-ℤ◌, int_le, int_lt, nat_le, unsigned_abs, Bool, cond, ◌&&◌, Option, Some, None, Result, Ok, Err, codes, if◌then◌else◌}
use Rattle.std.specs.Int.{int_div_euclid}
use Rattle.std.specs.List.{find}
use Rattle.std.specs.Option.{option_or}
use Rattle.ratio_time.specs.declared.rate.Rate.{Rate}
use Rattle.ratio_time.specs.declared.time.RationalTime.{RationalTime}
use Rattle.ratio_time.specs.declared.time.TimeFault.{TimeFault}
use Rattle.ratio_time.specs.declared.time.TimeFault.TheVariants.{NotOnFrame}
use Rattle.ratio_time.specs.Division.{near_or_fault}
use Rattle.ratio_time.specs.Rates.{usual_rates}
use Rattle.json_tokens.specs.Reading.{◌>>=◌}
use Rattle.json_tree.specs.Tree.{Tree, Kind, Numeral_of, Wide}
use Rattle.json_tree.specs.Parts.{place_of, kind_in}
use Rattle.otio_tracks.specs.declared.faults.DocCode.TheVariants.{J3, O3, O4, O5, O14}
use Rattle.otio_tracks.specs.declared.times.Span.{Span}
use Rattle.otio_tracks.specs.Reading.{Read, refuse, or_refuse}
use Rattle.otio_tracks.specs.Values.{needed, expected}

-- ---- numbers and rates

abbrev pub numeral_kind : ℕ → Kind → Read (ℤ × ℕ)
numeral_kind at (Numeral_of m p) = Ok (m, p)
numeral_kind at Wide = refuse J3 at
numeral_kind at _ = refuse O3 at

abbrev pub numeral_read : Tree → Read (ℤ × ℕ)
numeral_read t = numeral_kind (place_of t) (kind_in t)

-- how far m/10^p and a rate are apart, in parts of which den·10^p make one
abbrev pub apart_of : ℤ × ℕ → ℕ × ℕ → ℕ
apart_of number rate = unsigned_abs (number.0 *ℤ pos rate.1 -ℤ pos (rate.0 * 10 ^ number.1))

-- the number is at most 1/200 from the rate
abbrev pub is_meant : ℤ × ℕ → ℕ × ℕ → Bool
is_meant number rate = nat_le (200 * apart_of number rate) (rate.1 * 10 ^ number.1)

abbrev pub is_exact : ℤ × ℕ → Bool
is_exact number = int_lt (pos 0) number.0 && (int_lt number.0 (pos (10 ^ 12)) && nat_le number.1 6)

abbrev pub exact_rate : ℤ × ℕ → Option (ℕ × ℕ)
exact_rate number = cond (is_exact number) (Some (unsigned_abs number.0, 10 ^ number.1)) None

-- the rate that a number stands for: a usual one that is near to it, or the number itself
unfoldable pub rate_meant : ℤ × ℕ → Option (ℕ × ℕ)
rate_meant number = option_or (find (is_meant number) usual_rates) (exact_rate number)

abbrev pub rate_read : Tree → Read (ℕ × ℕ)
rate_read t = do
  number ← numeral_read t
  or_refuse (rate_meant number) O5 (place_of t)

-- ---- moments

-- a value at a rate
pub record Moment : Type 0 where
  pub value : ℤ × ℕ
  pub rate : ℕ × ℕ

abbrev pub rate_pair : Rate → ℕ × ℕ
rate_pair rate = (rate.num, rate.den)

abbrev pub moment_of : RationalTime → Moment
moment_of time = record { value = (time.value.mantissa, time.value.places); rate = rate_pair time.rate }

unfoldable pub moment_read : Tree → Read Moment
moment_read t = do
  _ ← expected (codes "RationalTime.1") t
  rate_text ← needed (codes "rate") t
  rate ← rate_read rate_text
  value_text ← needed (codes "value") t
  value ← numeral_read value_text
  Ok (record { value = value; rate = rate })

-- counted in frames of the sequence's rate, the moment is the fraction over/under
abbrev pub over_of : Moment → ℕ × ℕ → ℤ
over_of m rate = m.value.0 *ℤ pos (m.rate.1 * rate.0)

abbrev pub under_of : Moment → ℕ × ℕ → ℕ
under_of m rate = 10 ^ m.value.1 * m.rate.0 * rate.1

-- rounded down to a frame, and up
abbrev pub frame_below : Moment → ℕ × ℕ → ℤ
frame_below m rate = int_div_euclid (over_of m rate) (pos (under_of m rate))

abbrev pub frame_above : Moment → ℕ × ℕ → ℤ
frame_above m rate = neg_ℤ (int_div_euclid (neg_ℤ (over_of m rate)) (pos (under_of m rate)))

-- its frame, if it is one and is not too far
unfoldable pub frame_at : Moment → ℕ × ℕ → Result ℤ TimeFault
frame_at m rate = cond (int_le (frame_above m rate) (frame_below m rate)) (near_or_fault (frame_below m rate)) (Err NotOnFrame)

abbrev pub on_frame : Result ℤ TimeFault → ℕ → Read ℤ
on_frame (Ok f) at = Ok f
on_frame (Err e) at = refuse O4 at

unfoldable pub frame_read : ℕ × ℕ → Tree → Read ℤ
frame_read rate t = do
  moment ← moment_read t
  on_frame (frame_at moment rate) (place_of t)

-- ---- ranges

-- a count of frames
abbrev pub not_negative : ℤ → ℕ → Read ℕ
not_negative frames at = if int_lt frames (pos 0) then refuse O14 at else Ok (unsigned_abs frames)

unfoldable pub length_read : ℕ × ℕ → Tree → Read ℕ
length_read rate t = do
  duration ← needed (codes "duration") t
  frames ← frame_read rate duration
  not_negative frames (place_of duration)

unfoldable pub span_read : ℕ × ℕ → Tree → Read Span
span_read rate t = do
  _ ← expected (codes "TimeRange.1") t
  start_text ← needed (codes "start_time") t
  start ← frame_read rate start_text
  len ← length_read rate t
  Ok (record { at = place_of t; start = start; len = len })

-- of a gap the start is not looked at
unfoldable pub gap_read : ℕ × ℕ → Tree → Read ℕ
gap_read rate t = do
  _ ← expected (codes "TimeRange.1") t
  length_read rate t
