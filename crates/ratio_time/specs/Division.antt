-- Moments rounded to frames by division: the relations on moments as functions, for definitions that
-- compute.
use Rattle.std.specs.Prelude.{ℤ, pos, neg_ℤ, ◌+ℤ◌, int_le, nat_le, unsigned_abs, Bool, cond, ◌&&◌, Option, Some, None, Result, Ok, Err, ◌≡◌, MatchResult}
use Rattle.std.specs.Int.{int_div_euclid}
use Rattle.ratio_time.specs.declared.rate.Rate.{Rate}
use Rattle.ratio_time.specs.declared.time.RationalTime.{RationalTime}
use Rattle.ratio_time.specs.declared.time.TimeRange.{TimeRange}
use Rattle.ratio_time.specs.declared.time.TimeFault.{TimeFault}
use Rattle.ratio_time.specs.declared.time.TimeFault.TheVariants.{NotOnFrame, TooFar}
use Rattle.ratio_time.specs.declared.time.TooFar.{TooFar as Far}
use Rattle.ratio_time.specs.Moments.{over, under}

-- the moment rounded down to a frame, and up
unfoldable pub floor_of : RationalTime → Rate → ℤ
floor_of time rate = int_div_euclid (over time rate) (pos (under time rate))

unfoldable pub ceiling_of : RationalTime → Rate → ℤ
ceiling_of time rate = neg_ℤ (int_div_euclid (neg_ℤ (over time rate)) (pos (under time rate)))

abbrev pub is_near : ℤ → Bool
is_near f = nat_le (unsigned_abs f) 2147483647

abbrev pub near_or_fault : ℤ → Result ℤ TimeFault
near_or_fault f = cond (is_near f) (Ok f) (Err TooFar)

-- the frame of a moment
unfoldable pub frames_of : RationalTime → Rate → Result ℤ TimeFault
frames_of time rate =
    cond (int_le (ceiling_of time rate) (floor_of time rate)) (near_or_fault (floor_of time rate)) (Err NotOnFrame)

abbrev pub near_pair : ℤ → ℤ → Option (ℤ × ℤ)
near_pair from to = cond (is_near from && is_near to) (Some (from, to)) None

-- the frames of a range, or none where one of the two is too far
unfoldable pub narrowed_of : TimeRange → Rate → Option (ℤ × ℤ)
narrowed_of range rate =
    near_pair (ceiling_of range.start rate) (floor_of range.start rate +ℤ floor_of range.duration rate)

-- the answer is that pair, or a fault where there is none
abbrev pub IsNarrowedValue : TimeRange → Rate → Result (ℤ × ℤ) Far → Type 0
IsNarrowedValue range rate answer =
    MatchResult answer (λ frames. narrowed_of range rate ≡ Some frames) (λ _. narrowed_of range rate ≡ None)
