-- Moments of time, after OpenTimelineIO's RationalTime. The value m/10^p at the rate num/den names the
-- moment of (m·den)/(10^p·num) seconds, and f frames of a rate are f·den/num seconds. Moments are
-- compared by whole numbers multiplied crosswise, and nothing is divided.
use Rattle.std.specs.Prelude.{◌≡◌, ℕ, ◌*◌, ◌^◌, ◌≤◌, ℤ, pos, ◌+ℤ◌, ◌*ℤ◌, ◌≤ℤ◌, unsigned_abs}
use Rattle.ratio_time.specs.declared.rate.Rate.{Rate}
use Rattle.ratio_time.specs.declared.time.RationalTime.{RationalTime}
use Rattle.ratio_time.specs.declared.time.TimeRange.{TimeRange}

-- counted in frames of the rate, the moment is the fraction over/under
abbrev pub over : RationalTime → Rate → ℤ
over time rate = time.value.mantissa *ℤ pos (time.rate.den * rate.num)

abbrev pub under : RationalTime → Rate → ℕ
under time rate = 10 ^ time.value.places * time.rate.num * rate.den

-- f frames of the rate name the moment itself; a moment not after it; one not before it
abbrev pub OnFrame : RationalTime → Rate → ℤ → Type 0
OnFrame time rate f = f *ℤ pos (under time rate) ≡ over time rate

abbrev pub NotAfter : RationalTime → Rate → ℤ → Type 0
NotAfter time rate f = (f *ℤ pos (under time rate)) ≤ℤ (over time rate)

abbrev pub NotBefore : RationalTime → Rate → ℤ → Type 0
NotBefore time rate f = (over time rate) ≤ℤ (f *ℤ pos (under time rate))

-- frames are counted this far from 0
abbrev pub IsNear : ℤ → Type 0
IsNear f = unsigned_abs f ≤ 2147483647

-- no frame of the rate names the moment; one does, and is too far
abbrev pub IsBetweenFrames : RationalTime → Rate → Type 0
IsBetweenFrames time rate = (f : ℤ) → OnFrame time rate f → ⊥

abbrev pub IsOnFarFrame : RationalTime → Rate → Type 0
IsOnFarFrame time rate = (f : ℤ) × OnFrame time rate f × (IsNear f → ⊥)

-- the moment rounded down: the greatest frame that is not after it
pub record IsRoundedDown (time : RationalTime) (rate : Rate) (f : ℤ) : Type 0 where
  pub not_after : NotAfter time rate f
  pub greatest : (g : ℤ) → NotAfter time rate g → g ≤ℤ f

-- the moment rounded up: the least frame that is not before it
pub record IsRoundedUp (time : RationalTime) (rate : Rate) (f : ℤ) : Type 0 where
  pub not_before : NotBefore time rate f
  pub least : (g : ℤ) → NotBefore time rate g → f ≤ℤ g

-- the end of a range: its start rounded down, and as many frames more as its duration rounded down
abbrev pub IsEnd : TimeRange → Rate → ℤ → Type 0
IsEnd range rate to =
    (first : ℤ) × (count : ℤ) × IsRoundedDown range.start rate first
    × IsRoundedDown range.duration rate count × (to ≡ first +ℤ count)

-- a range narrowed to whole frames [from, to): from its start rounded up to its end
pub record IsNarrowed (range : TimeRange) (rate : Rate) (from to : ℤ) : Type 0 where
  pub from_frame : IsRoundedUp range.start rate from
  pub to_frame : IsEnd range rate to

-- the two frames are counted; one of them is too far
abbrev pub IsNarrowedNear : TimeRange → Rate → ℤ → ℤ → Type 0
IsNarrowedNear range rate from to = IsNarrowed range rate from to × IsNear from × IsNear to

abbrev pub IsNarrowedFar : TimeRange → Rate → Type 0
IsNarrowedFar range rate =
    (from : ℤ) × (to : ℤ) × IsNarrowed range rate from to × (IsNear from × IsNear to → ⊥)
