-- How the frames of a sequence are numbered, after SMPTE ST 12-1.
use Rattle.std.specs.Prelude.{ℕ, Bool, ◌&&◌, List, [], ◌∷◌, Option, Some, None, nat_eq, if◌then◌else◌}
use Rattle.timecode12.specs.declared.rate.SequenceRate.{SequenceRate}
use Rattle.timecode12.specs.declared.rate.SequenceRate.TheVariants.{F23976, F24, F25, F2997, F30}

-- frames a second are rate_num/rate_den
abbrev pub rate_num : SequenceRate → ℕ
rate_num F23976 = 24000
rate_num F24 = 24
rate_num F25 = 25
rate_num F2997 = 30000
rate_num F30 = 30

abbrev pub rate_den : SequenceRate → ℕ
rate_den F23976 = 1001
rate_den F24 = 1
rate_den F25 = 1
rate_den F2997 = 1001
rate_den F30 = 1

-- the first of these rates that is num/den
abbrev pub rate_among : List SequenceRate → ℕ → ℕ → Option SequenceRate
rate_among [] num den = None
rate_among (r ∷ rs) num den = if nat_eq num (rate_num r) && nat_eq den (rate_den r) then Some r else rate_among rs num den

-- the rate of a sequence that is num/den
abbrev pub sequence_rate : ℕ → ℕ → Option SequenceRate
sequence_rate = rate_among (F23976 ∷ F24 ∷ F25 ∷ F2997 ∷ F30 ∷ [])

-- how many frame numbers a second has
abbrev pub numbers_a_second : SequenceRate → ℕ
numbers_a_second F23976 = 24
numbers_a_second F24 = 24
numbers_a_second F25 = 25
numbers_a_second F2997 = 30
numbers_a_second F30 = 30

-- a way of counting: with or without drop-frame
pub record Counted : Type 0 where
  pub rate : SequenceRate
  pub drop_frame : Bool
