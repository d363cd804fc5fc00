-- The frame of a label, by arithmetic: how many frames the units of time have, where each minute that
-- is no multiple of ten has `dropped` numbers less.
use Rattle.std.specs.Prelude.{ℕ, ◌+◌, ◌-◌, ◌*◌, ◌/◌, ◌%◌, Bool, ◌||◌, cond, nat_lt, nat_le, Result, Ok, Err}
use Rattle.timecode12.specs.declared.counting.LabelFault.{LabelFault}
use Rattle.timecode12.specs.declared.counting.LabelFault.TheVariants.{FieldTooLarge, DroppedNumber}
use Rattle.timecode12.specs.Labels.{is_dropped}
use Rattle.timecode12.specs.Numbers.{numbers_a_second, Counted}
use Rattle.timecode12.specs.declared.label.Label.{Label}

abbrev pub ten_minutes : ℕ → ℕ → ℕ
ten_minutes numbers dropped = 10 * (60 * numbers) - 9 * dropped

abbrev pub hour : ℕ → ℕ → ℕ
hour numbers dropped = 6 * ten_minutes numbers dropped

-- the frame of a label, where it is one
abbrev pub place_of : ℕ → ℕ → Label → ℕ
place_of numbers dropped label =
    label.hours * hour numbers dropped
    + (label.minutes / 10 * ten_minutes numbers dropped
    + (label.minutes % 10 * (60 * numbers - dropped) + (label.seconds * numbers + label.frames)))

-- whether a field is one that no label of a day has
abbrev pub large_field : Counted → Label → Bool
large_field c label =
    nat_lt 23 label.hours || (nat_lt 59 label.minutes
    || (nat_lt 59 label.seconds || nat_le (numbers_a_second c.rate) label.frames))

-- the frame of a label, or its fault, as a function for definitions that compute
unfoldable pub frame_value : Counted → Label → Result ℕ LabelFault
frame_value c label =
    cond (large_field c label) (Err FieldTooLarge)
    (cond (is_dropped c.drop_frame label) (Err DroppedNumber)
    (Ok (place_of (numbers_a_second c.rate) (cond c.drop_frame 2 0) label)))
