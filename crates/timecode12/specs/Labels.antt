-- The labels of a day, after SMPTE ST 12-1: hours, minutes, seconds and frames, in ascending order.
use Rattle.std.specs.Prelude.{◌≡◌, ℕ, ◌+◌, ◌%◌, ◌≤◌, zero, suc, [], ◌∷◌, List, map, Bool, not, ◌&&◌, ◌==◌, nat_lt, IsTrue, ◌⊎◌, slice_get, Some}
use Rattle.std.specs.List.{flat_map, filter}
use Rattle.timecode12.specs.Numbers.{numbers_a_second, Counted}
use Rattle.timecode12.specs.declared.label.Label.{Label}

-- so many numbers in order, from a number on
abbrev pub range : ℕ → ℕ → List ℕ
range from zero = []
range from (suc n) = from ∷ range (from + 1) n

abbrev pub label_with : ℕ → ℕ → ℕ → ℕ → Label
label_with h m s f = record { hours = h; minutes = m; seconds = s; frames = f }

-- the labels of a second; of a minute of so many seconds; of an hour of so many minutes; of hours
abbrev pub second_of : ℕ → ℕ → ℕ → ℕ → List Label
second_of numbers h m s = map (label_with h m s) (range 0 numbers)

abbrev pub minute_of : ℕ → ℕ → ℕ → ℕ → List Label
minute_of numbers seconds h m = flat_map (second_of numbers h m) (range 0 seconds)

abbrev pub hour_of : ℕ → ℕ → ℕ → List Label
hour_of numbers sixty h = flat_map (minute_of numbers sixty h) (range 0 sixty)

abbrev pub hours_of : ℕ → ℕ → ℕ → List Label
hours_of numbers sixty hours = flat_map (hour_of numbers sixty) (range 0 hours)

-- all labels of a day, at so many frame numbers a second
unfoldable pub all_labels : ℕ → List Label
all_labels numbers = hours_of numbers 60 24

-- drop-frame counting leaves out the numbers 0 and 1 at the start of each minute that is no multiple
-- of ten
abbrev pub is_dropped : Bool → Label → Bool
is_dropped drop_frame label =
    (drop_frame && not ((label.minutes % 10) == 0)) && ((label.seconds == 0) && nat_lt label.frames 2)

-- the labels that a day has, of which frame n has the n-th
abbrev pub day_of : Counted → List Label
day_of c =
    filter (λ label. not (is_dropped c.drop_frame label)) (all_labels (numbers_a_second c.rate))

abbrev pub IsLabelOf : Counted → ℕ → Label → Type 0
IsLabelOf c frame label = slice_get (day_of c) frame ≡ Some label

-- a field that no label of a day has: hours over 23, minutes or seconds over 59, or a frame number
-- that no second has
abbrev pub HasLargeField : Counted → Label → Type 0
HasLargeField c label =
    (24 ≤ label.hours) ⊎ ((60 ≤ label.minutes)
    ⊎ ((60 ≤ label.seconds) ⊎ (numbers_a_second c.rate ≤ label.frames)))

abbrev pub IsDropped : Counted → Label → Type 0
IsDropped c label = IsTrue (is_dropped c.drop_frame label)
