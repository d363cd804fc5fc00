-- The place that a timecode label names: the frame of the day that has the label, counted from the record frame at
-- which the sequence starts. Labels and their frames are those of SMPTE ST 12-1.
use Rattle.std.specs.Prelude.{ℕ, ◌-◌, Bool, ◌&&◌, ◌||◌, List, Option, Some, None, nat_le, nat_lt, bytes_eq, position, if◌then◌else◌}
use Rattle.timecode12.specs.declared.label.Label.{Label}
use Rattle.timecode12.specs.Numbers.{Counted}
use Rattle.timecode12.specs.Labels.{day_of}
use Rattle.timecode12.specs.Spelling.{text_of}

-- two digits four times
abbrev pub has_two_digits : Label → Bool
has_two_digits label =
    (nat_lt label.hours 100 && nat_lt label.minutes 100)
    && (nat_lt label.seconds 100 && nat_lt label.frames 100)

-- the word writes the label, with `:` (58) or `;` (59) before its frames
abbrev pub is_written : List ℕ → Label → Bool
is_written word label =
    has_two_digits label
    && (bytes_eq word (text_of label 58) || bytes_eq word (text_of label 59))

-- the frame of the day whose label the word writes, if there is one
unfoldable pub frame_named : Counted → List ℕ → Option ℕ
frame_named counting word = position (is_written word) (day_of counting)

-- counted from the start, where it is not before it
abbrev pub from_start : ℕ → Option ℕ → Option ℕ
from_start start None = None
from_start start (Some frame) = if nat_le start frame then Some (frame - start) else None

abbrev pub place_by : Counted → ℕ → List ℕ → Option ℕ
place_by counting start word = from_start start (frame_named counting word)
