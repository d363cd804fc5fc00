-- The text of a list, after CMX 3600: two lines at its head, then each event with its number. A cut has one line. A
-- dissolve has two, of which the first is a cut of no length from what it leaves.
use Rattle.std.specs.Prelude.{ℕ, ◌+◌, ◌-◌, Bool, true, false, ◌==◌, List, [], ◌∷◌, ◌++◌, Option, Some, None, map, length, replicate, codes, slice_get, if◌then◌else◌}
use Rattle.std.specs.List.{flat_map, join_with_byte}
use Rattle.timecode12.specs.Numbers.{Counted}
use Rattle.timecode12.specs.Labels.{day_of}
use Rattle.timecode12.specs.Spelling.{text_of}
use Rattle.timecode12.specs.declared.label.Label.{Label}
use Rattle.reel_names.specs.Namers.{three_digits}
use Rattle.edl_events.specs.declared.event.Event.{Event}
use Rattle.edl_events.specs.declared.event.FromLine.{FromLine}
use Rattle.edl_write.specs.declared.lines.EventText.{EventText}
use Rattle.edl_write.specs.Lines.{line_times}

-- with spaces behind it, to a width
abbrev pub padded : ℕ → List ℕ → List ℕ
padded width text = text ++ replicate (width - length text) 32

-- the label of a frame of the day, with ':' throughout
abbrev pub label_text : Option Label → List ℕ
label_text None = []
label_text (Some label) = text_of label 58

abbrev pub time_text : Counted → ℕ → List ℕ
time_text counting frame = label_text (slice_get (day_of counting) frame)

-- times with a space between each two
abbrev pub times_text : Counted → List ℕ → List ℕ
times_text counting times = join_with_byte 32 (map (time_text counting) times)

-- what a line calls its channel
abbrev pub channel_text : ℕ → List ℕ
channel_text channels = if channels == 1 then codes "V" else (if channels == 2 then codes "A" else codes "A2")

-- what a line is: a cut, or a dissolve of so many frames
abbrev pub edit_text : Option ℕ → List ℕ
edit_text None = codes "C        "
edit_text (Some frames) = codes "D    " ++ three_digits frames ++ codes " "

-- number, reel, channel, edit, and the four times
abbrev pub line_text : Counted → EventText → List ℕ
line_text counting l =
    three_digits l.number ++ codes "  " ++ padded 8 l.reel ++ codes " " ++ padded 5 (channel_text l.channels)
    ++ codes " " ++ edit_text l.dissolve ++ times_text counting (line_times l.source l.place l.len) ++ codes "\n"

-- the lines of an event with a number
abbrev pub lines_from : ℕ → Event → Option FromLine → List EventText
lines_from number e None =
    record { number = number; reel = e.reel; channels = e.channels; dissolve = None; source = e.source; place = e.place; len = e.len } ∷ []
lines_from number e (Some from) =
    record { number = number; reel = from.reel; channels = e.channels; dissolve = None; source = from.source; place = e.place; len = 0 }
    ∷ record { number = number; reel = e.reel; channels = e.channels; dissolve = Some e.frames; source = e.source; place = e.place; len = e.len }
    ∷ []

abbrev pub lines_of : ℕ → Event → List EventText
lines_of number e = lines_from number e e.from

abbrev pub event_text : Counted → ℕ → Event → List ℕ
event_text counting number e = flat_map (line_text counting) (lines_of number e)

-- these events, numbered from one on
abbrev pub events_text : Counted → ℕ → List Event → List ℕ
events_text counting number [] = []
events_text counting number (e ∷ es) = event_text counting number e ++ events_text counting (number + 1) es

abbrev pub counting_text : Bool → List ℕ
counting_text true = codes "FCM: DROP FRAME\n"
counting_text false = codes "FCM: NON-DROP FRAME\n"

abbrev pub head_text : Counted → List ℕ
head_text counting = codes "TITLE: CUT\n" ++ counting_text counting.drop_frame

abbrev pub list_text : Counted → List Event → List ℕ
list_text counting events = head_text counting ++ events_text counting 1 events
