-- An edit decision list as it is read, line by line: its events, or the first fault, with the line that tells it. Beside
-- the events so far, a counting holds for the next line, and a cut of zero length waits for the line of its dissolve.
use Rattle.std.specs.Prelude.{ℕ, ◌+◌, Bool, false, ◌&&◌, ◌==◌, List, [], ◌∷◌, ◌++◌, Option, Some, None, Result, Ok, Err, if◌then◌else◌}
use Rattle.timecode12.specs.declared.rate.SequenceRate.{SequenceRate}
use Rattle.timecode12.specs.Numbers.{Counted}
use Rattle.edl_events.specs.declared.event.Event.{Event}
use Rattle.edl_lines.specs.declared.code.LineCode.{LineCode}
use Rattle.edl_lines.specs.declared.code.LineCode.TheVariants.{P9, P10}
use Rattle.edl_read.specs.declared.fault.ListReadFault.{ListReadFault}
use Rattle.edl_read.specs.declared.fault.ListReadFault.TheVariants.{Refused}
use Rattle.edl_lines.specs.declared.event_line.EventLine.{EventLine}
use Rattle.edl_lines.specs.declared.said.Said.{Said}
use Rattle.edl_lines.specs.declared.said.Said.TheVariants.{Skipped, Counts, Tells}
use Rattle.edl_read.specs.declared.reading.Waiting.{Waiting}
use Rattle.edl_read.specs.declared.reading.Reading.{Reading}
use Rattle.edl_lines.specs.ListLines.{ListLine, list_lines}
use Rattle.edl_lines.specs.Spelling.{◌>>=◌}
use Rattle.edl_lines.specs.EventLines.{line_says}
use Rattle.edl_read.specs.Overlaps.{first_overlap}

-- a cut of zero length waits, with the line that it stands on
abbrev pub waiting_cut : ℕ → EventLine → Waiting
waiting_cut n e = record {
  line = n;
  number = e.number;
  reel = e.reel;
  channels = e.channels;
  source = e.source;
  place = e.place;
}

-- a dissolve belongs to the cut that waits: it has its number, its channels and its record in
abbrev pub is_pair : Waiting → EventLine → Bool
is_pair w e = e.number == w.number && (e.channels == w.channels && e.place == w.place)

abbrev pub cut_event : ℕ → EventLine → Event
cut_event n e = record {
  line = n;
  reel = e.reel;
  from = None;
  frames = 0;
  channels = e.channels;
  source = e.source;
  place = e.place;
  len = e.len;
}

abbrev pub dissolve_event : ℕ → Waiting → EventLine → ℕ → Event
dissolve_event n w e frames = record {
  line = n;
  reel = e.reel;
  from = Some (record { reel = w.reel; source = w.source });
  frames = frames;
  channels = e.channels;
  source = e.source;
  place = e.place;
  len = e.len;
}

-- an event behind others, where it overlaps with none of them
abbrev pub unless_overlap : Option ℕ → List Event → Event → Result (List Event) ListReadFault
unless_overlap None events e = Ok (events ++ e ∷ [])
unless_overlap (Some other) events e = Err (Refused P10 e.line other)

abbrev pub with_event : List Event → Event → Result (List Event) ListReadFault
with_event events e = unless_overlap (first_overlap events e) events e

-- no cut waits any more
abbrev pub played_on : Counted → List Event → Result Reading ListReadFault
played_on counting events = Ok (record { counting = counting; waits = None; played = events })

-- the line of a cut, where none waits, and one of zero length then waits; where one waits it has no dissolve
abbrev pub after_cut : ℕ → Counted → Option Waiting → List Event → EventLine → Result Reading ListReadFault
after_cut n counting None events e =
    if e.len == 0
    then Ok (record { counting = counting; waits = Some (waiting_cut n e); played = events })
    else (with_event events (cut_event n e) >>= played_on counting)
after_cut n counting (Some w) events e = Err (Refused P9 w.line 0)

-- the line of a dissolve, whose cut is to wait
abbrev pub after_dissolve : ℕ → Counted → Option Waiting → List Event → EventLine → ℕ → Result Reading ListReadFault
after_dissolve n counting None events e frames = Err (Refused P9 n 0)
after_dissolve n counting (Some w) events e frames =
    if is_pair w e
    then (with_event events (dissolve_event n w e frames) >>= played_on counting)
    else Err (Refused P9 n 0)

abbrev pub after_event : ℕ → Reading → EventLine → Option ℕ → Result Reading ListReadFault
after_event n r e None = after_cut n r.counting r.waits r.played e
after_event n r e (Some frames) = after_dissolve n r.counting r.waits r.played e frames

-- a counting, where no cut waits
abbrev pub after_counting : Option Waiting → List Event → Counted → Result Reading ListReadFault
after_counting None events counting = played_on counting events
after_counting (Some w) events counting = Err (Refused P9 w.line 0)

abbrev pub after_said : ℕ → Reading → Result Said LineCode → Result Reading ListReadFault
after_said n r (Err code) = Err (Refused code n 0)
after_said n r (Ok Skipped) = Ok r
after_said n r (Ok (Counts counting)) = after_counting r.waits r.played counting
after_said n r (Ok (Tells e)) = after_event n r e e.frames

-- what is read after line n
abbrev pub after_line : SequenceRate → ℕ → Reading → ListLine → Result Reading ListReadFault
after_line rate n r line = after_said n r (line_says rate r.counting line)

-- at the end no cut waits
abbrev pub at_end : Option Waiting → List Event → Result (List Event) ListReadFault
at_end None events = Ok events
at_end (Some w) events = Err (Refused P9 w.line 0)

-- the list, where these are the lines from line n on
abbrev pub list_from : SequenceRate → ℕ → Reading → List ListLine → Result (List Event) ListReadFault
list_from rate n r [] = at_end r.waits r.played
list_from rate n r (line ∷ lines) = after_line rate n r line >>= (λ s. list_from rate (n + 1) s lines)

-- counting begins as non-drop
abbrev pub first_reading : SequenceRate → Reading
first_reading rate = record {
  counting = record { rate = rate; drop_frame = false };
  waits = None;
  played = [];
}

-- the list that these bytes are at a rate, or its first fault
abbrev pub list_read : SequenceRate → List ℕ → Result (List Event) ListReadFault
list_read rate bytes = list_from rate 1 (first_reading rate) (list_lines bytes)
