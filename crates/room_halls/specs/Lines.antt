-- What is told of lines over memory.
use Rattle.std.specs.Prelude.{◌≡◌, ◌<◌, ℕ, List, [], Option, Some, None, Bool, true, length, slice_get}
use Rattle.room_ports.specs.Calls.{Calls}
use Rattle.room_ports.specs.Pieces.{joined}
use Rattle.room_ports.specs.declared.line.MemLine.{MemLine}
use Rattle.room_halls.specs.declared.sure_line.SurePair.{SurePair}
use Rattle.room_halls.specs.Stations.{LineTold, Station, line_told, station_told, note_of, is_noted}

abbrev pub mem_line_told : MemLine → LineTold
mem_line_told l = line_told (Some (joined l.input.pieces)) l.output.bytes l.input.calls.faults l.output.calls.faults

abbrev pub sure_line_told : SurePair → LineTold
sure_line_told l = line_told (Some (joined l.input)) l.output.bytes 0 0

-- a line whose input is at its end, and whose output tells nothing
abbrev pub blank_told : LineTold
blank_told = line_told (Some []) None 0 0

-- the line of a station, and a blank one where there is none
abbrev pub told_or_blank : {L : Type 0} → (L → LineTold) → Option L → LineTold
told_or_blank told None = blank_told
told_or_blank told (Some line) = told line

abbrev pub hall_tells : {L T : Type 0} → (L → LineTold) → List L → List (Option T) → ℕ → Station
hall_tells told lines notes station =
    station_told (told_or_blank told (slice_get lines station)) (is_noted (note_of notes station))

-- a hall over memory: the lines, whether the line of a station is away, the calls that it has had, how often a call
-- failed, and the addresses at which it was opened
pub record HallState : Type 0 where
  pub lines : List MemLine
  pub away : List (Option Bool)
  pub calls : Calls
  pub faults : ℕ
  pub opened : Option (List (List ℕ))

abbrev pub mem_hall_tells : HallState → ℕ → Station
mem_hall_tells hall station = hall_tells mem_line_told hall.lines hall.away station

-- the station has a line, and it is not away
abbrev pub HasLine : HallState → ℕ → Type 0
HasLine hall station = (station < length hall.lines) × ((note_of hall.away station ≡ Some true) → ⊥)

-- a hall that never fails
pub record SureHallState : Type 0 where
  pub lines : List SurePair
  pub seated : List (Option (Unit {0}))
  pub opened : Option (List (List ℕ))

abbrev pub sure_hall_tells : SureHallState → ℕ → Station
sure_hall_tells hall station = hall_tells sure_line_told hall.lines hall.seated station
