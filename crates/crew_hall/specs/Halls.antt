-- What is told of a hall whose seats belong to a crew: how often a write to the line of each station has failed, and no
-- bytes.
use Rattle.std.specs.Prelude.{ℕ, List, Option, Some, None}
use Rattle.room_halls.specs.Stations.{LineTold, Station, line_told, station_told, note_of, is_noted}

-- the counts of each station that was seated, and how often a call of the hall has failed
pub record CrewHallState : Type 0 where
  pub seated : List (Option ℕ)
  pub faults : ℕ

-- a station that was not seated has no fault yet; a read of a seat never fails
abbrev pub crew_line_told : Option ℕ → LineTold
crew_line_told None = line_told None None 0 0
crew_line_told (Some faults) = line_told None None 0 faults

abbrev pub crew_hall_tells : CrewHallState → ℕ → Station
crew_hall_tells hall station = station_told (crew_line_told (note_of hall.seated station)) (is_noted (note_of hall.seated station))
