-- What is told of lines over connections: their counts of faults, and no bytes.
use Rattle.std.specs.Prelude.{ℕ, List, Option, Some, None}
use Rattle.room_halls.specs.declared.tcp_line.LineFaults.{LineFaults}
use Rattle.room_halls.specs.Stations.{LineTold, Station, line_told, station_told, note_of, is_noted}

-- the counts of each station that was seated, how often a call of the hall has failed, and the addresses at which it was
-- opened
pub record TcpHallState : Type 0 where
  pub seated : List (Option LineFaults)
  pub faults : ℕ
  pub opened : Option (List (List ℕ))

-- a line over a stream: the stream, and how often its reads and writes have failed
pub record ConnectionState (T : Type 0) : Type 0 where
  pub stream : T
  pub faults : LineFaults

-- a station that was not seated has no fault yet
abbrev pub connection_told : Option LineFaults → LineTold
connection_told None = line_told None None 0 0
connection_told (Some faults) = line_told None None faults.reads faults.writes

abbrev pub tcp_hall_tells : TcpHallState → ℕ → Station
tcp_hall_tells hall station =
    station_told (connection_told (note_of hall.seated station)) (is_noted (note_of hall.seated station))
