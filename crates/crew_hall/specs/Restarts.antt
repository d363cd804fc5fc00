-- Lines of a client over the restarts of a room. Its lines have the numbers 1, 2 and so on over all of them; where the room
-- starts anew a seat begins with the number of the station's last kept entry.
use Rattle.std.specs.Prelude.{ℕ, List, [], ◌∷◌, drop, map, take}
use Rattle.seat_lines.specs.Runs.{Event, IsFrontOf, Notes, happens, heard}
use Rattle.seat_lines.specs.Texts.{shortened}

-- What the client has sent over this connection are its lines, in order, from the one after LINES on; lines to the seat may
-- stand between them, and it may have ended anywhere.
abbrev pub SendsOn : List (List ℕ) → Notes → Type 0
SendsOn lines n = IsFrontOf (heard n) (drop n.lines (map shortened lines))

-- at each moment
abbrev pub AlwaysSendsOn : List (List ℕ) → List Event → Notes → Type 0
AlwaysSendsOn lines [] n = SendsOn lines n
AlwaysSendsOn lines (event ∷ events) n = SendsOn lines n × AlwaysSendsOn lines events (happens event n)

-- the lines after the one of the first number, up to the one of the second
abbrev pub lines_after : ℕ → ℕ → List (List ℕ) → List (List ℕ)
lines_after first last lines = drop first (take last (map shortened lines))
