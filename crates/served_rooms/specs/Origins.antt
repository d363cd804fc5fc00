-- Where the session of a station begins, in a room that goes on from entries that were kept.
use Rattle.std.specs.Prelude.{ℕ, ◌≤◌, length}
use Rattle.edit_journal.specs.Turns.{last_of}
use Rattle.station_sessions.specs.Rooms.{History}
use Rattle.station_sessions.specs.SessionInside.{IsLegalThere, TrackPass, TrackRoom}
use Rattle.station_sessions.specs.Transcript.{Origin, most_base}

-- All of these were told, and its lines are numbered after the last number that it has in them. Where none were kept that
-- is the beginning of a new room.
abbrev pub origin_of : History → ℕ → Origin
origin_of kept station = record { kept = length kept; base = last_of station kept }

-- a session can begin with this pass
pub record CanBegin (room : TrackRoom) (pass : TrackPass) : Type 0 where
  pub legal : IsLegalThere room pass.entries
  pub base : last_of pass.number pass.entries ≤ most_base
