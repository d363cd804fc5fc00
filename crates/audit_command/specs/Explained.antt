-- Recorded sessions that a history explains: each is a transcript of the room, as its stations know them.
use Rattle.std.specs.Prelude.{ℕ, ◌+◌, ◌<◌, List, [], ◌∷◌, All, MatchBool, length}
use Rattle.otio_json.specs.declared.opening.Opening.{Opening}
use Rattle.reply_audits.specs.Sessions.{IsCutTranscript}
use Rattle.station_sessions.specs.Rooms.{History, IsLegalIn, RoomTranscript}
use Rattle.station_sessions.specs.Transcript.{new_room}
use Rattle.audit_command.specs.Recordings.{Recording}

-- The history explains what was recorded of a station. Where its session was cut short, it is taken as far as it went.
abbrev pub Explains : Opening → History → ℕ → Recording → Type 0
Explains o h station r = MatchBool r.cut (IsCutTranscript o h station r.lines r.replies) (RoomTranscript o h new_room station r.lines r.replies)

-- so it is with each recording, of the stations from this one on
abbrev pub Each : (ℕ → Recording → Type 0) → ℕ → List Recording → Type 0
Each So station [] = Unit {0}
Each So station (r ∷ rs) = So station r × Each So (station + 1) rs

-- The journal is a legal history of the opening, each of its entries is of one of these stations, and it explains what was
-- recorded of each.
pub record AreLegal (o : Opening) (h : History) (rs : List Recording) : Type 0 where
  pub legal : IsLegalIn o h
  pub seated : All (λ e. e.station < length rs) h
  pub explained : Each (Explains o h) 0 rs
