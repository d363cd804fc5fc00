-- What was recorded of a station: the lines that it sent, the replies that it got, and whether its session was cut short.
use Rattle.std.specs.Prelude.{ℕ, ◌+◌, Bool, List, [], ◌∷◌, length}
use Rattle.line_words.specs.Lines.{Line as InputLine, lines_of}
use Rattle.recorded_sessions.specs.Recordings.{replies_of}

-- of a station; cut where its session ended by a fault
pub record Recording : Type 0 where
  pub lines : List InputLine
  pub replies : List (List ℕ)
  pub cut : Bool

-- of the text that it sent, and the text that it got
abbrev pub recording_of : List ℕ → List ℕ → Bool → Recording
recording_of sent got cut = record { lines = lines_of sent; replies = replies_of got; cut = cut }

-- how many replies were recorded of all stations
abbrev pub replies_in : List Recording → ℕ
replies_in [] = 0
replies_in (r ∷ rs) = length r.replies + replies_in rs
