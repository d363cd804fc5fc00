-- A seat: what stands between the station that sits on it, over one connection or another, and its session.
use Rattle.std.specs.Prelude.{ℕ, ◌+◌, ◌-◌, List, [], ◌∷◌, ◌++◌, Bool, true, false, length, take, drop, min, if◌then◌else◌}
use Rattle.seat_lines.specs.Texts.{lines_in, after_lines, bytes_of_lines, ended, pending_after}
use Rattle.seat_lines.specs.Sayings.{saying_of}
use Rattle.seat_lines.specs.declared.saying.Saying.{Saying}
use Rattle.seat_lines.specs.declared.saying.Saying.TheVariants.{Leave, Got, Nothing}

pub record SeatState : Type 0 where
  -- a connection is there
  pub is_here : Bool
  -- the station has left: no line of it is taken any more
  pub has_left : Bool
  -- the number of the last line that was taken whole
  pub lines : ℕ
  -- of the next line, what has come over the connection that is there
  pub pending : List ℕ
  -- of the lines that were taken, what the session has not read, each line with its line feed
  pub waiting : List ℕ
  -- the number of the last reply that was let go of
  pub gone : ℕ
  -- what the session has put after that reply
  pub kept : List ℕ
  -- how many bytes of that have gone out over the connection that is there
  pub sent : ℕ

-- a seat before anybody sat on it, of a station whose last line had this number
abbrev pub empty_seat : ℕ → SeatState
empty_seat base =
    record { is_here = false; has_left = false; lines = base; pending = []; waiting = []; gone = base; kept = []; sent = 0 }

-- ---- a connection comes, and breaks

-- How many of the replies that are kept somebody has got who has got all up to this number: none where that is less
-- than was let go of, and all where it is more than there are.
abbrev pub got_of : ℕ → SeatState → ℕ
got_of number s = min (number - s.gone) (lines_in s.kept)

-- Somebody sits down, who has got so many replies. Whoever sat there before is gone, with what was pending.
abbrev pub sat_down : ℕ → SeatState → SeatState
sat_down got s = record {
  is_here = true;
  has_left = s.has_left;
  lines = s.lines;
  pending = [];
  waiting = s.waiting;
  gone = s.gone;
  kept = s.kept;
  sent = bytes_of_lines (got_of got s) s.kept;
}

-- The connection is gone, with what was pending.
abbrev pub broken : SeatState → SeatState
broken s = record {
  is_here = false;
  has_left = s.has_left;
  lines = s.lines;
  pending = [];
  waiting = s.waiting;
  gone = s.gone;
  kept = s.kept;
  sent = s.sent;
}

-- ---- replies are let go of

-- how many bytes of what is kept the connection that is there need not get any more
abbrev pub may_go : SeatState → ℕ
may_go s = if s.is_here then s.sent else length s.kept

-- how many replies may be let go of
abbrev pub done_with : SeatState → ℕ
done_with s = lines_in (take (may_go s) s.kept)

-- so many replies are let go of, the oldest
abbrev pub let_go : ℕ → SeatState → SeatState
let_go n s = record {
  is_here = s.is_here;
  has_left = s.has_left;
  lines = s.lines;
  pending = s.pending;
  waiting = s.waiting;
  gone = s.gone + n;
  kept = after_lines n s.kept;
  sent = s.sent - bytes_of_lines n s.kept;
}

-- those up to this number are, as far as may be
abbrev pub let_go_upto : ℕ → SeatState → SeatState
let_go_upto number s = let_go (min (number - s.gone) (done_with s)) s

-- ---- bytes come

-- a line is taken for the session
abbrev pub line_taken : List ℕ → SeatState → SeatState
line_taken line s = record {
  is_here = s.is_here;
  has_left = s.has_left;
  lines = s.lines + 1;
  pending = s.pending;
  waiting = s.waiting ++ (line ++ 10 ∷ []);
  gone = s.gone;
  kept = s.kept;
  sent = s.sent;
}

abbrev pub left : SeatState → SeatState
left s = record {
  is_here = s.is_here;
  has_left = true;
  lines = s.lines;
  pending = s.pending;
  waiting = s.waiting;
  gone = s.gone;
  kept = s.kept;
  sent = s.sent;
}

-- what a line does that says this to the seat
abbrev pub said : Saying → List ℕ → SeatState → SeatState
said Leave line s = left s
said (Got number) line s = let_go_upto number s
said Nothing line s = line_taken line s

-- after the station has left a line does nothing
abbrev pub line_comes : List ℕ → SeatState → SeatState
line_comes line s = if s.has_left then s else said (saying_of line) line s

abbrev pub lines_come : List (List ℕ) → SeatState → SeatState
lines_come [] s = s
lines_come (line ∷ lines) s = lines_come lines (line_comes line s)

abbrev pub with_pending : List ℕ → SeatState → SeatState
with_pending pending s = record {
  is_here = s.is_here;
  has_left = s.has_left;
  lines = s.lines;
  pending = pending;
  waiting = s.waiting;
  gone = s.gone;
  kept = s.kept;
  sent = s.sent;
}

-- Bytes come over the connection: the lines that end in them, and what is pending after them.
abbrev pub bytes_come : List ℕ → SeatState → SeatState
bytes_come bytes s = with_pending (pending_after s.pending bytes) (lines_come (ended s.pending bytes) s)

-- ---- the session reads and writes, and what it wrote goes out

-- the session reads so many bytes
abbrev pub read_by : ℕ → SeatState → SeatState
read_by n s = record {
  is_here = s.is_here;
  has_left = s.has_left;
  lines = s.lines;
  pending = s.pending;
  waiting = drop n s.waiting;
  gone = s.gone;
  kept = s.kept;
  sent = s.sent;
}

-- it puts bytes of its replies
abbrev pub put : List ℕ → SeatState → SeatState
put bytes s = record {
  is_here = s.is_here;
  has_left = s.has_left;
  lines = s.lines;
  pending = s.pending;
  waiting = s.waiting;
  gone = s.gone;
  kept = s.kept ++ bytes;
  sent = s.sent;
}

-- what has yet to go out
abbrev pub unsent : SeatState → List ℕ
unsent s = drop s.sent s.kept

-- so many bytes of it have gone out
abbrev pub sent_on : ℕ → SeatState → SeatState
sent_on n s = record {
  is_here = s.is_here;
  has_left = s.has_left;
  lines = s.lines;
  pending = s.pending;
  waiting = s.waiting;
  gone = s.gone;
  kept = s.kept;
  sent = s.sent + n;
}

-- ---- for the steps of the code

-- the replies of a seat alone
pub record RepliesState : Type 0 where
  pub gone : ℕ
  pub kept : List ℕ
  pub sent : ℕ

abbrev pub fewer_kept : ℕ → RepliesState → RepliesState
fewer_kept n r = record { gone = r.gone + n; kept = after_lines n r.kept; sent = r.sent - bytes_of_lines n r.kept }
