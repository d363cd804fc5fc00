-- What may happen at a seat, one event after another, and what an onlooker has written down of it.
use Rattle.std.specs.Prelude.{◌≡◌, ℕ, ◌+◌, ◌-◌, List, [], ◌∷◌, ◌++◌, Bool, true, false, length, take, drop, map, min, if◌then◌else◌}
use Rattle.seat_lines.specs.Texts.{ended, shortened}
use Rattle.seat_lines.specs.Sayings.{saying_of}
use Rattle.seat_lines.specs.Seats.{SeatState, broken, bytes_come, done_with, empty_seat, got_of, let_go, put, read_by, sat_down, sent_on, unsent}
use Rattle.seat_lines.specs.declared.saying.Saying.{Saying}
use Rattle.seat_lines.specs.declared.saying.Saying.TheVariants.{Leave, Got, Nothing}

pub data Event : Type 0 where
  -- somebody sits down, who says how many replies it has got
  Sits : (got : ℕ) → Event
  -- bytes come over the connection that is there
  Brings : (bytes : List ℕ) → Event
  Breaks : Event
  -- the session reads at most so many bytes
  Reads : (most : ℕ) → Event
  -- the session writes, and so many replies are let go of first, as far as may be
  Writes : (bytes : List ℕ) → (letting : ℕ) → Event
  -- at most so many bytes go out over the connection that is there
  Sends : (most : ℕ) → Event

pub record Notes : Type 0 where
  pub seat : SeatState
  -- all that the session has read
  pub read : List ℕ
  -- all that it has written
  pub written : List ℕ
  -- the lines for the session that came over connections which are gone
  pub before : List (List ℕ)
  -- whether the station had left when this connection came
  pub was_left : Bool
  -- all that came over this connection
  pub brought : List ℕ
  -- what its sitting down was answered: how many lines were taken, and how many replies stand before the first that
  -- follows
  pub lines : ℕ
  pub replies : ℕ
  -- all that went out over this connection after that answer
  pub out : List ℕ

-- the notes of a station whose last line had this number
abbrev pub begun : ℕ → Notes
begun base = record {
  seat = empty_seat base;
  read = [];
  written = [];
  before = [];
  was_left = false;
  brought = [];
  lines = base;
  replies = base;
  out = [];
}

-- ---- of the lines of a connection those that are for the session

-- one that says nothing to the seat, before the station has left
abbrev pub of_session : Bool → Saying → List ℕ → List (List ℕ)
of_session true saying line = []
of_session false Leave line = []
of_session false (Got number) line = []
of_session false Nothing line = line ∷ []

abbrev pub left_after : Bool → Saying → Bool
left_after true saying = true
left_after false Leave = true
left_after false (Got number) = false
left_after false Nothing = false

abbrev pub for_session : Bool → List (List ℕ) → List (List ℕ)
for_session has_left [] = []
for_session has_left (line ∷ lines) =
    of_session has_left (saying_of line) line ++ for_session (left_after has_left (saying_of line)) lines

-- those that came whole over this connection
abbrev pub heard : Notes → List (List ℕ)
heard n = for_session n.was_left (ended [] n.brought)

-- ---- what happens

abbrev pub sits : ℕ → Notes → Notes
sits got n = record {
  seat = sat_down got n.seat;
  read = n.read;
  written = n.written;
  before = n.before ++ heard n;
  was_left = n.seat.has_left;
  brought = [];
  lines = n.seat.lines;
  replies = n.seat.gone + got_of got n.seat;
  out = [];
}

abbrev pub breaks : Notes → Notes
breaks n = record {
  seat = broken n.seat;
  read = n.read;
  written = n.written;
  before = n.before ++ heard n;
  was_left = n.seat.has_left;
  brought = [];
  lines = n.seat.lines;
  replies = n.replies;
  out = [];
}

abbrev pub brings : List ℕ → Notes → Notes
brings bytes n = record {
  seat = bytes_come bytes n.seat;
  read = n.read;
  written = n.written;
  before = n.before;
  was_left = n.was_left;
  brought = n.brought ++ bytes;
  lines = n.lines;
  replies = n.replies;
  out = n.out;
}

abbrev pub reads : ℕ → Notes → Notes
reads most n = record {
  seat = read_by most n.seat;
  read = n.read ++ take most n.seat.waiting;
  written = n.written;
  before = n.before;
  was_left = n.was_left;
  brought = n.brought;
  lines = n.lines;
  replies = n.replies;
  out = n.out;
}

abbrev pub writes : List ℕ → ℕ → Notes → Notes
writes bytes letting n = record {
  seat = put bytes (let_go (min letting (done_with n.seat)) n.seat);
  read = n.read;
  written = n.written ++ bytes;
  before = n.before;
  was_left = n.was_left;
  brought = n.brought;
  lines = n.lines;
  replies = n.replies;
  out = n.out;
}

abbrev pub sends : ℕ → Notes → Notes
sends n notes = record {
  seat = sent_on n notes.seat;
  read = notes.read;
  written = notes.written;
  before = notes.before;
  was_left = notes.was_left;
  brought = notes.brought;
  lines = notes.lines;
  replies = notes.replies;
  out = notes.out ++ take n (unsent notes.seat);
}

-- Nothing comes or goes out where no connection is there.
abbrev pub happens : Event → Notes → Notes
happens (Sits got) n = sits got n
happens (Brings bytes) n = if n.seat.is_here then brings bytes n else n
happens Breaks n = breaks n
happens (Reads most) n = reads most n
happens (Writes bytes letting) n = writes bytes letting n
happens (Sends most) n = if n.seat.is_here then sends (min most (length (unsent n.seat))) n else n

abbrev pub run : List Event → Notes → Notes
run [] n = n
run (event ∷ events) n = run events (happens event n)

-- ---- the rule for a client

-- the first of these lists is a front of the second
abbrev pub IsFrontOf : {X : Type 0} → List X → List X → Type 0
IsFrontOf {X} front all = (rest : List X) × (all ≡ front ++ rest)

-- What the client has sent over this connection are its own lines, in order, from the one after LINES on; lines to
-- the seat may stand between them, and it may have ended anywhere. Of its lines the first one has the number base +
-- 1.
abbrev pub KeepsToRule : List (List ℕ) → ℕ → Notes → Type 0
KeepsToRule script base n = IsFrontOf (heard n) (drop (n.lines - base) (map shortened script))

-- at each moment
abbrev pub AlwaysKeeps : List (List ℕ) → ℕ → List Event → Notes → Type 0
AlwaysKeeps script base [] n = KeepsToRule script base n
AlwaysKeeps script base (event ∷ events) n = KeepsToRule script base n × AlwaysKeeps script base events (happens event n)
