-- A seat that begins after some line.
use Rattle.std.proofs.Common.{◌≡◌, ℕ, ◌+◌, ◌-◌, ◌≤◌, List, [], ◌∷◌, ◌++◌, Bool, true, false, cond, drop, map, take, sym, ap, subst, ◌∙◌, arith}
use Rattle.std.proofs.lemmas.List.{drop-drop, drop-map, drop-take}
use Rattle.seat_lines.specs.Sayings.{saying_of}
use Rattle.seat_lines.specs.declared.saying.Saying.{Saying}
use Rattle.seat_lines.specs.declared.saying.Saying.TheVariants.{Leave, Got, Nothing}
use Rattle.seat_lines.specs.Texts.{ended, shortened, text_of}
use Rattle.seat_lines.specs.Seats.{SeatState, line_comes, lines_come, said}
use Rattle.seat_lines.specs.Runs.{AlwaysKeeps, Event, Sits, Brings, Breaks, Reads, Writes, Sends, IsFrontOf, KeepsToRule, Notes, begun, brings, happens, heard, run, sends}
use Rattle.crew_hall.specs.Restarts.{AlwaysSendsOn, SendsOn, lines_after}

-- no line is taken back

said_lines : (s : SeatState) (line : List ℕ) (w : Saying) → s.lines ≤ (said w line s).lines
said_lines s line Leave = omega arith
said_lines s line (Got number) = omega arith
said_lines s line Nothing = omega arith

lines_if : (s t : SeatState) (b : Bool) → s.lines ≤ t.lines → s.lines ≤ (cond b s t).lines
lines_if s t true h = omega arith
lines_if s t false h = h

line_lines : (s : SeatState) (line : List ℕ) → s.lines ≤ (line_comes line s).lines
line_lines s line = lines_if s (said (saying_of line) line s) s.has_left (said_lines s line (saying_of line))

all_lines : (lines : List (List ℕ)) (s : SeatState) → s.lines ≤ (lines_come lines s).lines
all_lines [] s = omega arith
all_lines (line ∷ lines) s = omega (arith, line_lines s line, all_lines lines (line_comes line s))

-- what was answered to who sat down, and what was taken, is at least what the seat began with
pub record Above (base : ℕ) (n : Notes) : Type 0 where
  pub answered : base ≤ n.lines
  pub taken : base ≤ n.seat.lines

above_if : (base : ℕ) (b : Bool) (m n : Notes) → Above base m → Above base n → Above base (cond b m n)
above_if base true m n h k = h
above_if base false m n h k = k

above_brings : (base : ℕ) (bytes : List ℕ) (n : Notes) → Above base n → Above base (brings bytes n)
above_brings base bytes n h = record { answered = h.answered; taken = omega (arith, h.taken, all_lines (ended n.seat.pending bytes) n.seat) }

above_happens : (base : ℕ) (event : Event) (n : Notes) → Above base n → Above base (happens event n)
above_happens base (Sits got) n h = record { answered = h.taken; taken = h.taken }
above_happens base (Brings bytes) n h = above_if base n.seat.is_here (brings bytes n) n (above_brings base bytes n h) h
above_happens base Breaks n h = record { answered = h.taken; taken = h.taken }
above_happens base (Reads most) n h = record { answered = h.answered; taken = h.taken }
above_happens base (Writes bytes letting) n h = record { answered = h.answered; taken = h.taken }
above_happens base (Sends most) n h = above_if base n.seat.is_here _ n (record { answered = h.answered; taken = h.taken }) h

above_run : (base : ℕ) (events : List Event) (n : Notes) → Above base n → Above base (run events n)
above_run base [] n h = h
above_run base (event ∷ events) n h = above_run base events (happens event n) (above_happens base event n h)

above_begun : (base : ℕ) → Above base (begun base)
above_begun base = record { answered = omega arith; taken = omega arith }

pub lines_above : (base : ℕ) (events : List Event) → base ≤ (run events (begun base)).seat.lines
lines_above base events = (above_run base events (begun base) (above_begun base)).taken

-- a client that sends on keeps to the rule of a seat, whose first line is the one after its base

later_lines : (lines : List (List ℕ)) (base last : ℕ) → base ≤ last → drop (last - base) (map shortened (drop base lines)) ≡ drop last (map shortened lines)
later_lines lines base last h =
    let counts : base + (last - base) ≡ last = omega arith in
    ap (λ (all : List (List ℕ)). drop (last - base) all) (sym (drop-map shortened base lines))
    ∙ (drop-drop (last - base) base (map shortened lines) ∙ ap (λ (n : ℕ). drop n (map shortened lines)) counts)

keeps : (lines : List (List ℕ)) (base : ℕ) (n : Notes) → Above base n → SendsOn lines n → KeepsToRule (drop base lines) base n
keeps lines base n above sends =
    let P : List (List ℕ) → Type 0 = λ all. IsFrontOf (heard n) all in subst P (sym (later_lines lines base n.lines above.answered)) sends

always : (lines : List (List ℕ)) (base : ℕ) (events : List Event) (n : Notes) → Above base n → AlwaysSendsOn lines events n
    → AlwaysKeeps (drop base lines) base events n
always lines base [] n above sends = keeps lines base n above sends
always lines base (event ∷ events) n above sends =
    (keeps lines base n above sends.0, always lines base events (happens event n) (above_happens base event n above) sends.1)

middle_lines : (lines : List (List ℕ)) (base last : ℕ) → base ≤ last → take (last - base) (map shortened (drop base lines)) ≡ lines_after base last lines
middle_lines lines base last h =
    let counts : base + (last - base) ≡ last = omega arith in
    ap (λ (all : List (List ℕ)). take (last - base) all) (sym (drop-map shortened base lines))
    ∙ (sym (drop-take base (last - base) (map shortened lines)) ∙ ap (λ (n : ℕ). drop base (take n (map shortened lines))) counts)

-- where each line of a client that keeps to the rule is taken once and in order, so is each of one that sends on
pub goes_on : ((script : List (List ℕ)) (base : ℕ) (events : List Event) → AlwaysKeeps script base events (begun base)
    → (run events (begun base)).read ++ (run events (begun base)).seat.waiting ≡ text_of (take ((run events (begun base)).seat.lines - base) (map shortened script)))
    → (lines : List (List ℕ)) (base : ℕ) (events : List Event) → AlwaysSendsOn lines events (begun base)
    → (run events (begun base)).read ++ (run events (begun base)).seat.waiting ≡ text_of (lines_after base (run events (begun base)).seat.lines lines)
goes_on once lines base events sends =
    once (drop base lines) base events (always lines base events (begun base) (above_begun base) sends)
    ∙ ap text_of (middle_lines lines base (run events (begun base)).seat.lines (lines_above base events))
