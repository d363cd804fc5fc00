-- The session gets each line once and in order.
use Rattle.std.proofs.Common.{◌≡◌, ℕ, ◌+◌, ◌-◌, List, [], ◌∷◌, ◌++◌, Bool, true, false, cond, length, take, drop, map, min, refl, sym, ap, ◌∙◌, arith, append_assoc}
use Rattle.std.proofs.lemmas.List.{append-nil, length-append, take-append-drop, take_at, drop_at}
use Rattle.seat_lines.specs.Sayings.{saying_of}
use Rattle.seat_lines.specs.declared.saying.Saying.{Saying}
use Rattle.seat_lines.specs.declared.saying.Saying.TheVariants.{Leave, Got, Nothing}
use Rattle.seat_lines.specs.Texts.{ended, pending_after, shortened, text_of}
use Rattle.seat_lines.specs.Seats.{SeatState, left, let_go_upto, line_comes, lines_come, said, unsent}
use Rattle.seat_lines.specs.Runs.{AlwaysKeeps, Event, Sits, Brings, Breaks, Reads, Writes, Sends, KeepsToRule, Notes, IsFrontOf, begun, breaks, brings, for_session, happens, heard, left_after, of_session, reads, run, sends, sits, writes}
use Rattle.seat_lines.proofs.Texts.{text_of-append}
use Rattle.seat_lines.proofs.Pieces.{ended-append, for_session-append, left_all, left_all-append, pending_after-append}

-- what lines do to a seat, of which those that are for the session are given
pub record Taken (s t : SeatState) (for : List (List ℕ)) (has_left : Bool) : Type 0 where
  pub lines : t.lines ≡ s.lines + length for
  pub waiting : t.waiting ≡ s.waiting ++ text_of for
  pub left : t.has_left ≡ has_left
  pub pending : t.pending ≡ s.pending

taken_none : (s t : SeatState) (b : Bool) → t.lines ≡ s.lines → t.waiting ≡ s.waiting → t.has_left ≡ b → t.pending ≡ s.pending → Taken s t [] b
taken_none s t b l w h p = record { lines = omega (arith, l); waiting = w ∙ sym (append-nil s.waiting); left = h; pending = p }

taken_word : (s : SeatState) (line : List ℕ) (w : Saying) → s.has_left ≡ false → Taken s (said w line s) (of_session false w line) (left_after false w)
taken_word s line Leave h = taken_none s (left s) true refl refl refl refl
taken_word s line (Got n) h = taken_none s (let_go_upto n s) false refl refl h refl
taken_word s line Nothing h = record {
  lines = refl;
  waiting = ap (λ q. s.waiting ++ q) (sym (append-nil (line ++ 10 ∷ [])));
  left = h;
  pending = refl;
}

taken_line : (s : SeatState) (line : List ℕ) (b : Bool) → s.has_left ≡ b
    → Taken s (cond b s (said (saying_of line) line s)) (of_session b (saying_of line) line) (left_after b (saying_of line))
taken_line s line true h = taken_none s s true refl refl h refl
taken_line s line false h = taken_word s line (saying_of line) h

taken_twice : (s t u : SeatState) (xs ys : List (List ℕ)) (b c : Bool) → Taken s t xs b → Taken t u ys c → Taken s u (xs ++ ys) c
taken_twice s t u xs ys b c h k = record {
  lines = omega (arith, h.lines, k.lines, length-append xs ys);
  waiting = k.waiting ∙ (ap (λ q. q ++ text_of ys) h.waiting ∙ (append_assoc s.waiting (text_of xs) (text_of ys) ∙ ap (λ q. s.waiting ++ q) (sym (text_of-append xs ys))));
  left = k.left;
  pending = k.pending ∙ h.pending;
}

line_if : (s t : SeatState) (b c : Bool) → b ≡ c → cond b s t ≡ cond c s t
line_if s t b c h = ap (λ q. cond q s t) h

first_line : (s : SeatState) (line : List ℕ) (b : Bool) → s.has_left ≡ b
    → Taken s (line_comes line s) (of_session b (saying_of line) line) (left_after b (saying_of line))
first_line s line b h = rw (line_if s (said (saying_of line) line s) s.has_left b h) (taken_line s line b h)

pub taken_lines : (lines : List (List ℕ)) (s : SeatState) (b : Bool) → s.has_left ≡ b → Taken s (lines_come lines s) (for_session b lines) (left_all b lines)
taken_lines [] s b h = taken_none s s b refl refl h refl
taken_lines (l ∷ ls) s b h =
    let first : Taken s (line_comes l s) (of_session b (saying_of l) l) (left_after b (saying_of l)) = first_line s l b h in
    taken_twice s (line_comes l s) (lines_come ls (line_comes l s)) (of_session b (saying_of l) l) (for_session (left_after b (saying_of l)) ls)
    (left_after b (saying_of l)) (left_all (left_after b (saying_of l)) ls) first
    (taken_lines ls (line_comes l s) (left_after b (saying_of l)) first.left)

-- ---- the notes

pub record Lined (base : ℕ) (n : Notes) : Type 0 where
  pub lines : n.seat.lines ≡ base + length (n.before ++ heard n)
  pub text : n.read ++ n.seat.waiting ≡ text_of (n.before ++ heard n)
  pub pending : n.seat.pending ≡ pending_after [] n.brought
  pub left : n.seat.has_left ≡ left_all n.was_left (ended [] n.brought)
  pub since : n.lines ≡ base + length n.before

lined_new : (base : ℕ) (n m : Notes) → Lined base n → m.before ≡ n.before ++ heard n → heard m ≡ []
    → m.seat.lines ≡ n.seat.lines → m.read ≡ n.read → m.seat.waiting ≡ n.seat.waiting → m.seat.pending ≡ pending_after [] m.brought
    → m.seat.has_left ≡ left_all m.was_left (ended [] m.brought) → m.lines ≡ n.seat.lines → Lined base m
lined_new base n m h before none lines read waiting pending left since =
    let all : m.before ++ heard m ≡ n.before ++ heard n = rw (none, before) (append-nil (n.before ++ heard n)) in
    record {
      lines = lines ∙ (h.lines ∙ ap (λ q. base + length q) (sym all));
      text = rw (read, waiting) (h.text ∙ ap text_of (sym all));
      pending = pending;
      left = left;
      since = since ∙ (h.lines ∙ ap (λ q. base + length q) (sym before));
    }

lined_bytes : (base : ℕ) (bytes : List ℕ) (n : Notes) → Lined base n → Lined base (brings bytes n)
lined_bytes base bytes n h =
    let more = ended n.seat.pending bytes in
    let t = taken_lines more n.seat n.seat.has_left refl in
    let ends : ended [] (n.brought ++ bytes) ≡ ended [] n.brought ++ more = ended-append [] n.brought bytes ∙ ap (λ p. ended [] n.brought ++ ended p bytes) (sym h.pending) in
    let hears : heard (brings bytes n) ≡ heard n ++ for_session n.seat.has_left more =
    ap (for_session n.was_left) ends
    ∙ (for_session-append n.was_left (ended [] n.brought) more ∙ ap (λ b. heard n ++ for_session b more) (sym h.left)) in
    let all : n.before ++ heard (brings bytes n) ≡ (n.before ++ heard n) ++ for_session n.seat.has_left more =
    ap (λ q. n.before ++ q) hears ∙ sym (append_assoc n.before (heard n) (for_session n.seat.has_left more)) in
    record {
      lines = omega (arith, t.lines, h.lines, ap length all, length-append (n.before ++ heard n) (for_session n.seat.has_left more));
      text =
          ap (λ q. n.read ++ q) t.waiting
          ∙ (sym (append_assoc n.read n.seat.waiting (text_of (for_session n.seat.has_left more)))
          ∙ (ap (λ q. q ++ text_of (for_session n.seat.has_left more)) h.text
          ∙ (sym (text_of-append (n.before ++ heard n) (for_session n.seat.has_left more)) ∙ ap text_of (sym all))));
      pending = ap (λ p. pending_after p bytes) h.pending ∙ sym (pending_after-append [] n.brought bytes);
      left = t.left ∙ (ap (λ b. left_all b more) h.left ∙ (sym (left_all-append n.was_left (ended [] n.brought) more) ∙ ap (left_all n.was_left) (sym ends)));
      since = h.since;
    }

lined_same : (base : ℕ) (n m : Notes) → Lined base n → m.seat.lines ≡ n.seat.lines → m.read ++ m.seat.waiting ≡ n.read ++ n.seat.waiting
    → m.seat.pending ≡ n.seat.pending → m.seat.has_left ≡ n.seat.has_left → m.before ≡ n.before → m.brought ≡ n.brought → m.was_left ≡ n.was_left
    → m.lines ≡ n.lines → Lined base m
lined_same base n m h lines text pending left before brought was since =
    let hears : heard m ≡ heard n = rw (brought, was) refl in
    record {
      lines = rw (lines, before, hears) h.lines;
      text = rw (before, hears) (text ∙ h.text);
      pending = rw brought (pending ∙ h.pending);
      left = rw (brought, was) (left ∙ h.left);
      since = rw (since, before) h.since;
    }

lined_if : (base : ℕ) (b : Bool) (m n : Notes) → Lined base m → Lined base n → Lined base (cond b m n)
lined_if base true m n h k = h
lined_if base false m n h k = k

pub lined_step : (base : ℕ) (event : Event) (n : Notes) → Lined base n → Lined base (happens event n)
lined_step base (Sits got) n h = lined_new base n (sits got n) h refl refl refl refl refl refl refl refl
lined_step base (Brings bytes) n h = lined_if base n.seat.is_here (brings bytes n) n (lined_bytes base bytes n h) h
lined_step base Breaks n h = lined_new base n (breaks n) h refl refl refl refl refl refl refl refl
lined_step base (Reads most) n h =
    lined_same base n (reads most n) h refl
    (append_assoc n.read (take most n.seat.waiting) (drop most n.seat.waiting) ∙ ap (λ q. n.read ++ q) (take-append-drop most n.seat.waiting))
    refl refl refl refl refl refl
lined_step base (Writes bytes letting) n h = lined_same base n (writes bytes letting n) h refl refl refl refl refl refl refl refl
lined_step base (Sends most) n h =
    let k = min most (length (unsent n.seat)) in
    lined_if base n.seat.is_here (sends k n) n (lined_same base n (sends k n) h refl refl refl refl refl refl refl refl) h

-- ---- the rule

pub record Fronted (script : List (List ℕ)) (n : Notes) : Type 0 where
  pub front : IsFrontOf n.before (map shortened script)

since_sitting : (base k m : ℕ) → m ≡ base + k → m - base ≡ k
since_sitting base k m h = omega (arith, h)

-- at each moment the lines so far are a front of the client's
so_far : (script : List (List ℕ)) (base : ℕ) (n : Notes) → Lined base n → Fronted script n → KeepsToRule script base n
    → IsFrontOf (n.before ++ heard n) (map shortened script)
so_far script base n h f k =
    let all = map shortened script in
    let rest : drop (n.lines - base) all ≡ f.front.0 =
    ap (λ m. drop m all) (since_sitting base (length n.before) n.lines h.since)
    ∙ (ap (drop (length n.before)) f.front.1 ∙ drop_at n.before f.front.0 (length n.before) refl) in
    (k.0, f.front.1 ∙ (ap (λ q. n.before ++ q) (sym rest ∙ k.1) ∙ sym (append_assoc n.before (heard n) k.0)))

fronted_if : (script : List (List ℕ)) (b : Bool) (m n : Notes) → Fronted script m → Fronted script n → Fronted script (cond b m n)
fronted_if script true m n h k = h
fronted_if script false m n h k = k

fronted_step : (script : List (List ℕ)) (base : ℕ) (event : Event) (n : Notes) → Lined base n → KeepsToRule script base n
    → Fronted script n → Fronted script (happens event n)
fronted_step script base (Sits got) n h k f = record { front = so_far script base n h f k }
fronted_step script base (Brings bytes) n h k f = fronted_if script n.seat.is_here (brings bytes n) n (record { front = f.front }) f
fronted_step script base Breaks n h k f = record { front = so_far script base n h f k }
fronted_step script base (Reads most) n h k f = record { front = f.front }
fronted_step script base (Writes bytes letting) n h k f = record { front = f.front }
fronted_step script base (Sends most) n h k f =
    fronted_if script n.seat.is_here (sends (min most (length (unsent n.seat))) n) n (record { front = f.front }) f

pub record Ends (script : List (List ℕ)) (base : ℕ) (n : Notes) : Type 0 where
  pub lined : Lined base n
  pub front : IsFrontOf (n.before ++ heard n) (map shortened script)

ends_run : (script : List (List ℕ)) (base : ℕ) (events : List Event) (n : Notes) → Lined base n → Fronted script n
    → AlwaysKeeps script base events n → Ends script base (run events n)
ends_run script base [] n h f k = record { lined = h; front = so_far script base n h f k }
ends_run script base (event ∷ events) n h f k =
    ends_run script base events (happens event n) (lined_step base event n h) (fronted_step script base event n h k.0 f) k.1

pub lined_begun : (base : ℕ) → Lined base (begun base)
lined_begun base = record { lines = omega arith; text = refl; pending = refl; left = refl; since = omega arith }

pub ends_so : (script : List (List ℕ)) (base : ℕ) (events : List Event) → AlwaysKeeps script base events (begun base)
    → Ends script base (run events (begun base))
ends_so script base events k = ends_run script base events (begun base) (lined_begun base) (record { front = (map shortened script, refl) }) k

-- the client's lines up to the last that was taken are those that came
pub lines_taken : (script : List (List ℕ)) (base : ℕ) (n : Notes) → Ends script base n → take (n.seat.lines - base) (map shortened script) ≡ n.before ++ heard n
lines_taken script base n e =
    let all = n.before ++ heard n in
    ap (λ m. take m (map shortened script)) (since_sitting base (length all) n.seat.lines e.lined.lines)
    ∙ (ap (take (length all)) e.front.1 ∙ take_at all e.front.0 (length all) refl)

pub each_once : (script : List (List ℕ)) (base : ℕ) (events : List Event) → AlwaysKeeps script base events (begun base)
    → (run events (begun base)).read ++ (run events (begun base)).seat.waiting
    ≡ text_of (take ((run events (begun base)).seat.lines - base) (map shortened script))
each_once script base events k =
    let e = ends_so script base events k in
    e.lined.text ∙ ap text_of (sym (lines_taken script base (run events (begun base)) e))
