-- Lines that came over a connection come again as they came.
use Rattle.std.proofs.Common.{◌≡◌, ℕ, ◌+◌, ◌-◌, ◌<◌, ◌≤◌, List, [], ◌∷◌, ◌++◌, Bool, true, false, cond, length, take, map, min, refl, sym, ap, ◌∙◌, arith, inl, inr, None}
use Rattle.std.proofs.lemmas.List.{length-append, length-take, take_all, take-append-le}
use Rattle.std.proofs.lemmas.Bool.{cases_lt}
use Rattle.std.proofs.lemmas.Bool.Decides.{leb_tells, nat_tests}
use Rattle.line_words.specs.Lines.{is_lf, limited, ended_line}
use Rattle.line_words.specs.declared.TheConstants.{MAX_LINE}
use Rattle.seat_lines.specs.Sayings.{saying_of}
use Rattle.seat_lines.specs.Texts.{ended, pending_after, shortened, text_of}
use Rattle.seat_lines.specs.declared.saying.Saying.{Saying}
use Rattle.seat_lines.specs.declared.saying.Saying.TheVariants.{Leave, Got, Nothing}
use Rattle.seat_lines.specs.Seats.{empty_seat, sat_down, unsent}
use Rattle.seat_lines.specs.Runs.{AlwaysKeeps, Event, Sits, Brings, Breaks, Reads, Writes, Sends, Notes, begun, brings, for_session, happens, heard, left_after, of_session, run, sends}
use Rattle.seat_lines.proofs.Pieces.{ended-append, pending_after-append}
use Rattle.seat_lines.proofs.Lined.{each_once, ends_so, lines_taken, taken_lines}

-- ---- a line that is shortened is as long as it was or too long

limited_in : (xs : List ℕ) → length xs ≤ 1024 → shortened xs ≡ xs
limited_in xs h = take_all 1025 xs (omega (arith, h))

limited_out : (xs : List ℕ) → 1024 < length xs → limited xs ≡ None
limited_out xs h = grind (arith, nat_tests)

long_still : (xs : List ℕ) → 1024 < length xs → 1024 < length (shortened xs)
long_still xs h = omega (arith, length-take 1025 xs, h)

pub limited_same : (xs : List ℕ) → limited (shortened xs) ≡ limited xs
limited_same xs = elim (leb_tells (length xs) 1024) [
  | inl h ↦ ap limited (limited_in xs h.1)
  | inr h ↦ limited_out (shortened xs) (long_still xs h.1) ∙ sym (limited_out xs h.1)
]

pub ended_same : (xs : List ℕ) → ended_line (limited (shortened xs)) ≡ ended_line (limited xs)
ended_same xs = ap ended_line (limited_same xs)

-- ---- what is pending, and a line that has ended: without a line feed, and as it is kept

pub record IsPlain (line : List ℕ) : Type 0 where
  pub short : length line ≤ MAX_LINE + 1
  pub alone : ended [] line ≡ []
  pub whole : pending_after [] line ≡ line

plain_none : IsPlain []
plain_none = record { short = omega arith; alone = refl; whole = refl }

ended_other : (p : List ℕ) (b : ℕ) → is_lf b ≡ false → ended p (b ∷ []) ≡ []
ended_other p b h = ap (λ t. cond t (p ∷ []) []) h

pending_other : (p : List ℕ) (b : ℕ) → is_lf b ≡ false → pending_after p (b ∷ []) ≡ shortened (p ++ b ∷ [])
pending_other p b h = ap (λ t. cond t [] (shortened (p ++ b ∷ []))) h

plain_longer : (p : List ℕ) (b : ℕ) → is_lf b ≡ false → shortened (p ++ b ∷ []) ≡ p ++ b ∷ [] → length (p ++ b ∷ []) ≤ MAX_LINE + 1 → IsPlain p → IsPlain (p ++ b ∷ [])
plain_longer p b h same few r = record {
  short = few;
  alone = ended-append [] p (b ∷ []) ∙ (ap (λ ls. ls ++ ended (pending_after [] p) (b ∷ [])) r.alone ∙ (ap (λ q. ended q (b ∷ [])) r.whole ∙ ended_other p b h));
  whole = pending_after-append [] p (b ∷ []) ∙ (ap (λ q. pending_after q (b ∷ [])) r.whole ∙ (pending_other p b h ∙ same));
}

plain_by : (p q : List ℕ) → q ≡ p → IsPlain p → IsPlain q
plain_by p q e r = rw e r

full : (n : ℕ) (p : List ℕ) (b : ℕ) → length p ≤ n → n ≤ length p → take n (p ++ b ∷ []) ≡ p
full n p b few many = take-append-le n p (b ∷ []) many ∙ take_all n p few

fits : (n : ℕ) (p : List ℕ) (b : ℕ) → length p < n → length (p ++ b ∷ []) ≤ n
fits n p b h = omega (arith, length-append p (b ∷ []), h)

plain_more : (p : List ℕ) (b : ℕ) → is_lf b ≡ false → IsPlain p → IsPlain (shortened (p ++ b ∷ []))
plain_more p b h r = elim (cases_lt (length p) (MAX_LINE + 1)) [
  | inl few ↦
      let within = fits (MAX_LINE + 1) p b few in
      let same : shortened (p ++ b ∷ []) ≡ p ++ b ∷ [] = take_all (MAX_LINE + 1) (p ++ b ∷ []) within in
      plain_by (p ++ b ∷ []) (shortened (p ++ b ∷ [])) same (plain_longer p b h same within r)
  | inr many ↦ plain_by p (shortened (p ++ b ∷ [])) (full (MAX_LINE + 1) p b r.short many) r
]

abbrev ArePlain : List (List ℕ) → Type 0
ArePlain [] = Unit {0}
ArePlain (l ∷ ls) = IsPlain l × ArePlain ls

plain_step : (t : Bool) (p q bs : List ℕ) → IsPlain p → (t ≡ false → IsPlain q) → (IsPlain [] → ArePlain (ended [] bs)) → (IsPlain q → ArePlain (ended q bs))
    → ArePlain (cond t (p ∷ ended [] bs) (ended q bs))
plain_step true p q bs h k now later = (h, now plain_none)
plain_step false p q bs h k now later = later (k refl)

ended_plain : (p bs : List ℕ) → IsPlain p → ArePlain (ended p bs)
ended_plain p [] h = tt
ended_plain p (b ∷ bs) h =
    plain_step (is_lf b) p (shortened (p ++ b ∷ [])) bs h (λ other. plain_more p b other h) (ended_plain [] bs) (ended_plain (shortened (p ++ b ∷ [])) bs)

-- ---- lines for the session

abbrev pub AreHeard : List (List ℕ) → Type 0
AreHeard [] = Unit {0}
AreHeard (l ∷ ls) = (IsPlain l × (saying_of l ≡ Nothing)) × AreHeard ls

heard_append : (ls ms : List (List ℕ)) → AreHeard ls → AreHeard ms → AreHeard (ls ++ ms)
heard_append [] ms h k = k
heard_append (l ∷ ls) ms h k = (h.0, heard_append ls ms h.1 k)

heard_one : (b : Bool) (w : Saying) (l : List ℕ) → saying_of l ≡ w → IsPlain l → AreHeard (of_session b w l)
heard_one true w l e h = tt
heard_one false Leave l e h = tt
heard_one false (Got n) l e h = tt
heard_one false Nothing l e h = ((h, e), tt)

heard_all : (b : Bool) (ls : List (List ℕ)) → ArePlain ls → AreHeard (for_session b ls)
heard_all b [] h = tt
heard_all b (l ∷ ls) h =
    heard_append (of_session b (saying_of l) l) (for_session (left_after b (saying_of l)) ls) (heard_one b (saying_of l) l refl h.0)
    (heard_all (left_after b (saying_of l)) ls h.1)

heard_notes : (n : Notes) → AreHeard (heard n)
heard_notes n = heard_all n.was_left (ended [] n.brought) (ended_plain [] n.brought plain_none)

pub record AllHeard (n : Notes) : Type 0 where
  pub before : AreHeard n.before

heard_if : (b : Bool) (m n : Notes) → AllHeard m → AllHeard n → AllHeard (cond b m n)
heard_if true m n h k = h
heard_if false m n h k = k

heard_step : (event : Event) (n : Notes) → AllHeard n → AllHeard (happens event n)
heard_step (Sits got) n h = record { before = heard_append n.before (heard n) h.before (heard_notes n) }
heard_step (Brings bytes) n h = heard_if n.seat.is_here (brings bytes n) n (record { before = h.before }) h
heard_step Breaks n h = record { before = heard_append n.before (heard n) h.before (heard_notes n) }
heard_step (Reads most) n h = record { before = h.before }
heard_step (Writes bytes letting) n h = record { before = h.before }
heard_step (Sends most) n h = heard_if n.seat.is_here (sends (min most (length (unsent n.seat))) n) n (record { before = h.before }) h

heard_run : (events : List Event) (n : Notes) → AllHeard n → AllHeard (run events n)
heard_run [] n h = h
heard_run (event ∷ events) n h = heard_run events (happens event n) (heard_step event n h)

all_heard : (base : ℕ) (events : List Event) → AreHeard ((run events (begun base)).before ++ heard (run events (begun base)))
all_heard base events =
    let n = run events (begun base) in
    heard_append n.before (heard n) (heard_run events (begun base) (record { before = tt })).before (heard_notes n)

-- ---- they come again as they came

ends_alone : (l : List ℕ) → IsPlain l → ended [] (l ++ 10 ∷ []) ≡ l ∷ []
ends_alone l h =
    ended-append [] l (10 ∷ []) ∙ (ap (λ ls. ls ++ ended (pending_after [] l) (10 ∷ [])) h.alone ∙ ap (λ q. ended q (10 ∷ [])) h.whole)

ends_empty : (l : List ℕ) → IsPlain l → pending_after [] (l ++ 10 ∷ []) ≡ []
ends_empty l h = pending_after-append [] l (10 ∷ []) ∙ ap (λ q. pending_after q (10 ∷ [])) h.whole

again : (ls : List (List ℕ)) → AreHeard ls → ended [] (text_of ls) ≡ ls
again [] h = refl
again (l ∷ ls) h =
    ended-append [] (l ++ 10 ∷ []) (text_of ls)
    ∙ (ap (λ q. ended [] (l ++ 10 ∷ []) ++ ended q (text_of ls)) (ends_empty l h.0.0)
    ∙ (ap (λ q. q ++ ended [] (text_of ls)) (ends_alone l h.0.0) ∙ ap (λ q. l ∷ q) (again ls h.1)))

one_heard : (w : Saying) (l : List ℕ) (ls : List (List ℕ)) → w ≡ Nothing → for_session false ls ≡ ls
    → of_session false w l ++ for_session (left_after false w) ls ≡ l ∷ ls
one_heard w l ls e h = rw e (ap (λ q. l ∷ q) h)

all_for_session : (ls : List (List ℕ)) → AreHeard ls → for_session false ls ≡ ls
all_for_session [] h = refl
all_for_session (l ∷ ls) h = one_heard (saying_of l) l ls h.0.1 (all_for_session ls h.1)

one_waiting : (base : ℕ) (ls : List (List ℕ)) → AreHeard ls → (run (Sits 0 ∷ Brings (text_of ls) ∷ []) (begun base)).seat.waiting ≡ text_of ls
one_waiting base ls h =
    let seat = sat_down 0 (empty_seat base) in
    (taken_lines (ended [] (text_of ls)) seat false refl).waiting
    ∙ (ap (λ q. text_of (for_session false q)) (again ls h) ∙ ap text_of (all_for_session ls h))

heard_by : (ls ms : List (List ℕ)) → ls ≡ ms → AreHeard ms → AreHeard ls
heard_by ls ms e h = rw e h

pub one_client : (script : List (List ℕ)) (base : ℕ) (events : List Event) → AlwaysKeeps script base events (begun base)
    → (run events (begun base)).read ++ (run events (begun base)).seat.waiting
    ≡ (run (Sits 0 ∷ Brings (text_of (take ((run events (begun base)).seat.lines - base) (map shortened script))) ∷ []) (begun base)).seat.waiting
one_client script base events k =
    let n = run events (begun base) in
    let ls = take (n.seat.lines - base) (map shortened script) in
    each_once script base events k
    ∙ sym (one_waiting base ls (heard_by ls (n.before ++ heard n) (lines_taken script base n (ends_so script base events k)) (all_heard base events)))
