-- What goes out over a connection is what the session wrote.
use Rattle.std.proofs.Common.{◌≡◌, ℕ, ◌+◌, ◌-◌, ◌≤◌, List, [], ◌∷◌, ◌++◌, Bool, true, false, cond, length, take, drop, min, refl, sym, ap, ◌∙◌, arith, append_assoc}
use Rattle.std.proofs.lemmas.List.{length-append, length-drop, take-append-drop, drop-drop, drop-append-le}
use Rattle.seat_lines.specs.Sayings.{saying_of}
use Rattle.seat_lines.specs.declared.saying.Saying.{Saying}
use Rattle.seat_lines.specs.declared.saying.Saying.TheVariants.{Leave, Got, Nothing}
use Rattle.seat_lines.specs.Texts.{lines_in, after_lines, ended}
use Rattle.seat_lines.specs.Seats.{SeatState, broken, bytes_come, done_with, got_of, left, let_go, line_comes, line_taken, lines_come, may_go, put, read_by, said, sat_down, sent_on, unsent}
use Rattle.seat_lines.specs.Runs.{Event, Sits, Brings, Breaks, Reads, Writes, Sends, Notes, IsFrontOf, begun, brings, happens, run, sends}
use Rattle.seat_lines.proofs.Texts.{lines_in-append, lines_in-take, after_lines-append, after_lines-twice, lines_in-after, drop_lines, bytes_within, length_after, drop_front_lines}

-- a seat that keeps what was written after the replies that are gone, and a connection over which this went out after
-- so many replies
pub record Replied (base : ℕ) (s : SeatState) (written went : List ℕ) (replies : ℕ) : Type 0 where
  pub gone : base ≤ s.gone
  pub within : s.gone - base ≤ lines_in written
  pub kept : s.kept ≡ after_lines (s.gone - base) written
  pub sent : s.sent ≤ length s.kept
  pub low : base ≤ replies
  pub high : replies - base ≤ lines_in written
  pub out : s.is_here ≡ true → went ++ drop s.sent s.kept ≡ after_lines (replies - base) written

-- a seat with the same replies and the same connection
pub record SameReplies (s t : SeatState) : Type 0 where
  pub here : t.is_here ≡ s.is_here
  pub gone : t.gone ≡ s.gone
  pub kept : t.kept ≡ s.kept
  pub sent : t.sent ≡ s.sent

pub replied_same : (base : ℕ) (s t : SeatState) (written out : List ℕ) (replies : ℕ) → SameReplies s t
    → Replied base s written out replies → Replied base t written out replies
replied_same base s t written out replies e r = record {
  gone = rw e.gone r.gone;
  within = rw e.gone r.within;
  kept = rw (e.gone, e.kept) r.kept;
  sent = rw (e.sent, e.kept) r.sent;
  low = r.low;
  high = r.high;
  out = λ here. rw (e.sent, e.kept) (r.out (sym e.here ∙ here));
}

-- ---- replies are let go of

done_here : (b : Bool) (x y : ℕ) → b ≡ true → cond b x y ≡ x
done_here true x y h = refl
done_here false x y h = absurd cc

pub replied_let_go : (base n : ℕ) (s : SeatState) (written out : List ℕ) (replies : ℕ) → n ≤ done_with s
    → Replied base s written out replies → Replied base (let_go n s) written out replies
replied_let_go base n s written out replies h r =
    let few : n ≤ lines_in s.kept = omega (arith, h, lines_in-take (may_go s) s.kept) in
    let rest = lines_in-after (s.gone - base) written r.within in
    let count : lines_in s.kept ≡ lines_in (after_lines (s.gone - base) written) = ap lines_in r.kept in
    let sum : (s.gone - base) + n ≡ (s.gone + n) - base = omega (arith, r.gone) in
    record {
      gone = omega (arith, r.gone);
      within = omega (arith, r.gone, few, rest, count);
      kept = ap (after_lines n) r.kept ∙ (after_lines-twice (s.gone - base) n written ∙ ap (λ k. after_lines k written) sum);
      sent = omega (arith, r.sent, length_after n s.kept);
      low = r.low;
      high = r.high;
      out = λ here. ap (λ q. out ++ q) (drop_front_lines n s.sent s.kept (omega (arith, h, ap (λ k. lines_in (take k s.kept)) (done_here s.is_here s.sent (length s.kept) here)))) ∙ r.out here;
    }

least : (a b : ℕ) → min a b ≤ b
least a b = omega arith

-- ---- lines and bytes come

pub replied_line : (base : ℕ) (s : SeatState) (line written out : List ℕ) (replies : ℕ) (w : Saying)
    → Replied base s written out replies → Replied base (said w line s) written out replies
replied_line base s line written out replies Leave r = replied_same base s (left s) written out replies (record { here = refl; gone = refl; kept = refl; sent = refl }) r
replied_line base s line written out replies (Got n) r = replied_let_go base (min (n - s.gone) (done_with s)) s written out replies (least (n - s.gone) (done_with s)) r
replied_line base s line written out replies Nothing r = replied_same base s (line_taken line s) written out replies (record { here = refl; gone = refl; kept = refl; sent = refl }) r

replied_if : (base : ℕ) (b : Bool) (s t : SeatState) (written out : List ℕ) (replies : ℕ)
    → Replied base s written out replies → Replied base t written out replies → Replied base (cond b s t) written out replies
replied_if base true s t written out replies r q = r
replied_if base false s t written out replies r q = q

pub replied_lines : (base : ℕ) (lines : List (List ℕ)) (s : SeatState) (written out : List ℕ) (replies : ℕ)
    → Replied base s written out replies → Replied base (lines_come lines s) written out replies
replied_lines base [] s written out replies r = r
replied_lines base (l ∷ ls) s written out replies r =
    replied_lines base ls (line_comes l s) written out replies
    (replied_if base s.has_left s (said (saying_of l) l s) written out replies r (replied_line base s l written out replies (saying_of l) r))

pub replied_bytes : (base : ℕ) (bytes : List ℕ) (s : SeatState) (written out : List ℕ) (replies : ℕ)
    → Replied base s written out replies → Replied base (bytes_come bytes s) written out replies
replied_bytes base bytes s written out replies r =
    replied_same base (lines_come (ended s.pending bytes) s) (bytes_come bytes s) written out replies
    (record { here = refl; gone = refl; kept = refl; sent = refl })
    (replied_lines base (ended s.pending bytes) s written out replies r)

-- ---- the session writes, and it goes out

pub replied_put : (base : ℕ) (s : SeatState) (bytes written out : List ℕ) (replies : ℕ)
    → Replied base s written out replies → Replied base (put bytes s) (written ++ bytes) out replies
replied_put base s bytes written out replies r =
    let more = lines_in-append written bytes in
    record {
      gone = r.gone;
      within = omega (arith, r.within, more);
      kept = ap (λ q. q ++ bytes) r.kept ∙ sym (after_lines-append (s.gone - base) written bytes r.within);
      sent = omega (arith, r.sent, length-append s.kept bytes);
      low = r.low;
      high = omega (arith, r.high, more);
      out = λ here.
          ap (λ q. out ++ q) (drop-append-le s.sent s.kept bytes r.sent)
          ∙ (sym (append_assoc out (drop s.sent s.kept) bytes)
          ∙ (ap (λ q. q ++ bytes) (r.out here) ∙ sym (after_lines-append (replies - base) written bytes r.high)));
    }

pub replied_sent : (base n : ℕ) (s : SeatState) (written out : List ℕ) (replies : ℕ) → n ≤ length (unsent s)
    → Replied base s written out replies → Replied base (sent_on n s) written (out ++ take n (unsent s)) replies
replied_sent base n s written out replies h r = record {
  gone = r.gone;
  within = r.within;
  kept = r.kept;
  sent = omega (arith, r.sent, h, length-drop s.sent s.kept);
  low = r.low;
  high = r.high;
  out = λ here.
      append_assoc out (take n (unsent s)) (drop (s.sent + n) s.kept)
      ∙ (ap (λ q. out ++ (take n (unsent s) ++ q)) (sym (drop-drop n s.sent s.kept))
      ∙ (ap (λ q. out ++ q) (take-append-drop n (unsent s)) ∙ r.out here));
}

-- ---- somebody sits down

before_is : (base gone k : ℕ) → base ≤ gone → (gone - base) + k ≡ (gone + k) - base
before_is base gone k h = omega (arith, h)

pub replied_sits : (base got : ℕ) (s : SeatState) (written out : List ℕ) (replies : ℕ)
    → Replied base s written out replies → Replied base (sat_down got s) written [] (s.gone + got_of got s)
replied_sits base got s written out replies r =
    let k = got_of got s in
    let few : k ≤ lines_in s.kept = omega arith in
    let rest = lines_in-after (s.gone - base) written r.within in
    let count : lines_in s.kept ≡ lines_in (after_lines (s.gone - base) written) = ap lines_in r.kept in
    record {
      gone = r.gone;
      within = r.within;
      kept = r.kept;
      sent = bytes_within k s.kept;
      low = omega (arith, r.gone);
      high = omega (arith, r.gone, rest, count, few);
      out = λ here.
          drop_lines k s.kept
          ∙ (ap (after_lines k) r.kept
          ∙ (after_lines-twice (s.gone - base) k written
          ∙ ap (λ m. after_lines m written) (before_is base s.gone k r.gone)));
    }

never : (X : Type 0) → false ≡ true → X
never X h = absurd cc

pub replied_breaks : (base : ℕ) (s : SeatState) (written out : List ℕ) (replies : ℕ)
    → Replied base s written out replies → Replied base (broken s) written [] replies
replied_breaks base s written out replies r = record {
  gone = r.gone;
  within = r.within;
  kept = r.kept;
  sent = r.sent;
  low = r.low;
  high = r.high;
  out = λ here. never _ here;
}

-- ---- over a run

abbrev InOrder : ℕ → Notes → Type 0
InOrder base n = Replied base n.seat n.written n.out n.replies

in_order_if : (base : ℕ) (b : Bool) (m n : Notes) → InOrder base m → InOrder base n → InOrder base (cond b m n)
in_order_if base true m n h k = h
in_order_if base false m n h k = k

in_order_step : (base : ℕ) (event : Event) (n : Notes) → InOrder base n → InOrder base (happens event n)
in_order_step base (Sits got) n h = replied_sits base got n.seat n.written n.out n.replies h
in_order_step base (Brings bytes) n h =
    in_order_if base n.seat.is_here (brings bytes n) n (replied_bytes base bytes n.seat n.written n.out n.replies h) h
in_order_step base Breaks n h = replied_breaks base n.seat n.written n.out n.replies h
in_order_step base (Reads most) n h =
    replied_same base n.seat (read_by most n.seat) n.written n.out n.replies (record { here = refl; gone = refl; kept = refl; sent = refl }) h
in_order_step base (Writes bytes letting) n h =
    let k = min letting (done_with n.seat) in
    replied_put base (let_go k n.seat) bytes n.written n.out n.replies
    (replied_let_go base k n.seat n.written n.out n.replies (least letting (done_with n.seat)) h)
in_order_step base (Sends most) n h =
    let k = min most (length (unsent n.seat)) in
    in_order_if base n.seat.is_here (sends k n) n
    (replied_sent base k n.seat n.written n.out n.replies (least most (length (unsent n.seat))) h) h

in_order_run : (base : ℕ) (events : List Event) (n : Notes) → InOrder base n → InOrder base (run events n)
in_order_run base [] n h = h
in_order_run base (event ∷ events) n h = in_order_run base events (happens event n) (in_order_step base event n h)

no_replies : (base : ℕ) → base - base ≡ 0
no_replies base = omega arith

pub in_order : (base : ℕ) (events : List Event) → InOrder base (run events (begun base))
in_order base events = in_order_run base events (begun base) (record {
  gone = omega arith;
  within = omega arith;
  kept = sym (ap (λ k. after_lines k []) (no_replies base));
  sent = omega arith;
  low = omega arith;
  high = omega arith;
  out = λ here. never _ here;
})

pub front_of_written : (base : ℕ) (events : List Event) → (run events (begun base)).seat.is_here ≡ true
    → IsFrontOf (run events (begun base)).out (after_lines ((run events (begun base)).replies - base) (run events (begun base)).written)
front_of_written base events here =
    let n = run events (begun base) in (drop n.seat.sent n.seat.kept, sym ((in_order base events).out here))

over : (base replies k : ℕ) → base ≤ replies → replies - base ≤ k → replies ≤ base + k
over base replies k low high = omega (arith, low, high)

pub replies_within : (base : ℕ) (events : List Event)
    → (base ≤ (run events (begun base)).replies) × ((run events (begun base)).replies ≤ base + lines_in (run events (begun base)).written)
replies_within base events =
    let h = in_order base events in (h.low, over base (run events (begun base)).replies _ h.low h.high)
