-- What a station was told stays true when more is committed, and its transcript grows line by line.
use Rattle.std.proofs.Common.{◌≡◌, ℕ, zero, suc, ◌+◌, ◌<◌, ◌≤◌, Bool, true, false, cond, eqb, nat_le, inl, inr, List, [], ◌∷◌, ◌++◌, length, take, drop, Some, refl, sym, ap, ◌∙◌, subst, arith, append_assoc, slice_get, option_map}
use Rattle.std.proofs.lemmas.List.{append-nil, drop-append-le, length-append, length-drop, take-append-le}
use Rattle.std.proofs.lemmas.Bool.Decides.{nat_tests}
use Rattle.std.proofs.lemmas.List.Sums.{fold-append}
use Rattle.std.proofs.Math.Seq.{take-length}
use Rattle.cut_steps.specs.CutSteps.{fresh_tracks}
use Rattle.line_words.specs.Lines.{Line as InputLine}
use Rattle.room_core.specs.declared.entry.Entry.{Entry}
use Rattle.room_core.specs.History.{most_entries, replay, after_entry, answer_in}
use Rattle.room_core.specs.Projection.{of_station}
use Rattle.station_sessions.specs.Longer.{TranscriptsStay}
use Rattle.station_sessions.specs.Rooms.{room_of, setting_of}
use Rattle.station_sessions.specs.Transcript.{Wish, Do, See, Point, Write, News, Bad, Protocol, state_at, answer_at, sight_at, BearsNone, IsFull, Answered, Row, Rows, points_from, points_behind, Origin, TranscriptTo, TranscriptBut, reply_line, sent}

-- each of these entries that is of the station is of this line or a later one
abbrev pub OwnFrom : {C : Type 0} → ℕ → ℕ → List (Entry C) → Type 0
OwnFrom station line [] = Unit {0}
OwnFrom station line (e ∷ es) = (e.station ≡ station → line ≤ e.number) × OwnFrom station line es

take_more : {C : Type 0} (h more : List (Entry C)) (n : ℕ) → n ≤ length h → take n (h ++ more) ≡ take n h
take_more h more n le = take-append-le n h more le

get_more : {C : Type 0} (h more : List (Entry C)) (x : Entry C) (n : ℕ) → slice_get h n ≡ Some x → slice_get (h ++ more) n ≡ Some x
get_more [] more x n at = cc
get_more (f ∷ fs) more x zero at = at
get_more (f ∷ fs) more x (suc n) at = get_more fs more x n at

get_below : {C : Type 0} (h : List (Entry C)) (x : Entry C) (n : ℕ) → slice_get h n ≡ Some x → n < length h
get_below [] x n at = cc
get_below (f ∷ fs) x zero at = omega arith
get_below (f ∷ fs) x (suc n) at = omega (arith, get_below fs x n at)

pub get_last : {C : Type 0} (h : List (Entry C)) (e : Entry C) → slice_get (h ++ e ∷ []) (length h) ≡ Some e
get_last [] e = refl
get_last (f ∷ fs) e = get_last fs e

none_later : {C : Type 0} (more : List (Entry C)) (station line bound : ℕ) → line < bound → OwnFrom station bound more → BearsNone more station line
none_later [] station line bound less own = tt
none_later (e ∷ es) station line bound less own = (λ same is. absurd (omega (arith, own.0 same, is, less)), none_later es station line bound less own.1)

none_more : {C : Type 0} (h more : List (Entry C)) (station line bound : ℕ) → line < bound → OwnFrom station bound more → BearsNone h station line → BearsNone (h ++ more) station line
none_more [] more station line bound less own none = none_later more station line bound less own
none_more (f ∷ fs) more station line bound less own none = (none.0, none_more fs more station line bound less own none.1)

no_more : {C : Type 0} (h more : List (Entry C)) → length h ≡ most_entries → length (h ++ more) ≤ most_entries → more ≡ []
no_more h [] full within = refl
no_more h (e ∷ es) full within = absurd (omega (arith, full, within, length-append h (e ∷ es)))

module _ {S C D R Q X Y : Type 0} (k : Protocol S C D R Q X Y) (o : S) where
  state_more : (h more : List (Entry C)) (n : ℕ) → n ≤ length h → state_at k o (h ++ more) n ≡ state_at k o h n
  state_more h more n le = ap (λ (x : List (Entry C)). replay k.apply o x) (take_more h more n le)

  pub answer_more : (h more : List (Entry C)) (n : ℕ) (c : C) → n ≤ length h → answer_at k o (h ++ more) n c ≡ answer_at k o h n c
  answer_more h more n c le = ap (option_map (λ s. answer_in (k.apply s c))) (state_more h more n le)

  pub sight_more : (h more : List (Entry C)) (n : ℕ) (q : Q) → n ≤ length h → sight_at k o (h ++ more) n q ≡ sight_at k o h n q
  sight_more h more n q le = ap (option_map (λ s. k.see s q)) (state_more h more n le)

  -- a reply stays true however the history goes on, where no entry of the station in it is of this line
  answered_more : (h more : List (Entry C)) (station line told : ℕ) (reply : List ℕ) (after : ℕ) (points : List ℕ) (w : Wish C Q)
      → length (h ++ more) ≤ most_entries → Answered k o h station line told reply after points w → Answered k o (h ++ more) station line told reply after points w
  answered_more h more station line told reply after points (Do c) within (inl (n, d, w)) =
      inl (
        n,
        d,
        record {
          told_of = w.told_of;
          entry = get_more h more _ n w.entry;
          answer = answer_more h more n c (omega (arith, get_below h _ n w.entry)) ∙ w.answer;
          reply_is = w.reply_is;
          after_is = w.after_is;
          points_are = w.points_are;
        },
      )
  answered_more h more station line told reply after points (Do c) within (inr (inl (n, r, w))) =
      inr (inl (
        n,
        r,
        record {
          told_of = w.told_of;
          within = omega (arith, w.within, length-append h more);
          answer = answer_more h more n c w.within ∙ w.answer;
          reply_is = w.reply_is;
          after_is = w.after_is;
          points_are = w.points_are;
        },
      ))
  answered_more h more station line told reply after points (Do c) within (inr (inr (d, w))) =
      let none : h ++ more ≡ h = ap (λ (es : List (Entry C)). h ++ es) (no_more h more w.full within) ∙ append-nil h in
      inr (inr (d, subst (λ (x : List (Entry C)). IsFull k o x station line told reply after points c d) (sym none) w))
  answered_more h more station line told reply after points (See q) within (n, s, w) = (
    n,
    s,
    record {
      told_of = w.told_of;
      within = omega (arith, w.within, length-append h more);
      sight = sight_more h more n q w.within ∙ w.sight;
      reply_is = w.reply_is;
      after_is = w.after_is;
      points_are = w.points_are;
    },
  )
  answered_more h more station line told reply after points Point within (n, w) = (
    n,
    record {
      told_of = w.told_of;
      within = omega (arith, w.within, length-append h more);
      reply_is = w.reply_is;
      after_is = w.after_is;
      points_are = w.points_are;
    },
  )
  answered_more h more station line told reply after points (Write n) within (inl (s, w)) =
      inl (
        s,
        record {
          within = omega (arith, w.within, length-append h more);
          state = state_more h more n w.within ∙ w.state;
          reply_is = w.reply_is;
          after_is = w.after_is;
          points_are = w.points_are;
        },
      )
  answered_more h more station line told reply after points (Write n) within (inr (at, w)) =
      inr (
        at,
        record {
          told_of = w.told_of;
          within = omega (arith, w.within, length-append h more);
          past = w.past;
          reply_is = w.reply_is;
          after_is = w.after_is;
          points_are = w.points_are;
        },
      )
  answered_more h more station line told reply after points (News place) within (inl (n, w)) =
      inl (
        n,
        record {
          told_of = w.told_of;
          within = omega (arith, w.within, length-append h more);
          place_within = w.place_within;
          reply_is = w.reply_is ∙ ap (λ (es : List (Entry C)). k.news_text place n (slice_get es place)) (sym (take-append-le n h more w.within));
          after_is = w.after_is;
          points_are = w.points_are;
        },
      )
  answered_more h more station line told reply after points (News place) within (inr (at, w)) =
      inr (
        at,
        record {
          told_of = w.told_of;
          within = omega (arith, w.within, length-append h more);
          past = w.past;
          reply_is = w.reply_is;
          after_is = w.after_is;
          points_are = w.points_are;
        },
      )
  answered_more h more station line told reply after points (Bad text) within w = record {
    reply_is = w.reply_is;
    after_is = w.after_is;
    points_are = w.points_are;
  }

  row_more : (h more : List (Entry C)) (station line told : ℕ) (reply : List ℕ) (after : ℕ) (points : List ℕ) (l : InputLine) (bound : ℕ)
      → length (h ++ more) ≤ most_entries → line < bound → OwnFrom station bound more → Row k o h station line told reply after points l → Row k o (h ++ more) station line told reply after points l
  row_more h more station line told reply after points l bound within less own (inl w) = inl (answered_more h more station line told reply after points (k.wish station l) within w)
  row_more h more station line told reply after points l bound within less own (inr (takes, w)) =
      inr (
        takes,
        record {
          none = none_more h more station line bound less own w.none;
          reply_is = w.reply_is;
          after_is = w.after_is;
          points_are = w.points_are;
        },
      )

  pub rows_more : (h more : List (Entry C)) (station line told : ℕ) (ls : List InputLine) (rs : List (List ℕ)) (last : ℕ) (points : List ℕ)
      → length (h ++ more) ≤ most_entries → OwnFrom station (line + length ls) more → Rows k o h station line told ls rs last points → Rows k o (h ++ more) station line told ls rs last points
  rows_more h more station line told [] [] last points within own rows = rows
  rows_more h more station line told [] (r ∷ rs) last points within own rows = rows
  rows_more h more station line told (l ∷ ls) [] last points within own rows = rows
  rows_more h more station line told (l ∷ ls) (r ∷ rs) last points within own (after, here, rest, row, rows, is) =
      let n : line + 1 + length ls ≡ line + suc (length ls) = omega arith in (
        after,
        here,
        rest,
        row_more h more station line told r after here l (line + suc (length ls)) within (omega arith) own row,
        rows_more h more station (line + 1) after ls rs last rest within (rw n own) rows,
        is,
      )

  -- a line more
  pub one_row_more : (h : List (Entry C)) (station line told : ℕ) (ls : List InputLine) (rs : List (List ℕ)) (last : ℕ) (points : List ℕ) (l : InputLine) (reply : List ℕ) (after : ℕ) (here : List ℕ)
      → Rows k o h station line told ls rs last points → Row k o h station (line + length ls) last reply after here l
      → Rows k o h station line told (ls ++ l ∷ []) (rs ++ reply ∷ []) after (points ++ here)
  one_row_more h station line told [] [] last points l reply after here (is, none) row =
      let n : line + 0 ≡ line = omega arith in
      (after, here, [], rw (is, n) at row, (refl, refl), ap (λ ps. ps ++ here) none ∙ sym (append-nil here))
  one_row_more h station line told [] (r ∷ rs) last points l reply after here rows row = absurd rows
  one_row_more h station line told (m ∷ ls) [] last points l reply after here rows row = absurd rows
  one_row_more h station line told (m ∷ ls) (r ∷ rs) last points l reply after here (mid, first, rest, one, rows, is) row =
      let n : line + suc (length ls) ≡ line + 1 + length ls = omega arith in
      (mid, first, rest ++ here, one, one_row_more h station (line + 1) mid ls rs last rest l reply after here rows (rw n at row), ap (λ ps. ps ++ here) is ∙ append_assoc first rest here)

  -- the state after one entry more
  pub replay_more : (h : List (Entry C)) (e : Entry C) → replay k.apply o (h ++ e ∷ []) ≡ after_entry k.apply (replay k.apply o h) e
  replay_more h e = fold-append (after_entry k.apply) (Some o) h (e ∷ [])

  pub state_now : (h : List (Entry C)) → state_at k o h (length h) ≡ replay k.apply o h
  state_now h = ap (λ (x : List (Entry C)). replay k.apply o x) (take-length h)

points_beside : (n : ℕ) (b : Bool) (ps qs rs : List ℕ) → ps ≡ qs ++ rs → cond b (n ∷ ps) ps ≡ cond b (n ∷ qs) qs ++ rs
points_beside n true ps qs rs e = ap (λ ns. n ∷ ns) e
points_beside n false ps qs rs e = e

-- the entries of a station, with more behind them
pub points_append : {C : Type 0} (n station : ℕ) (h more : List (Entry C)) → points_from n station (h ++ more) ≡ points_from n station h ++ points_from (n + length h) station more
points_append n station [] more = let z : n ≡ n + 0 = omega arith in ap (λ m. points_from m station more) z
points_append n station (f ∷ fs) more =
    let m : n + 1 + length fs ≡ n + suc (length fs) = omega arith in
    points_beside n (eqb f.station station) _ _ _ (points_append (n + 1) station fs more ∙ ap (λ i. points_from (n + 1) station fs ++ points_from i station more) m)

pub points_one : {C : Type 0} (n station : ℕ) (e : Entry C) → e.station ≡ station → points_from n station (e ∷ []) ≡ n ∷ []
points_one n station e is = own (eqb e.station station) (ap (λ s. eqb s station) is ∙ eqb-refl station) where
  eqb-refl : (m : ℕ) → eqb m m ≡ true
  eqb-refl m = grind arith

  own : (b : Bool) → b ≡ true → cond b (n ∷ []) [] ≡ n ∷ []
  own true t = refl
  own false t = cc

own_beside : {C : Type 0} (f : Entry C) (b : Bool) (xs ys zs : List (Entry C)) → xs ≡ ys ++ zs → cond b (f ∷ xs) xs ≡ cond b (f ∷ ys) ys ++ zs
own_beside f true xs ys zs e = ap (λ es. f ∷ es) e
own_beside f false xs ys zs e = e

-- a list that has no entries of a station
pub own_append : {C : Type 0} (station : ℕ) (h more : List (Entry C)) → of_station station (h ++ more) ≡ of_station station h ++ of_station station more
own_append station [] more = refl
own_append station (f ∷ fs) more = own_beside f (eqb f.station station) _ _ _ (own_append station fs more)

pub nothing_behind : {A : Type 0} (xs ys : List A) → xs ++ ys ≡ xs → ys ≡ []
nothing_behind [] ys e = e
nothing_behind (x ∷ xs) ys e = nothing_behind xs ys (tails e) where
  tails : {A : Type 0} {x : A} {us vs : List A} → x ∷ us ≡ x ∷ vs → us ≡ vs
  tails h = cc

not_own : {C : Type 0} (station n line : ℕ) (e : Entry C) (es : List (Entry C)) (b : Bool) → eqb e.station station ≡ b → cond b (e ∷ of_station station es) (of_station station es) ≡ []
    → (of_station station es ≡ [] → (points_from (n + 1) station es ≡ []) × OwnFrom station line es)
    → (cond b (n ∷ points_from (n + 1) station es) (points_from (n + 1) station es) ≡ []) × ((e.station ≡ station → line ≤ e.number) × OwnFrom station line es)
not_own station n line e es true is h rest = cc
not_own station n line e es false is h rest = ((rest h).0, (λ same. absurd (grind (arith, is, same)), (rest h).1))

pub no_own : {C : Type 0} (station n line : ℕ) (more : List (Entry C)) → of_station station more ≡ [] → (points_from n station more ≡ []) × OwnFrom station line more
no_own station n line [] none = (refl, tt)
no_own station n line (e ∷ es) none = not_own station n line e es (eqb e.station station) refl none (no_own station (n + 1) line es)

-- the entries of a station behind those that were kept, with more behind them
pub points_more : {C : Type 0} (kept station : ℕ) (h more : List (Entry C)) → kept ≤ length h
    → points_behind kept station (h ++ more) ≡ points_behind kept station h ++ points_from (length h) station more
points_more kept station h more within =
    let n : kept + length (drop kept h) ≡ length h = omega (arith, length-drop kept h, within) in
    ap (points_from kept station) (drop-append-le kept h more within)
    ∙ (points_append kept station (drop kept h) more ∙ ap (λ i. points_from kept station (drop kept h) ++ points_from i station more) n)

none_dropped : {C : Type 0} (n station : ℕ) (more : List (Entry C)) → of_station station more ≡ [] → of_station station (drop n more) ≡ []
none_dropped zero station more none = none
none_dropped (suc n) station [] none = refl
none_dropped (suc n) station (e ∷ es) none = none_dropped n station es (none_behind (eqb e.station station) none) where
  none_behind : (b : Bool) → cond b (e ∷ of_station station es) (of_station station es) ≡ [] → of_station station es ≡ []
  none_behind true h = cc
  none_behind false h = h

drop_nothing : {C : Type 0} (n : ℕ) → drop {A = Entry C} n [] ≡ []
drop_nothing zero = refl
drop_nothing (suc n) = refl

points_past : {C : Type 0} (m station n : ℕ) (h more : List (Entry C)) → of_station station more ≡ [] → length h ≤ n
    → points_from m station (drop n (h ++ more)) ≡ points_from m station (drop n h)
points_past m station n [] more none le = (no_own station m 0 (drop n more) (none_dropped n station more none)).0 ∙ sym (ap (points_from m station) (drop_nothing n))
points_past m station zero (f ∷ fs) more none le = absurd (omega (arith, le))
points_past m station (suc n) (f ∷ fs) more none le = points_past m station n fs more none (omega (arith, le))

pub points_others : {C : Type 0} (kept station : ℕ) (h more : List (Entry C)) → of_station station more ≡ []
    → points_behind kept station (h ++ more) ≡ points_behind kept station h
points_others kept station h more none = by (nat_le kept (length h)) refl where
  by : (b : Bool) → nat_le kept (length h) ≡ b → points_behind kept station (h ++ more) ≡ points_behind kept station h
  by true is =
      points_more kept station h more (grind (arith, nat_tests, is))
      ∙ (ap (λ ps. points_behind kept station h ++ ps) (no_own station (length h) 0 more none).0 ∙ append-nil (points_behind kept station h))
  by false is = points_past kept station kept h more none (grind (arith, nat_tests, is))

module _ {S C D R Q X Y : Type 0} (k : Protocol S C D R Q X Y) (o : S) (h more : List (Entry C)) (from : Origin) (station : ℕ) (lines : List InputLine) (replies : List (List ℕ)) (told : ℕ)
    (within : length (h ++ more) ≤ most_entries) (same : of_station station (h ++ more) ≡ of_station station h) where
  -- what came later is of no line of the station
  none_more_own : of_station station more ≡ []
  none_more_own = nothing_behind (of_station station h) (of_station station more) (sym (own_append station h more) ∙ same)

  pub transcript_more : (unanswered : List ℕ) → TranscriptTo k o h from station lines replies told unanswered → TranscriptTo k o (h ++ more) from station lines replies told unanswered
  transcript_more unanswered (answered, rows, is) = (
    answered,
    rows_more k o h more station (from.base + 1) from.kept lines replies told answered within (no_own station 0 (from.base + 1 + length lines) more none_more_own).1 rows,
    points_others from.kept station h more none_more_own ∙ is,
  )

  -- also with one line more, whose reply was not sent
  pub broken_more : (line : InputLine) → TranscriptBut k o h from station lines replies told line → TranscriptBut k o (h ++ more) from station lines replies told line
  broken_more line (unanswered, to, unsent, after, row) =
      let number : ℕ = from.base + 1 + length lines in (
        unanswered,
        transcript_more unanswered to,
        unsent,
        after,
        row_more k o h more station number told unsent after unanswered line (number + 1) within (omega arith) (no_own station 0 (number + 1) more none_more_own).1 row,
      )

pub transcripts_stay : TranscriptsStay
transcripts_stay o h more from station lines replies told = (
  (λ legal same to. transcript_more (room_of (setting_of o)) (fresh_tracks o.tracks) h more from station lines replies told legal.within same [] to),
  (λ line legal same but. broken_more (room_of (setting_of o)) (fresh_tracks o.tracks) h more from station lines replies told legal.within same line but),
)

-- a reply more
pub sent_more : (rs : List (List ℕ)) (r : List ℕ) → sent (rs ++ r ∷ []) ≡ sent rs ++ reply_line r
sent_more [] r = append-nil (reply_line r)
sent_more (x ∷ xs) r = ap (λ t. reply_line x ++ t) (sent_more xs r) ∙ sym (append_assoc (reply_line x) (sent xs) (reply_line r))
