-- Replies that are explained one after another, as rows of a transcript: of any protocol.
use Rattle.std.proofs.Common.{◌≡◌, ℕ, zero, suc, ◌+◌, ◌-◌, ◌<◌, ◌≤◌, List, [], ◌∷◌, ◌++◌, Bool, true, false, Some, IsSomeAnd, All, inl, inr, cond, nat_le, length, take, drop, slice_get, ◌==◌, refl, sym, ap, ◌∙◌, subst, arith}
use Rattle.std.proofs.lemmas.List.{take_all}
use Rattle.std.proofs.lemmas.List.Elements.{All-nil}
use Rattle.line_words.specs.Lines.{Line as InputLine}
use Rattle.recorded_sessions.specs.Sessions.{AreOwn, IsAt, IsSession, places_of}
use Rattle.recorded_sessions.specs.Telling.{AreKnown, Explaining, Goes, IsKnown}
use Rattle.recorded_sessions.specs.declared.session.Heard.{Heard}
use Rattle.recorded_sessions.specs.declared.telling.Told.{Told}
use Rattle.recorded_sessions.specs.declared.telling.Told.TheVariants.{Own}
use Rattle.room_core.specs.declared.entry.Entry.{Entry}
use Rattle.station_sessions.specs.Transcript.{Answered, Protocol, Row, Rows, Transcript, TranscriptTo, Wish, Do, See, Point, Write, News, Bad, new_room, points_from}
use Rattle.reply_audits.proofs.Verdicts.{bound, known_too, same_one}

-- what stands at a place, and after it
take_at : {A : Type 0} (xs : List A) (i count : ℕ) (x : A) → slice_get xs i ≡ Some x → take (suc count) (drop i xs) ≡ x ∷ take count (drop (i + 1) xs)
take_at [] i count x at = absurd (Prim.grind (arith, at))
take_at (y ∷ ys) zero count x at = ap (λ z. z ∷ take count ys) (same_one y x at)
take_at (y ∷ ys) (suc i) count x at =
    let more : suc i + 1 ≡ suc (i + 1) = omega arith in
    rw more (take_at ys i count x at)

at_there : {A : Type 0} (xs : List A) (i : ℕ) → i < length xs → (x : A) × (slice_get xs i ≡ Some x)
at_there [] i less = absurd (omega (arith, less))
at_there (x ∷ xs) zero less = (x, refl)
at_there (x ∷ xs) (suc i) less = at_there xs i (omega (arith, less))

-- where the entries of a station stand
both : (t : Bool) (n : ℕ) (a b : List ℕ) → a ≡ b → cond t (n ∷ a) a ≡ cond t (n ∷ b) b
both true n a b e = ap (λ ps. n ∷ ps) e
both false n a b e = e

pub same_places : {C : Type 0} (n station : ℕ) (h : List (Entry C)) → places_of n station h ≡ points_from n station h
same_places n station [] = refl
same_places n station (e ∷ es) = both (e.station == station) n _ _ (same_places (n + 1) station es)

-- each line has its reply
rows_length : {S C D R Q X Y : Type 0} (k : Protocol S C D R Q X Y) (o : S) (h : List (Entry C)) (station number told last : ℕ)
    (lines : List InputLine) (replies : List (List ℕ)) (points : List ℕ) → Rows k o h station number told lines replies last points
    → length lines ≡ length replies
rows_length k o h station number told last [] [] points rows = refl
rows_length k o h station number told last [] (r ∷ rs) points rows = absurd rows
rows_length k o h station number told last (l ∷ ls) [] points rows = absurd rows
rows_length k o h station number told last (l ∷ ls) (r ∷ rs) points rows =
    ap suc (rows_length k o h station (number + 1) rows.0 last ls rs rows.2 rows.4)

module _ {S C D R Q X Y : Type 0} (k : Protocol S C D R Q X Y) (o : S) (h : List (Entry C)) (station : ℕ) where
  -- how the reply to the line of each number is explained
  abbrev pub explains : List InputLine → List (List ℕ) → Explaining
  explains lines replies number told after points =
      (line : InputLine) × (reply : List ℕ) × (slice_get lines (number - 1) ≡ Some line) × (slice_get replies (number - 1) ≡ Some reply)
      × Row k o h station number told reply after points line

  module _ (lines : List InputLine) (replies : List (List ℕ)) where
    pub known_there : (index : ℕ) (line : InputLine) (reply : List ℕ) (t : Told)
        → slice_get lines index ≡ Some line → slice_get replies index ≡ Some reply
        → IsKnown (λ told after points. Row k o h station (index + 1) told reply after points line) t
        → IsKnown (explains lines replies (index + 1)) t
    known_there index line reply t line_is reply_is known =
        let at : index + 1 - 1 ≡ index = omega arith in
        known_too (λ told after points. Row k o h station (index + 1) told reply after points line) (explains lines replies (index + 1)) t
        (λ told after points row. (line, reply, ap (slice_get lines) at ∙ line_is, ap (slice_get replies) at ∙ reply_is, row))
        (λ told after points e.
        let line_too = same_one e.0 line (sym e.2 ∙ (ap (slice_get lines) at ∙ line_is)) in
        let reply_too = same_one e.1 reply (sym e.3 ∙ (ap (slice_get replies) at ∙ reply_is)) in
        subst (λ l. Row k o h station (index + 1) told reply after points l) line_too
        (subst (λ r. Row k o h station (index + 1) told r after points e.0) reply_too e.4))
        known

    -- an entry that is told of as the line's own
    one_more : {A : Type 0} (n : ℕ) → n ∷ [] ≡ [] → A
    one_more n e = absurd (Prim.grind (arith, e))

    same_point : (m n : ℕ) → m ∷ [] ≡ n ∷ [] → n ≡ m
    same_point m n e = Prim.grind (arith, e)

    own_answer : (number told after n : ℕ) (reply : List ℕ) (wish : Wish C Q) → Answered k o h station number told reply after (n ∷ []) wish
        → IsAt h station n
    own_answer number told after n reply (Do c) (inl a) =
        subst (λ e. IsSomeAnd e (λ x. x.station ≡ station)) (sym (ap (slice_get h) (sym (same_point n a.0 a.2.points_are)) ∙ a.2.entry)) refl
    own_answer number told after n reply (Do c) (inr (inl a)) = one_more n a.2.points_are
    own_answer number told after n reply (Do c) (inr (inr a)) = one_more n a.1.points_are
    own_answer number told after n reply (See q) a = one_more n a.2.points_are
    own_answer number told after n reply Point a = one_more n a.1.points_are
    own_answer number told after n reply (Write asked) (inl a) = one_more n a.1.points_are
    own_answer number told after n reply (Write asked) (inr a) = one_more n a.1.points_are
    own_answer number told after n reply (News place) (inl a) = one_more n a.1.points_are
    own_answer number told after n reply (News place) (inr a) = one_more n a.1.points_are
    own_answer number told after n reply (Bad text) a = one_more n a.points_are

    own_row : (number told after n : ℕ) (reply : List ℕ) (line : InputLine) → Row k o h station number told reply after (n ∷ []) line → IsAt h station n
    own_row number told after n reply line (inl a) = own_answer number told after n reply (k.wish station line) a
    own_row number told after n reply line (inr a) = one_more n a.1.points_are

    pub own_there : (tells : List Told) → AreKnown (explains lines replies) tells → AreOwn h station tells
    own_there tells known = λ index n at.
        let e = (known index (Own n) at).right 0 (n + 1) (bound (nat_le 0 n) 0 n (n + 1) refl (omega arith)) in
        own_row (index + 1) 0 (n + 1) n e.1 e.0 e.4

    -- the lines from a place on, so many of them
    pub goings_rows : (i count told last : ℕ) (points : List ℕ) → i + count ≤ length lines → i + count ≤ length replies
        → Goes (explains lines replies) (i + 1) count told last points
        → Rows k o h station (i + 1) told (take count (drop i lines)) (take count (drop i replies)) last points
    goings_rows i zero told last points few enough goes = goes
    goings_rows i (suc count) told last points few enough goes =
        let at : i + 1 - 1 ≡ i = omega arith in
        let e = goes.3 in
        let line_is = take_at lines i count e.0 (ap (slice_get lines) (sym at) ∙ e.2) in
        let reply_is = take_at replies i count e.1 (ap (slice_get replies) (sym at) ∙ e.3) in
        let rest = goings_rows (i + 1) count goes.0 last goes.2 (omega (arith, few)) (omega (arith, enough)) goes.4 in
        subst (λ ls. Rows k o h station (i + 1) told ls (take (suc count) (drop i replies)) last points) (sym line_is)
        (subst (λ rs. Rows k o h station (i + 1) told (e.0 ∷ take count (drop (i + 1) lines)) rs last points) (sym reply_is)
        (goes.0, goes.1, goes.2, e.4, rest, goes.5))

    pub rows_goings : (i count told last : ℕ) (points : List ℕ) → i + count ≤ length lines → i + count ≤ length replies
        → Rows k o h station (i + 1) told (take count (drop i lines)) (take count (drop i replies)) last points
        → Goes (explains lines replies) (i + 1) count told last points
    rows_goings i zero told last points few enough rows = rows
    rows_goings i (suc count) told last points few enough rows =
        let at : i + 1 - 1 ≡ i = omega arith in
        let l = at_there lines i (omega (arith, few)) in
        let r = at_there replies i (omega (arith, enough)) in
        let w = subst (λ rs. Rows k o h station (i + 1) told (l.0 ∷ take count (drop (i + 1) lines)) rs last points) (take_at replies i count r.0 r.1)
        (subst (λ ls. Rows k o h station (i + 1) told ls (take (suc count) (drop i replies)) last points) (take_at lines i count l.0 l.1) rows) in (
          w.0,
          w.1,
          w.2,
          (l.0, r.0, ap (slice_get lines) at ∙ l.1, ap (slice_get replies) at ∙ r.1, w.3),
          rows_goings (i + 1) count w.0 last w.2 (omega (arith, few)) (omega (arith, enough)) w.4,
          w.5,
        )

    -- all of them
    pub session_rows : (left : ℕ → Type 0) (heard : Heard) → heard.station ≡ station → heard.lines ≡ length lines → heard.replies ≡ length replies
        → IsSession (explains lines replies) left heard h
        → (told : ℕ) × (unanswered : List ℕ) × TranscriptTo k o h new_room station (take (length replies) lines) replies told unanswered
        × All left unanswered × (heard.is_cut ≡ false → (length lines ≡ length replies) × (unanswered ≡ [])) × (length replies ≤ length lines)
    session_rows left heard own_station line_count reply_count is =
        let few : length replies ≤ length lines = omega (arith, is.few, line_count, reply_count) in
        let rows = goings_rows 0 (length replies) 0 is.told is.answered (omega (arith, few)) (omega arith)
        (subst (λ n. Goes (explains lines replies) 1 n 0 is.told is.answered) reply_count is.goes) in (
          is.told,
          is.unanswered,
          (
            is.answered,
            subst (λ rs. Rows k o h station 1 0 (take (length replies) lines) rs is.told is.answered) (take_all (length replies) replies (omega arith)) rows,
            sym (same_places 0 station h) ∙ (subst (λ s. places_of 0 s h ≡ is.answered ++ is.unanswered) own_station is.places),
          ),
          is.are_left,
          (λ uncut. let w = is.whole uncut in (sym line_count ∙ (w.0 ∙ reply_count), w.1)),
          few,
        )

    pub rows_session : (left : ℕ → Type 0) (cut : Bool) (told : ℕ) (unanswered : List ℕ)
        → TranscriptTo k o h new_room station (take (length replies) lines) replies told unanswered
        → All left unanswered → (cut ≡ false → (length lines ≡ length replies) × (unanswered ≡ [])) → length replies ≤ length lines
        → IsSession (explains lines replies) left (record { station = station; lines = length lines; replies = length replies; is_cut = cut }) h
    rows_session left cut told unanswered rows are_left whole few =
        let all = subst (λ rs. Rows k o h station 1 0 (take (length replies) lines) rs told rows.0) (sym (take_all (length replies) replies (omega arith))) rows.1 in record {
          told = told;
          answered = rows.0;
          unanswered = unanswered;
          few = few;
          whole = whole;
          goes = rows_goings 0 (length replies) 0 told rows.0 (omega (arith, few)) (omega arith) all;
          places = same_places 0 station h ∙ rows.2;
          are_left = are_left;
        }

    -- of a session that was not cut short
    pub transcript_of : (left : ℕ → Type 0)
        → IsSession (explains lines replies) left (record { station = station; lines = length lines; replies = length replies; is_cut = false }) h
        → Transcript k o h new_room station lines replies []
    transcript_of left is =
        let w = session_rows left (record { station = station; lines = length lines; replies = length replies; is_cut = false }) refl refl refl is in
        let whole = w.4 refl in (
          w.0,
          subst (λ u. TranscriptTo k o h new_room station lines replies w.0 u) whole.1
              (subst (λ ls. TranscriptTo k o h new_room station ls replies w.0 w.1) (take_all (length replies) lines (omega (arith, whole.0))) w.2),
        )

    pub session_of : (left : ℕ → Type 0) → Transcript k o h new_room station lines replies []
        → IsSession (explains lines replies) left (record { station = station; lines = length lines; replies = length replies; is_cut = false }) h
    session_of left is =
        let as_many : length lines ≡ length replies = rows_length k o h station 1 0 is.0 lines replies is.1.0 is.1.1 in
        rows_session left false is.0 []
        (subst (λ ls. TranscriptTo k o h new_room station ls replies is.0 []) (sym (take_all (length replies) lines (omega (arith, as_many)))) is.1)
        (All-nil left) (λ uncut. (as_many, refl)) (omega (arith, as_many))
