-- A station that has answered some lines, and what it does for one more.
use Rattle.std.proofs.Common.{⊎_elim, ◌≡◌, ℕ, ◌+◌, ◌<◌, ◌≤◌, Bool, inl, inr, List, [], ◌∷◌, ◌++◌, drop, length, max, take, slice_get, Option, Some, Ok, refl, sym, ap, ◌∙◌, subst, arith, option_map, fold, cond, eqb, true, false}
use Rattle.std.proofs.lemmas.List.{append-nil, length-append}
use Rattle.std.proofs.lemmas.List.Sums.{fold-append}
use Rattle.std.proofs.Math.Seq.{take-length}
use Rattle.line_words.specs.Lines.{Line as InputLine}
use Rattle.room_core.specs.declared.entry.Entry.{Entry}
use Rattle.room_core.specs.History.{most_entries, replay, after_entry, answer_in, state_in, RiseAfter, NumbersRise}
use Rattle.room_core.specs.Projection.{of_station}
use Rattle.station_sessions.specs.Transcript.{Wish, Do, See, Point, Write, News, Bad, Protocol, answer_at, sight_at, BearsNone, IsDone, IsRefused, IsFull, IsMemory, IsSeen, IsPoint, IsDocument, IsNews, IsPastEnd, IsBad, Origin, Row, Rows, TranscriptTo, TranscriptBut, points_behind}
use Rattle.station_sessions.specs.Session.{Course, past_line, held_to, Commits, Does, Step, Grows}
use Rattle.station_sessions.specs.Served.{OwnBefore, Served}
use Rattle.station_sessions.proofs.Transcripts.{OwnFrom, get_last, answer_more, rows_more, one_row_more, points_more, points_others, points_one, no_own, replay_more, state_now}

before_later : {C : Type 0} (station m n : ℕ) (h : List (Entry C)) → m ≤ n → OwnBefore station m h → OwnBefore station n h
before_later station m n [] le b = tt
before_later station m n (e ∷ es) le b = (λ is. omega (arith, b.0 is, le), before_later station m n es le b.1)

before_more : {C : Type 0} (station n : ℕ) (h : List (Entry C)) (e : Entry C) → e.number < n → OwnBefore station n h → OwnBefore station n (h ++ e ∷ [])
before_more station n [] e less b = (λ is. less, tt)
before_more station n (f ∷ fs) e less b = (b.0, before_more station n fs e less b.1)

own_none : {C : Type 0} (station n : ℕ) (e : Entry C) (es : List (Entry C)) (b : Bool) → eqb e.station station ≡ b → cond b (e ∷ of_station station es) (of_station station es) ≡ []
    → (e.station ≡ station → e.number < n) × (of_station station es ≡ [])
own_none station n e es true is h = cc
own_none station n e es false is h = ((λ same. absurd (grind (arith, is, same))), h)

none_before : {C : Type 0} (station n : ℕ) (more : List (Entry C)) → of_station station more ≡ [] → OwnBefore station n more
none_before station n [] none = tt
none_before station n (e ∷ es) none = let one = own_none station n e es (eqb e.station station) refl none in (one.0, none_before station n es one.1)

before_others : {C : Type 0} (station n : ℕ) (h more : List (Entry C)) → of_station station more ≡ [] → OwnBefore station n h → OwnBefore station n (h ++ more)
before_others station n [] more none b = none_before station n more none
before_others station n (e ∷ es) more none b = (b.0, before_others station n es more none b.1)

bears_none : {C : Type 0} (station n : ℕ) (h : List (Entry C)) → OwnBefore station n h → BearsNone h station n
bears_none station n [] b = tt
bears_none station n (e ∷ es) b = (λ same is. absurd (omega (arith, is, b.0 same)), bears_none station n es b.1)

rise_after : {C : Type 0} (f : Entry C) (h : List (Entry C)) (e : Entry C) → (f.station ≡ e.station → f.number < e.number) → RiseAfter f h → RiseAfter f (h ++ e ∷ [])
rise_after f [] e less r = (λ same. less (sym same), tt)
rise_after f (g ∷ gs) e less r = (r.0, rise_after f gs e less r.1)

rise_more : {C : Type 0} (h : List (Entry C)) (e : Entry C) → OwnBefore e.station e.number h → NumbersRise h → NumbersRise (h ++ e ∷ [])
rise_more [] e b r = (tt, tt)
rise_more (f ∷ fs) e b r = (rise_after f fs e b.0 r.0, rise_more fs e b.1 r.1)

module _ {S C D R Q X Y : Type 0} (k : Protocol S C D R Q X Y) (station : ℕ) (o : S) (from : Origin) where
  -- before the first line
  pub served_none : (s : Course S C) → s.opening ≡ o → replay k.apply o s.journal ≡ Some s.state → from.kept ≤ length s.journal → of_station station (drop from.kept s.journal) ≡ []
      → OwnBefore station (from.base + 1) s.journal → from.kept ≤ s.held → s.line ≡ from.base + 1 → NumbersRise s.journal → length s.journal ≤ most_entries
      → Served k station o from s [] [] from.kept
  served_none s from_is is kept none before held first rise within = record {
    opening = from_is;
    state = is;
    rows = (refl, (no_own station from.kept 0 (drop from.kept s.journal) none).0);
    kept = kept;
    told = kept;
    held = held;
    line = omega (arith, first);
    before = before_later station (from.base + 1) (from.base + 1 + 0) s.journal (omega arith) before;
    rise = rise;
    within = within;
  }

  -- others have committed more
  pub served_grows : (old new : Course S C) (ls : List InputLine) (rs : List (List ℕ)) (last : ℕ)
      → Served k station o from old ls rs last → Grows k station old new → Served k station o from new ls rs last
  served_grows old new ls rs last w g =
      let h : List (Entry C) = old.journal in
      let more : List (Entry C) = g.more in
      let later = no_own station (length h) (from.base + 1 + length ls) more g.others in
      let points : points_behind from.kept station (h ++ more) ≡ points_behind from.kept station h = points_others from.kept station h more g.others in
      let count = ap length g.journal in
      let within : length (h ++ more) ≤ most_entries = omega (arith, count, g.within) in
      let state : replay k.apply o (h ++ more) ≡ Some new.state =
      fold-append (after_entry k.apply) (Some o) h more ∙ (ap (λ (x : Option S). fold (after_entry k.apply) x more) w.state ∙ g.state) in
      let rows : Rows k o (h ++ more) station (from.base + 1) from.kept ls rs last (points_behind from.kept station (h ++ more)) =
      subst (λ ps. Rows k o (h ++ more) station (from.base + 1) from.kept ls rs last ps) (sym points) (rows_more k o h more station (from.base + 1) from.kept ls rs last (points_behind from.kept station h) within later.1 w.rows) in
      record {
        opening = g.opening ∙ w.opening;
        state = rw g.journal state;
        rows = rw g.journal rows;
        kept = omega (arith, w.kept, count, length-append h more);
        told = omega (arith, w.told, count, length-append h more);
        held = omega (arith, w.held, g.held);
        line = g.line ∙ w.line;
        before = rw g.journal (before_others station (from.base + 1 + length ls) h more g.others w.before);
        rise = g.rise;
        within = g.within;
      }

  answer_now : (s : Course S C) (c : C) → replay k.apply o s.journal ≡ Some s.state → answer_at k o s.journal (length s.journal) c ≡ Some (answer_in (k.apply s.state c))
  answer_now s c state = ap (option_map (λ x. answer_in (k.apply x c))) (state_now k o s.journal ∙ state)

  sight_now : (s : Course S C) (q : Q) → replay k.apply o s.journal ≡ Some s.state → sight_at k o s.journal (length s.journal) q ≡ Some (k.see s.state q)
  sight_now s q state = ap (option_map (λ x. k.see x q)) (state_now k o s.journal ∙ state)

  -- A line that has its reply by the journal: the rows of the lines before it, over the journal as it is now, and its own.
  -- Of more entries than before it tells only where the reply does.
  pub record Replied (s : Course S C) (ls : List InputLine) (rs : List (List ℕ)) (last : ℕ) (l : InputLine) (reply : List ℕ) (tells : ℕ) : Type 0 where
    pub answered : List ℕ
    pub here : List ℕ
    pub after : ℕ
    pub opening : s.opening ≡ o
    pub state : replay k.apply o s.journal ≡ Some s.state
    pub rows : Rows k o s.journal station (from.base + 1) from.kept ls rs last answered
    pub row : Row k o s.journal station (from.base + 1 + length ls) last reply after here l
    pub points : points_behind from.kept station s.journal ≡ answered ++ here
    pub kept : from.kept ≤ length s.journal
    pub told : after ≤ length s.journal
    pub least : after ≤ max last tells
    pub held : last ≤ s.held
    pub line : s.line ≡ from.base + 1 + (length ls + 1)
    pub before : OwnBefore station (from.base + 1 + (length ls + 1)) s.journal
    pub rise : NumbersRise s.journal
    pub within : length s.journal ≤ most_entries

  -- where more entries are kept, and those that the reply tells of, its line is one of those answered
  pub served_replied : (s : Course S C) (n : ℕ) (ls : List InputLine) (rs : List (List ℕ)) (last : ℕ) (l : InputLine) (reply : List ℕ) (tells : ℕ)
      → s.held ≤ n → tells ≤ n → (r : Replied s ls rs last l reply tells) → Served k station o from (held_to n s) (ls ++ l ∷ []) (rs ++ reply ∷ []) r.after
  served_replied s n ls rs last l reply tells more told r =
      let count : length (ls ++ l ∷ []) ≡ length ls + 1 = length-append ls (l ∷ []) in
      let rows = one_row_more k o s.journal station (from.base + 1) from.kept ls rs last r.answered l reply r.after r.here r.rows r.row in
      record {
        opening = r.opening;
        state = r.state;
        rows = rw r.points rows;
        kept = r.kept;
        told = r.told;
        held = omega (arith, r.least, r.held, more, told);
        line = omega (arith, r.line, count);
        before = rw count r.before;
        rise = r.rise;
        within = r.within;
      }

  -- where its reply is not sent, the lines before it have theirs
  pub broken_replied : (s : Course S C) (n : ℕ) (ls : List InputLine) (rs : List (List ℕ)) (last : ℕ) (l : InputLine) (reply : List ℕ) (tells : ℕ)
      → Replied s ls rs last l reply tells → TranscriptBut k o (held_to n s).journal from station ls rs last l
  broken_replied s n ls rs last l reply tells r = (r.here, (r.answered, r.rows, r.points), reply, r.after, r.row)

  -- a reply that commits nothing
  replied_same : (s : Course S C) (ls : List InputLine) (rs : List (List ℕ)) (last : ℕ) (l : InputLine) (reply : List ℕ) (tells after : ℕ)
      → Served k station o from s ls rs last → Row k o s.journal station (from.base + 1 + length ls) last reply after [] l → after ≤ length s.journal → after ≤ max last tells
      → Replied (past_line s) ls rs last l reply tells
  replied_same s ls rs last l reply tells after w row told least = record {
    answered = points_behind from.kept station s.journal;
    here = [];
    after = after;
    opening = w.opening;
    state = w.state;
    rows = w.rows;
    row = row;
    points = sym (append-nil (points_behind from.kept station s.journal));
    kept = w.kept;
    told = told;
    least = least;
    held = w.held;
    line = omega (arith, w.line);
    before = before_later station (from.base + 1 + length ls) (from.base + 1 + (length ls + 1)) s.journal (omega arith) w.before;
    rise = w.rise;
    within = w.within;
  }

  -- one line more that commits a call
  replied_commit : (old new : Course S C) (ls : List InputLine) (rs : List (List ℕ)) (last : ℕ) (l : InputLine) (reply : List ℕ) (tells : ℕ) (c : C) (d : D)
      → Served k station o from old ls rs last → k.wish station l ≡ Do c → Commits k station old new reply tells c d
      → Replied (past_line new) ls rs last l reply tells
  replied_commit old new ls rs last l reply tells c d w says m =
      let h : List (Entry C) = old.journal in
      let n : ℕ = length h in
      let e : Entry C = record { station = station; number = from.base + 1 + length ls; call = c } in
      let j : new.journal ≡ h ++ e ∷ [] = m.journal ∙ ap (λ (n : ℕ). h ++ record { station = station; number = n; call = c } ∷ []) w.line in
      let counted : length (h ++ e ∷ []) ≡ n + 1 = length-append h (e ∷ []) in
      let state : replay k.apply o (h ++ e ∷ []) ≡ Some new.state =
      replay_more k o h e ∙ (ap (λ (x : Option S). after_entry k.apply x e) w.state ∙ ap state_in m.applies) in
      let answer : answer_at k o (h ++ e ∷ []) n c ≡ Some (Ok d) =
      answer_more k o h (e ∷ []) n c (omega arith) ∙ (answer_now old c w.state ∙ ap (λ x. Some (answer_in x)) m.applies) in
      let done : IsDone k o (h ++ e ∷ []) station (from.base + 1 + length ls) last reply (n + 1) (n ∷ []) c n d = record {
        told_of = w.told;
        entry = get_last h e;
        answer = answer;
        reply_is = m.reply_is;
        after_is = refl;
        points_are = refl;
      } in
      let row : Row k o (h ++ e ∷ []) station (from.base + 1 + length ls) last reply (n + 1) (n ∷ []) l = inl (rw says (inl (n, d, done))) in
      let own : OwnFrom station (from.base + 1 + length ls) (e ∷ []) = (λ is. omega arith, tt) in
      let older = rows_more k o h (e ∷ []) station (from.base + 1) from.kept ls rs last (points_behind from.kept station h) (omega (arith, counted, m.room)) own w.rows in
      let points : points_behind from.kept station (h ++ e ∷ []) ≡ points_behind from.kept station h ++ n ∷ [] =
      points_more from.kept station h (e ∷ []) w.kept ∙ ap (λ ps. points_behind from.kept station h ++ ps) (points_one n station e refl) in
      let later : from.base + 1 + length ls ≤ from.base + 1 + (length ls + 1) = omega arith in
      record {
        answered = points_behind from.kept station h;
        here = n ∷ [];
        after = n + 1;
        opening = m.opening ∙ w.opening;
        state = rw j state;
        rows = rw j older;
        row = rw j row;
        points = rw j points;
        kept = omega (arith, w.kept, ap length j, counted);
        told = omega (arith, ap length j, counted);
        least = omega (arith, m.tells_are);
        held = omega (arith, m.held, w.held);
        line = omega (arith, m.line, w.line);
        before = rw j (before_more station (from.base + 1 + (length ls + 1)) h e (omega arith) (before_later station (from.base + 1 + length ls) (from.base + 1 + (length ls + 1)) h later w.before));
        rise = rw j (rise_more h e w.before w.rise);
        within = omega (arith, ap length j, counted, m.room);
      }

  -- one line more that commits nothing
  replied_quiet : (old new : Course S C) (ls : List InputLine) (rs : List (List ℕ)) (last : ℕ) (l : InputLine) (reply : List ℕ) (tells after : ℕ)
      → new ≡ old → Served k station o from old ls rs last → Row k o old.journal station (from.base + 1 + length ls) last reply after [] l → after ≤ length old.journal → after ≤ max last tells
      → Replied (past_line new) ls rs last l reply tells
  replied_quiet old new ls rs last l reply tells after same w row told least =
      subst (λ (s : Course S C). Replied (past_line s) ls rs last l reply tells) (sym same) (replied_same old ls rs last l reply tells after w row told least)

  replied_does : (old new : Course S C) (ls : List InputLine) (rs : List (List ℕ)) (last : ℕ) (l : InputLine) (reply : List ℕ) (tells : ℕ) (wish : Wish C Q)
      → Served k station o from old ls rs last → k.wish station l ≡ wish → Does k station old new reply tells wish
      → Replied (past_line new) ls rs last l reply tells
  replied_does old new ls rs last l reply tells (Do c) w says (inl (d, m)) = replied_commit old new ls rs last l reply tells c d w says m
  replied_does old new ls rs last l reply tells (Do c) w says (inr (inl (r, m))) =
      let n : ℕ = length old.journal in
      let refused : IsRefused k o old.journal station (from.base + 1 + length ls) last reply n [] c n r = record {
        told_of = w.told;
        within = omega arith;
        answer = answer_now old c w.state ∙ ap (λ x. Some (answer_in x)) m.refused;
        reply_is = m.reply_is;
        after_is = refl;
        points_are = refl;
      } in
      replied_quiet old new ls rs last l reply tells n m.same w (inl (rw says (inr (inl (n, r, refused))))) (omega arith) (omega (arith, m.tells_are))
  replied_does old new ls rs last l reply tells (Do c) w says (inr (inr (d, m))) =
      let full : IsFull k o old.journal station (from.base + 1 + length ls) last reply most_entries [] c d = record {
        told_of = omega (arith, w.told, m.full);
        full = m.full;
        answer = rw m.full at (answer_now old c w.state ∙ ap Some m.applies);
        reply_is = m.reply_is;
        after_is = refl;
        points_are = refl;
      } in
      replied_quiet old new ls rs last l reply tells most_entries m.same w (inl (rw says (inr (inr (d, full))))) (omega (arith, m.full)) (omega (arith, m.tells_are))
  replied_does old new ls rs last l reply tells (See q) w says m =
      let n : ℕ = length old.journal in
      let seen : IsSeen k o old.journal station (from.base + 1 + length ls) last reply n [] q n (k.see old.state q) = record {
        told_of = w.told;
        within = omega arith;
        sight = sight_now old q w.state;
        reply_is = m.reply_is;
        after_is = refl;
        points_are = refl;
      } in
      replied_quiet old new ls rs last l reply tells n m.same w (inl (rw says (n, k.see old.state q, seen))) (omega arith) (omega (arith, m.tells_are))
  replied_does old new ls rs last l reply tells Point w says (n, m) =
      let told : last ≤ n = ⊎_elim (λ (all : n ≡ length old.journal). omega (arith, w.told, all)) (λ (kept : old.held ≤ n). omega (arith, w.held, kept)) m.least in
      let point : IsPoint k o old.journal station (from.base + 1 + length ls) last reply n [] n = record {
        told_of = told;
        within = m.within;
        reply_is = m.reply_is;
        after_is = refl;
        points_are = refl;
      } in
      replied_quiet old new ls rs last l reply tells n m.same w (inl (rw says (n, point))) m.within (omega (arith, m.tells_are))
  replied_does old new ls rs last l reply tells (Write n) w says (inl (s, m)) =
      let told : max last n ≤ length old.journal = omega (arith, w.told, m.within) in
      let document : IsDocument k o old.journal station (from.base + 1 + length ls) last reply (max last n) [] n s = record {
        within = m.within;
        state = ap (λ (x : S). replay k.apply x (take n old.journal)) (sym w.opening) ∙ m.state;
        reply_is = m.reply_is;
        after_is = refl;
        points_are = refl;
      } in
      replied_quiet old new ls rs last l reply tells (max last n) m.same w (inl (rw says (inl (s, document)))) told (omega (arith, m.tells_are))
  replied_does old new ls rs last l reply tells (Write n) w says (inr m) =
      let at : ℕ = length old.journal in
      let past : IsPastEnd k o old.journal station (from.base + 1 + length ls) last reply at [] n at = record {
        told_of = w.told;
        within = omega arith;
        past = m.past;
        reply_is = m.reply_is;
        after_is = refl;
        points_are = refl;
      } in
      replied_quiet old new ls rs last l reply tells at m.same w (inl (rw says (inr (at, past)))) (omega arith) (omega (arith, m.tells_are))
  replied_does old new ls rs last l reply tells (News place) w says (inl m) =
      let n : ℕ = length old.journal in
      let news : IsNews k o old.journal station (from.base + 1 + length ls) last reply n [] place n = record {
        told_of = w.told;
        within = omega arith;
        place_within = m.within;
        reply_is = m.reply_is ∙ ap (λ (es : List (Entry C)). k.news_text place n (slice_get es place)) (sym (take-length old.journal));
        after_is = refl;
        points_are = refl;
      } in
      replied_quiet old new ls rs last l reply tells n m.same w (inl (rw says (inl (n, news)))) (omega arith) (omega (arith, m.tells_are))
  replied_does old new ls rs last l reply tells (News place) w says (inr m) =
      let at : ℕ = length old.journal in
      let past : IsPastEnd k o old.journal station (from.base + 1 + length ls) last reply at [] place at = record {
        told_of = w.told;
        within = omega arith;
        past = m.past;
        reply_is = m.reply_is;
        after_is = refl;
        points_are = refl;
      } in
      replied_quiet old new ls rs last l reply tells at m.same w (inl (rw says (inr (at, past)))) (omega arith) (omega (arith, m.tells_are))
  replied_does old new ls rs last l reply tells (Bad text) w says m =
      let bad : IsBad k o old.journal station (from.base + 1 + length ls) last reply last [] text = record {
        reply_is = m.reply_is;
        after_is = refl;
        points_are = refl;
      } in
      replied_quiet old new ls rs last l reply tells last m.same w (inl (rw says bad)) w.told (omega arith)

  -- one line more, whatever it asks for
  pub replied_more : (old new : Course S C) (ls : List InputLine) (rs : List (List ℕ)) (last : ℕ) (l : InputLine) (reply : List ℕ) (tells : ℕ)
      → Served k station o from old ls rs last → Step k station old new reply tells (k.wish station l) (k.takes_memory l)
      → Replied (past_line new) ls rs last l reply tells
  replied_more old new ls rs last l reply tells w (inl m) = replied_does old new ls rs last l reply tells (k.wish station l) w refl m
  replied_more old new ls rs last l reply tells w (inr (takes, m)) =
      let memory : IsMemory k o old.journal station (from.base + 1 + length ls) last reply last [] = record {
        none = bears_none station (from.base + 1 + length ls) old.journal w.before;
        reply_is = m.reply_is;
        after_is = refl;
        points_are = refl;
      } in
      replied_quiet old new ls rs last l reply tells last m.same w (inr (takes, memory)) w.told (omega arith)

  pub transcript_served : (s : Course S C) (ls : List InputLine) (rs : List (List ℕ)) (last : ℕ) → Served k station o from s ls rs last → TranscriptTo k o s.journal from station ls rs last []
  transcript_served s ls rs last w = (points_behind from.kept station s.journal, w.rows, sym (append-nil (points_behind from.kept station s.journal)))
