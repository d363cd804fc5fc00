-- What a session answered, line after line.
use Rattle.std.proofs.Common.{◌≡◌, ℕ, Bool, true, false, ◌||◌, inl, inr, ◌+◌, ◌≤◌, List, [], ◌∷◌, ◌++◌, take, Option, Some, None, Result, Ok, Err, refl, sym, ap, ◌∙◌, append_assoc, arith, subst, OnOk, OnErr}
use Rattle.std.specs.Prelude.{IsTrue, codes}
use Rattle.std.proofs.lemmas.List.{append-nil}
use Rattle.cut_steps.specs.CutSteps.{CutStep, KeptTrack}
use Rattle.room_ports.specs.Bytes.{Takes, TakesFront}
use Rattle.room_ports.proofs.Fronts.{takes-nothing, takes-takes}
use Rattle.line_words.specs.Lines.{Line as InputLine}
use Rattle.line_words.specs.Told.{line_told, lines_told}
use Rattle.line_words.specs.declared.line.LineEnd.{LineEnd}
use Rattle.line_table.specs.declared.lines.Line.{Line}
use Rattle.line_table.specs.declared.lines.Line.TheVariants.{Edit, Ask as AskOf, Point as PointOf, Otio, News}
use Rattle.protocol_parts.specs.declared.line_fault.LineFault.{LineFault}
use Rattle.station_sessions.specs.Outside.{AreSent, TakesThenFront, LastIsCut}
use Rattle.station_sessions.specs.Transcript.{Bad, Protocol, Wish, reply_line, sent}
use Rattle.station_sessions.specs.Rooms.{Setting, AreWritten, finds_memory, is_linking, room_of, meaning_of, wish_in}
use Rattle.room_core.specs.History.{most_entries}
use Rattle.room_core.specs.Projection.{of_station}
use Rattle.room_keepers.specs.declared.fault.KeepFault.{KeepFault}
use Rattle.station_sessions.specs.Session.{Course, Grows, HasGrown, HasHeld, StationState, held_to, past_line, RepliesTo, Step}
use Rattle.station_sessions.specs.Served.{Breaks, BreaksTo, Serves, ServesTo, StaysWritten}
use Rattle.station_sessions.specs.Stopping.{StopsSo}
use Rattle.station_sessions.specs.declared.serve.Stop.{Stop}
use Rattle.station_sessions.specs.declared.serve.Stop.TheVariants.{Unsent, Unkept}
use Rattle.station_sessions.proofs.Serving.{broken_replied, replied_more, served_grows, served_replied}

sent-append : (xs ys : List (List ℕ)) → sent (xs ++ ys) ≡ sent xs ++ sent ys
sent-append [] ys = refl
sent-append (x ∷ xs) ys = ap (λ t. reply_line x ++ t) (sent-append xs ys) ∙ sym (append_assoc (reply_line x) (sent xs) (sent ys))

one_sent : (r : List ℕ) → sent (r ∷ []) ≡ reply_line r
one_sent r = append-nil (reply_line r)

-- these bytes, and then others with a front of a piece
pub takes-then : (before mid after : Option (List ℕ)) (xs ys piece : List ℕ) → Takes before mid xs → TakesThenFront mid after ys piece → TakesThenFront before after (xs ++ ys) piece
takes-then before mid None xs ys piece h k = tt
takes-then before None (Some c) xs ys piece h k = absurd k
takes-then None (Some b) (Some c) xs ys piece h k = absurd h
takes-then (Some a) (Some b) (Some c) xs ys piece h (n, e) =
    (n, e ∙ (ap (λ t. t ++ (ys ++ take n piece)) h ∙ (append_assoc a xs (ys ++ take n piece) ∙ ap (λ t. a ++ t) (sym (append_assoc xs ys (take n piece))))))

pub front-then : (before after : Option (List ℕ)) (piece : List ℕ) → TakesFront before after piece → TakesThenFront before after [] piece
front-then before None piece k = tt
front-then None (Some c) piece k = absurd k
front-then (Some a) (Some c) piece k = k

pub takes-then_front : (before mid after : Option (List ℕ)) (xs piece : List ℕ) → Takes before mid xs → TakesFront mid after piece → TakesThenFront before after xs piece
takes-then_front before mid after xs piece h k = subst (λ t. TakesThenFront before after t piece) (append-nil xs) (takes-then before mid after xs [] piece h (front-then mid after piece k))

pub sent_one : (before after : Option (List ℕ)) (r : List ℕ) → Takes before after (reply_line r) → AreSent before after (r ∷ [])
sent_one before after r h = subst (Takes before after) (sym (one_sent r)) h

pub cut_one : (before after : Option (List ℕ)) (r : List ℕ) → TakesFront before after (reply_line r) → LastIsCut before after (r ∷ [])
cut_one before after r h = ([], r, refl, front-then before after (reply_line r) h)

pub sent_more : (t u v : Option (List ℕ)) (xs ys : List (List ℕ)) → AreSent t u xs → AreSent u v ys → AreSent t v (xs ++ ys)
sent_more t u v xs ys h k = subst (Takes t v) (sym (sent-append xs ys)) (takes-takes t u v (sent xs) (sent ys) h k)

pub cut_more : (t u v : Option (List ℕ)) (xs ys : List (List ℕ)) → AreSent t u xs → LastIsCut u v ys → LastIsCut t v (xs ++ ys)
cut_more t u v xs ys h (whole, cut, is, k) = (
  xs ++ whole,
  cut,
  ap (λ rs. xs ++ rs) is ∙ sym (append_assoc xs whole (cut ∷ [])),
  subst (λ bytes. TakesThenFront t v bytes (reply_line cut)) (sym (sent-append xs whole)) (takes-then t u v (sent xs) (sent whole) (reply_line cut) h k),
)

-- two runs of lines, for any kind of history, where what was taken composes
module _ {S C D R Q X Y : Type 0} (k : Protocol S C D R Q X Y) (station : ℕ) where
  then_serves : (a b c : Course S C) (xs ys : List InputLine) (P V W : List (List ℕ) → Type 0) → ((us vs : List (List ℕ)) → P us → V vs → W (us ++ vs))
      → Serves k station a b xs P → Serves k station b c ys V → Serves k station a c (xs ++ ys) W
  then_serves a b c xs ys P V W both f g o from ls rs last w =
      let first = f o from ls rs last w in
      let second = g o from (ls ++ xs) (rs ++ first.0) first.1 first.2 in (
        first.0 ++ second.0,
        second.1,
        rw (← append_assoc ls xs ys, ← append_assoc rs first.0 second.0) second.2,
        both first.0 second.0 first.3 second.3,
      )

  -- these lines, and then others and one more whose reply was not sent
  then_breaks : (a b c : Course S C) (xs ys : List InputLine) (l : InputLine) (P V W : List (List ℕ) → Type 0) → ((us vs : List (List ℕ)) → P us → V vs → W (us ++ vs))
      → Serves k station a b xs P → Breaks k station b c ys l V → Breaks k station a c (xs ++ ys) l W
  then_breaks a b c xs ys l P V W both f g o from ls rs last w =
      let first = f o from ls rs last w in
      let second = g o from (ls ++ xs) (rs ++ first.0) first.1 first.2 in (
        first.0 ++ second.0,
        second.1,
        rw (← append_assoc ls xs ys, ← append_assoc rs first.0 second.0) second.2,
        second.3,
        both first.0 second.0 first.3 second.4,
      )

  -- one line, where more entries are kept, and those that its reply tells of
  one_serves : (old met mid : Course S C) (n : ℕ) (l : InputLine) (text : List ℕ) (tells : ℕ) (Taken : List (List ℕ) → Type 0) → Grows k station old met
      → Step k station met mid text tells (k.wish station l) (k.takes_memory l) → mid.held ≤ n → tells ≤ n → Taken (text ∷ [])
      → Serves k station old (held_to n (past_line mid)) (l ∷ []) Taken
  one_serves old met mid n l text tells Taken grows step more told taken o from ls rs last w =
      let r = replied_more k station o from met mid ls rs last l text tells (served_grows k station o from old met ls rs last w grows) step in
      (text ∷ [], r.after, served_replied k station o from (past_line mid) n ls rs last l text tells more told r, taken)

  -- one line whose reply was not sent
  one_breaks : (old met mid : Course S C) (n : ℕ) (l : InputLine) (text : List ℕ) (tells : ℕ) (Taken : List (List ℕ) → Type 0) → Grows k station old met
      → Step k station met mid text tells (k.wish station l) (k.takes_memory l) → mid.held ≤ n → Taken []
      → Breaks k station old (held_to n (past_line mid)) [] l Taken
  one_breaks old met mid n l text tells Taken grows step more taken o from ls rs last w =
      let r = replied_more k station o from met mid ls rs last l text tells (served_grows k station o from old met ls rs last w grows) step in
      let held : last ≤ n = omega (arith, r.held, more) in
      ([], last, rw (append-nil, append-nil) (broken_replied k station o from (past_line mid) n ls rs last l text tells r), held, taken)

true_before : (a b : Bool) → IsTrue a → IsTrue (a || b)
true_before true b t = refl
true_before false b t = absurd cc

true_behind : (a b : Bool) → IsTrue b → IsTrue (a || b)
true_behind true b t = refl
true_behind false b t = t

-- a step of a line that may find no memory for one more reason
module _ {S C D R Q X Y : Type 0} (k : Protocol S C D R Q X Y) (station : ℕ) (old new : Course S C) (text : List ℕ) (tells : ℕ) where
  wider : (wish : Wish C Q) (a b : Bool) → Step k station old new text tells wish a → Step k station old new text tells wish (a || b)
  wider wish a b (inl does) = inl does
  wider wish a b (inr (t, says)) = inr (true_before a b t, says)

  for_memory : (wish : Wish C Q) (a b : Bool) → IsTrue b → Step k station old new text tells (Bad (codes "memory")) false → Step k station old new text tells wish (a || b)
  for_memory wish a b t (inl says) = inr (true_behind a b t, says)
  for_memory wish a b t (inr (never, says)) = absurd cc

pub serves_none : (s : StationState) (t : Option (List ℕ)) → ServesTo s s [] (AreSent t t)
serves_none s t = record { setting = refl; station = refl; written = λ w. w; serves = λ o from ls rs last w. ([], last, rw (append-nil, append-nil) w, takes-nothing t) }

-- others have committed more since
pub serves_grown : (s g : StationState) (t : Option (List ℕ)) → HasGrown s g → ServesTo s g [] (AreSent t t)
serves_grown s g t h = record {
  setting = h.setting;
  station = h.station;
  written = h.written;
  serves = λ o from ls rs last w. (
    [],
    last,
    rw (append-nil, append-nil) (served_grows (room_of s.setting) s.station o from s.course g.course ls rs last w h.grows),
    takes-nothing t,
  );
}

-- the step of a line, however it was read
record Stepped (old new : StationState) (l : InputLine) (reply : List ℕ) (tells : ℕ) : Type 0 where
  pub setting : new.setting ≡ old.setting
  pub station : new.station ≡ old.station
  pub written : StaysWritten old new
  pub met : Course (List KeptTrack) CutStep
  pub grows : Grows (room_of old.setting) old.station old.course met
  pub answered : Course (List KeptTrack) CutStep
  pub step : (let k = room_of old.setting in Step k old.station met answered reply tells (k.wish old.station l) (k.takes_memory l))
  pub passed : new.course ≡ past_line answered

-- which station asks decides nothing of memory
memory_of_any : (setting : Setting) (station other : ℕ) (r : Result Line LineFault) → finds_memory setting.table (wish_in station r) ≡ finds_memory setting.table (wish_in other r)
memory_of_any setting station other (Ok (Edit s)) = refl
memory_of_any setting station other (Ok (AskOf q)) = refl
memory_of_any setting station other (Ok PointOf) = refl
memory_of_any setting station other (Ok (Otio n)) = refl
memory_of_any setting station other (Ok (News n)) = refl
memory_of_any setting station other (Err fault) = refl

stepped : (old new : StationState) (l : InputLine) (reply : List ℕ) (tells : ℕ) → RepliesTo old new l reply tells → Stepped old new l reply tells
stepped old new l reply tells (inl r) =
    let wish = wish_in old.station (meaning_of old.setting l) in
    let takes = memory_of_any old.setting old.station 0 (meaning_of old.setting l) in
    record {
      setting = r.setting;
      station = r.station;
      written = r.written;
      met = r.met;
      grows = r.grows;
      answered = r.answered;
      step = subst (λ (b : Bool). Step (room_of old.setting) old.station r.met r.answered reply tells wish (b || is_linking l)) takes
          (wider (room_of old.setting) old.station r.met r.answered reply tells wish (finds_memory old.setting.table wish) (is_linking l) r.step);
      passed = r.passed;
    }
stepped old new l reply tells (inr (linking, r)) =
    let wish = wish_in old.station (meaning_of old.setting l) in
    let takes = memory_of_any old.setting old.station 0 (meaning_of old.setting l) in
    record {
      setting = r.setting;
      station = r.station;
      written = r.written;
      met = r.met;
      grows = r.grows;
      answered = r.answered;
      step = subst (λ (b : Bool). Step (room_of old.setting) old.station r.met r.answered reply tells wish (b || is_linking l)) takes
          (for_memory (room_of old.setting) old.station r.met r.answered reply tells wish (finds_memory old.setting.table wish) (is_linking l) linking r.step);
      passed = r.passed;
    }

module _ (old mid new : StationState) (l : InputLine) (reply : List ℕ) (tells : ℕ) (to : RepliesTo old mid l reply tells) (h : HasHeld mid new) where
  -- what was kept since is of the same journal
  held_course : (s : Stepped old mid l reply tells) → new.course ≡ held_to new.course.held (past_line s.answered)
  held_course s = h.course ∙ ap (held_to new.course.held) s.passed

  held_more : (s : Stepped old mid l reply tells) → s.answered.held ≤ new.course.held
  held_more s = omega (arith, ap (λ (c : Course (List KeptTrack) CutStep). c.held) s.passed, h.more)

  held_written : (s : Stepped old mid l reply tells) → StaysWritten old new
  held_written s w = subst (λ (c : Course (List KeptTrack) CutStep). AreWritten (of_station old.station c.journal)) (sym h.course) (s.written w)

  -- a line whose reply was sent once what it tells of was kept
  pub serves_one : (Taken : List (List ℕ) → Type 0) → tells ≤ new.course.held → Taken (reply ∷ []) → ServesTo old new (l ∷ []) Taken
  serves_one Taken told taken =
      let s = stepped old mid l reply tells to in
      let k = room_of old.setting in
      record {
        setting = h.setting ∙ s.setting;
        station = h.station ∙ s.station;
        written = held_written s;
        serves = subst (λ (c : Course (List KeptTrack) CutStep). Serves k old.station old.course c (l ∷ []) Taken) (sym (held_course s))
            (one_serves k old.station old.course s.met s.answered new.course.held l reply tells Taken s.grows s.step (held_more s) told taken);
      }

  -- a line whose reply was not sent
  pub breaks_one : (t : Option (List ℕ)) → BreaksTo old new [] l (AreSent t t)
  breaks_one t =
      let s = stepped old mid l reply tells to in
      let k = room_of old.setting in
      record {
        setting = h.setting ∙ s.setting;
        station = h.station ∙ s.station;
        written = held_written s;
        breaks = subst (λ (c : Course (List KeptTrack) CutStep). Breaks k old.station old.course c [] l (AreSent t t)) (sym (held_course s))
            (one_breaks k old.station old.course s.met s.answered new.course.held l reply tells (AreSent t t) s.grows s.step (held_more s) (takes-nothing t));
      }

  -- the station
  pub same_station : new.station ≡ old.station
  same_station = h.station ∙ (stepped old mid l reply tells to).station

-- the number of the next line
next_line : (old mid : StationState) (l : InputLine) (reply : List ℕ) (tells : ℕ) → RepliesTo old mid l reply tells → mid.course.line ≡ old.course.line + 1
next_line old mid l reply tells (inl r) = r.line
next_line old mid l reply tells (inr (linking, r)) = r.line

pub next_number : (old mid new : StationState) (l : InputLine) (reply : List ℕ) (tells : ℕ) → RepliesTo old mid l reply tells → HasHeld mid new → new.course.line ≡ old.course.line + 1
next_number old mid new l reply tells to h = ap (λ (c : Course (List KeptTrack) CutStep). c.line) h.course ∙ next_line old mid l reply tells to

-- a reply tells of no more entries than a journal has
pub tells_within : (old new : StationState) (l : InputLine) (reply : List ℕ) (tells : ℕ) → RepliesTo old new l reply tells → tells ≤ most_entries
tells_within old new l reply tells (inl r) = r.within
tells_within old new l reply tells (inr (linking, r)) = r.within

serves_then : (a b c : StationState) (xs ys : List InputLine) (P V W : List (List ℕ) → Type 0) → ((us vs : List (List ℕ)) → P us → V vs → W (us ++ vs))
    → ServesTo a b xs P → ServesTo b c ys V → ServesTo a c (xs ++ ys) W
serves_then a b c xs ys P V W both f g = record {
  setting = g.setting ∙ f.setting;
  station = g.station ∙ f.station;
  written = λ w. subst (λ (n : ℕ). AreWritten (of_station n b.course.journal) → AreWritten (of_station n c.course.journal)) f.station g.written (f.written w);
  serves = then_serves (room_of a.setting) a.station a.course b.course c.course xs ys P V W both f.serves
      (subst (λ (x : Setting × ℕ). Serves (room_of x.0) x.1 b.course c.course ys V) (λ i. (f.setting i, f.station i)) g.serves);
}

breaks_then : (a b c : StationState) (xs ys : List InputLine) (l : InputLine) (P V W : List (List ℕ) → Type 0) → ((us vs : List (List ℕ)) → P us → V vs → W (us ++ vs))
    → ServesTo a b xs P → BreaksTo b c ys l V → BreaksTo a c (xs ++ ys) l W
breaks_then a b c xs ys l P V W both f g = record {
  setting = g.setting ∙ f.setting;
  station = g.station ∙ f.station;
  written = λ w. subst (λ (n : ℕ). AreWritten (of_station n b.course.journal) → AreWritten (of_station n c.course.journal)) f.station g.written (f.written w);
  breaks = then_breaks (room_of a.setting) a.station a.course b.course c.course xs ys l P V W both f.serves
      (subst (λ (x : Setting × ℕ). Breaks (room_of x.0) x.1 b.course c.course ys l V) (λ i. (f.setting i, f.station i)) g.breaks);
}

-- what could be written still can, after both
pub written_then : (a b c : StationState) (xs : List InputLine) (P : List (List ℕ) → Type 0) → ServesTo a b xs P → StaysWritten b c → StaysWritten a c
written_then a b c xs P f later w = subst (λ (n : ℕ). AreWritten (of_station n b.course.journal) → AreWritten (of_station n c.course.journal)) f.station later (f.written w)

-- these lines and then those
pub serves_more : (a b c : StationState) (xs ys : List InputLine) (t u v : Option (List ℕ)) → ServesTo a b xs (AreSent t u) → ServesTo b c ys (AreSent u v) → ServesTo a c (xs ++ ys) (AreSent t v)
serves_more a b c xs ys t u v f g = serves_then a b c xs ys (AreSent t u) (AreSent u v) (AreSent t v) (sent_more t u v) f g

pub serves_cut : (a b c : StationState) (xs ys : List InputLine) (t u v : Option (List ℕ)) → ServesTo a b xs (AreSent t u) → ServesTo b c ys (LastIsCut u v) → ServesTo a c (xs ++ ys) (LastIsCut t v)
serves_cut a b c xs ys t u v f g = serves_then a b c xs ys (AreSent t u) (LastIsCut u v) (LastIsCut t v) (cut_more t u v) f g

-- where the session stopped at a line later
pub stops_more : (may_fail : KeepFault → Type 0) (a b c : StationState) (xs ys : List InputLine) (l : InputLine) (t u v : Option (List ℕ)) (stop : Stop)
    → ServesTo a b xs (AreSent t u) → StopsSo may_fail b c ys l u v stop → StopsSo may_fail a c (xs ++ ys) l t v stop
stops_more may_fail a b c xs ys l t u v Unsent f g =
    subst (λ (ls : List InputLine). ServesTo a c ls (LastIsCut t v)) (sym (append_assoc xs ys (l ∷ []))) (serves_cut a b c xs (ys ++ l ∷ []) t u v f g)
stops_more may_fail a b c xs ys l t u v (Unkept fault) f (may, counted, g) =
    (may, counted, breaks_then a b c xs ys l (AreSent t u) (AreSent u v) (AreSent t v) (sent_more t u v) f g)

-- at the very next line
pub stops_next : (may_fail : KeepFault → Type 0) (a b c : StationState) (xs : List InputLine) (l : InputLine) (t u v : Option (List ℕ)) (stop : Stop)
    → ServesTo a b xs (AreSent t u) → StopsSo may_fail b c [] l u v stop → StopsSo may_fail a c xs l t v stop
stops_next may_fail a b c xs l t u v stop f g =
    subst (λ (ls : List InputLine). StopsSo may_fail a c ls l t v stop) (append-nil xs) (stops_more may_fail a b c xs [] l t u v stop f g)

-- what could be written still can
pub stops_written : (may_fail : KeepFault → Type 0) (a b : StationState) (xs : List InputLine) (l : InputLine) (t u : Option (List ℕ)) (stop : Stop)
    → StopsSo may_fail a b xs l t u stop → StaysWritten a b
stops_written may_fail a b xs l t u Unsent g = g.written
stops_written may_fail a b xs l t u (Unkept fault) (may, counted, g) = g.written

pub serves_lines : (a b : StationState) (xs ys : List InputLine) (Taken : List (List ℕ) → Type 0) → xs ≡ ys → ServesTo a b xs Taken → ServesTo a b ys Taken
serves_lines a b xs ys Taken e f = subst (λ (ls : List InputLine). ServesTo a b ls Taken) e f

pub on_ok : {T F : Type 0} (r : Result T F) (P Q : Type 0) → OnOk r P → (P → Q) → OnOk r Q
on_ok (Ok x) P Q h f = f h
on_ok (Err e) P Q h f = tt

pub on_err : {T F : Type 0} (r : Result T F) (P Q : Type 0) → OnErr r P → (P → Q) → OnErr r Q
on_err (Ok x) P Q h f = tt
on_err (Err e) P Q h f = f h

-- the one line that was told
pub one_told : (line : Option LineEnd) (end : LineEnd) (text last : List ℕ) (told : List InputLine) → line ≡ Some end → text ≡ last → lines_told line last ≡ told → line_told end text ∷ [] ≡ told
one_told line end text last told is same h =
    ap (λ (t : List ℕ). line_told end t ∷ []) same ∙ (sym (ap (λ (o : Option LineEnd). lines_told o last) is) ∙ h)
