-- The lines of an input, as far as it was read.
use Rattle.std.proofs.lemmas.Bool.Decides.{nat_tests}
use Rattle.std.proofs.Common.{◌≡◌, ℕ, zero, suc, min, nat_le, Bool, true, false, ◌+◌, ◌-◌, ◌<◌, ◌≤◌, ◌↔◌, ◌⊎◌, inl, inr, List, [], ◌∷◌, ◌++◌, length, take, drop, Option, Some, None, IfSome, refl, sym, ap, ◌∙◌, arith, append_assoc, subst}
use Rattle.std.specs.Option.{IsSomeAnd}
use Rattle.std.proofs.lemmas.List.{length-append, take_at}
use Rattle.room_ports.specs.Bytes.{Gives}
use Rattle.room_ports.specs.Counts.{HasRisen}
use Rattle.room_ports.specs.Sides.{Lent, SourceSide, SinkSide}
use Rattle.room_ports.proofs.Fronts.{gives-gives}
use Rattle.line_words.specs.Lines.{Line as InputLine, last_line, lines_of}
use Rattle.line_words.specs.Pieces.{ended, pending_after}
use Rattle.line_words.proofs.PieceLaws.{ended-append, pending_after-append, lines_of_lem}
use Rattle.room_keepers.specs.Faults.{IsCounted}
use Rattle.room_keepers.specs.declared.fault.KeepFault.{KeepFault}
use Rattle.room_keepers.specs.declared.fault.KeepFault.TheVariants.{Disk, Memory}
use Rattle.station_sessions.specs.Outside.{Outside, NoFault, Got, AreSent, most_input, most_read}
use Rattle.station_sessions.specs.Serving.{StopsWithin, StopsAt, SessionEnds}
use Rattle.station_sessions.specs.Stopping.{CountsStop, StopsSo, end_of}
use Rattle.station_sessions.specs.declared.serve.End.{End}
use Rattle.station_sessions.specs.declared.serve.End.TheVariants.{Ended, TooMuchInput}
use Rattle.station_sessions.specs.declared.serve.Stop.{Stop}
use Rattle.station_sessions.specs.declared.serve.Stop.TheVariants.{Unsent, Unkept}
use Rattle.station_sessions.specs.Session.{StationState}
use Rattle.station_sessions.specs.Served.{BreaksTo, ServesTo}
use Rattle.station_sessions.proofs.Serves.{serves_more, serves_lines, stops_more, stops_next}

-- what an input gave is what was got of it
got_some : (old new : Outside) (got : List ℕ) (Holds : List ℕ → List ℕ → Type 0) → Gives old.left new.left got → ((left : List ℕ) → Holds got left) → Got old new Holds
got_some old new got Holds gives holds = between old.left new.left gives where
  between : (before after : Option (List ℕ)) → Gives before after got → IfSome before (λ bytes. IsSomeAnd after (λ left. (gave : List ℕ) × (bytes ≡ gave ++ left) × Holds gave left))
  between None after g = tt
  between (Some b) None g = absurd g
  between (Some b) (Some x) g = (got, g, holds x)

behind_nothing : (us vs : List ℕ) → us ++ vs ≡ [] → vs ≡ []
behind_nothing [] vs e = e
behind_nothing (u ∷ us) vs e = cc

-- a read of nothing at the end
got_end : (before mid after : Option (List ℕ)) (got chunk : List ℕ) (n : ℕ) (Holds : List ℕ → List ℕ → Type 0) → Gives before mid got → Gives mid after chunk
    → n ≡ 0 → IfSome mid (λ bytes. (n ≡ 0) ↔ (bytes ≡ [])) → ((left : List ℕ) → left ≡ [] → Holds got left)
    → IfSome before (λ bytes. IsSomeAnd after (λ left. (gave : List ℕ) × (bytes ≡ gave ++ left) × Holds gave left))
got_end None mid after got chunk n Holds g h none_read end holds = tt
got_end (Some b) None after got chunk n Holds g h none_read end holds = absurd g
got_end (Some b) (Some x) None got chunk n Holds g h none_read end holds = absurd h
got_end (Some b) (Some x) (Some y) got chunk n Holds g h none_read end holds =
    let none : x ≡ [] = end.0 none_read in
    let rest : y ≡ [] = behind_nothing chunk y (sym h ∙ none) in
    (got, g ∙ ap (λ t. got ++ t) (none ∙ sym rest), holds y rest)

-- the lines that end in a piece more
pub ended_more : (got piece : List ℕ) (pending : InputLine) → pending ≡ pending_after (Some []) got → ended (Some []) got ++ ended pending piece ≡ ended (Some []) (got ++ piece)
ended_more got piece pending is = ap (λ p. ended (Some []) got ++ ended p piece) is ∙ sym (ended-append (Some []) got piece)

pub pending_more : (got piece : List ℕ) (pending next : InputLine) → pending ≡ pending_after (Some []) got → next ≡ pending_after pending piece → next ≡ pending_after (Some []) (got ++ piece)
pending_more got piece pending next is then = then ∙ (ap (λ p. pending_after p piece) is ∙ sym (pending_after-append (Some []) got piece))

-- at the end the lines are those of all bytes
pub lines_at_end : (got : List ℕ) (pending : InputLine) → pending ≡ pending_after (Some []) got → ended (Some []) got ++ last_line pending ≡ lines_of got
lines_at_end got pending is = ap (λ p. ended (Some []) got ++ last_line p) is ∙ sym (lines_of_lem got)

-- the first bytes of an input
pub first_bytes : (got piece more : List ℕ) (n : ℕ) → length got + length piece ≡ n → take n (got ++ (piece ++ more)) ≡ got ++ piece
first_bytes got piece more n h = ap (take n) (sym (append_assoc got piece more)) ∙ take_at (got ++ piece) more n (length-append got piece ∙ h)

pub take_split : (m n : ℕ) (xs : List ℕ) → m ≤ n → take n xs ≡ take m xs ++ drop m (take n xs)
take_split zero n xs h = refl
take_split (suc m) zero xs h = absurd (omega arith)
take_split (suc m) (suc n) [] h = refl
take_split (suc m) (suc n) (x ∷ xs) h = ap (λ ys. x ∷ ys) (take_split m n xs (omega arith))

-- the least of two numbers reaches one of them
pub fitting : (f n m : ℕ) → f ≡ min n m → (m ≤ f) ⊎ (n ≤ f)
fitting f n m is = by (nat_le n m) refl where
  by : (b : Bool) → nat_le n m ≡ b → (m ≤ f) ⊎ (n ≤ f)
  by true e = inr (grind (arith, nat_tests, is, e))
  by false e = inl (grind (arith, nat_tests, is, e))

-- these bytes of a chunk that fit
pub take_fitting : (m n f : ℕ) (xs : List ℕ) → f ≤ m → f ≤ n → (m ≤ f) ⊎ (n ≤ f) → take m (take n xs) ≡ take f xs
take_fitting m n zero xs fm fn (inl le) = let z : m ≡ 0 = omega (arith, le) in rw z refl
take_fitting m n zero xs fm fn (inr le) = let z : n ≡ 0 = omega (arith, le) in rw z (nothing m) where
  nothing : (m : ℕ) → take {A = ℕ} m [] ≡ []
  nothing zero = refl
  nothing (suc m) = refl
take_fitting zero n (suc f) xs fm fn either = absurd (omega (arith, fm))
take_fitting (suc m) zero (suc f) xs fm fn either = absurd (omega (arith, fn))
take_fitting (suc m) (suc n) (suc f) [] fm fn either = refl
take_fitting (suc m) (suc n) (suc f) (x ∷ xs) fm fn (inl le) = ap (λ ys. x ∷ ys) (take_fitting m n f xs (omega (arith, fm)) (omega (arith, fn)) (inl (omega (arith, le))))
take_fitting (suc m) (suc n) (suc f) (x ∷ xs) fm fn (inr le) = ap (λ ys. x ∷ ys) (take_fitting m n f xs (omega (arith, fm)) (omega (arith, fn)) (inr (omega (arith, le))))

-- a session so far: what was got, the lines that ended in it, and no fault
pub record SoFar (a b : StationState) (old now : Outside) (pending : InputLine) (got : List ℕ) : Type 0 where
  pub gives : Gives old.left now.left got
  pub waits : pending ≡ pending_after (Some []) got
  pub serves : ServesTo a b (ended (Some []) got) (AreSent old.taken now.taken)
  pub within : length got ≤ most_input
  pub quiet : NoFault old now

-- a chunk that was read, and what it was answered by did not read
pub record Chunk (now new : Outside) (chunk : List ℕ) : Type 0 where
  pub gives : Gives now.left new.left chunk
  pub reads : new.reads ≡ now.reads

-- how a session ends, where what keeps its journal may fail so
abbrev pub EndsSo : (KeepFault → Type 0) → StationState → StationState → Outside → Outside → End → Type 0
EndsSo may_fail a c old new end = SessionEnds (ServesTo a c) (BreaksTo a c) (λ fault. may_fail fault × IsCounted fault c.failures) old new end

-- it stopped so at a line, after these
abbrev StoppedSo : (KeepFault → Type 0) → StationState → StationState → Outside → Outside → Stop → List InputLine → InputLine → Type 0
StoppedSo may_fail a c old new stop before line = StopsSo may_fail a c before line old.taken new.taken stop

-- why it stopped: what keeps its journal failed
abbrev Fails : (KeepFault → Type 0) → StationState → Stop → Type 0
Fails may_fail c Unsent = Unit {0}
Fails may_fail c (Unkept fault) = may_fail fault × IsCounted fault c.failures

fails_so : (may_fail : KeepFault → Type 0) (b c : StationState) (before : List InputLine) (line : InputLine) (t u : Option (List ℕ)) (stop : Stop) → StopsSo may_fail b c before line t u stop → Fails may_fail c stop
fails_so may_fail b c before line t u Unsent h = tt
fails_so may_fail b c before line t u (Unkept fault) h = (h.0, h.1)

pub got_map : (old new : Outside) (H K : List ℕ → List ℕ → Type 0) → ((got left : List ℕ) → H got left → K got left) → Got old new H → Got old new K
got_map old new H K f h = between old.left new.left h where
  between : (before after : Option (List ℕ)) → IfSome before (λ bytes. IsSomeAnd after (λ left. (got : List ℕ) × (bytes ≡ got ++ left) × H got left))
      → IfSome before (λ bytes. IsSomeAnd after (λ left. (got : List ℕ) × (bytes ≡ got ++ left) × K got left))
  between None after k = tt
  between (Some b) None k = absurd k
  between (Some b) (Some x) (got, is, k) = (got, is, f got x k)

-- where a session stopped, told in another way
pub stops_map : (H K : List InputLine → InputLine → Type 0) → ((before : List InputLine) (line : InputLine) → H before line → K before line) → (got left : List ℕ) → StopsAt H got left → StopsAt K got left
stops_map H K f got left (inl s) =
    inl (record {
      answered = s.answered;
      piece = s.piece;
      got_is = s.got_is;
      one_read = s.one_read;
      within = s.within;
      before = s.before;
      line = s.line;
      stops = s.stops;
      holds = f _ s.line s.holds;
    })
stops_map H K f got left (inr s) =
    inr (record {
      none_left = s.none_left;
      within = s.within;
      line = s.line;
      last = s.last;
      holds = f _ s.line s.holds;
    })

-- a session that stopped ends so
ends_stopped : (may_fail : KeepFault → Type 0) (a c : StationState) (old now new : Outside) (stop : Stop) → NoFault old now → new.reads ≡ now.reads → CountsStop stop now.writes new.writes
    → Fails may_fail c stop → Got old new (StopsAt (StoppedSo may_fail a c old new stop)) → EndsSo may_fail a c old new (end_of stop)
ends_stopped may_fail a c old now new Unsent quiet reads counts fails got = (
  (subst (λ (w : ℕ). HasRisen w new.writes) quiet.1 counts, reads ∙ quiet.0),
  got,
)
ends_stopped may_fail a c old now new (Unkept Disk) quiet reads counts fails got = (
  fails,
  (reads ∙ quiet.0, counts ∙ quiet.1),
  got_map old new _ _ (stops_map (StoppedSo may_fail a c old new (Unkept Disk)) _ (λ before line h. h.2)) got,
)
ends_stopped may_fail a c old now new (Unkept Memory) quiet reads counts fails got = (
  fails,
  (reads ∙ quiet.0, counts ∙ quiet.1),
  got_map old new _ _ (stops_map (StoppedSo may_fail a c old new (Unkept Memory)) _ (λ before line h. h.2)) got,
)

pub ends_all : (may_fail : KeepFault → Type 0) (a b c : StationState) (old now new : Outside) (pending : InputLine) (got chunk : List ℕ) (n : ℕ) → SoFar a b old now pending got → Chunk now new chunk
    → n ≡ 0 → IfSome now.left (λ bytes. (n ≡ 0) ↔ (bytes ≡ [])) → new.writes ≡ now.writes → ServesTo b c (last_line pending) (AreSent now.taken new.taken)
    → EndsSo may_fail a c old new Ended
ends_all may_fail a b c old now new pending got chunk n s k none_read end quiet g =
    let lines = serves_lines a c _ _ (AreSent old.taken new.taken) (lines_at_end got pending s.waits)
    (serves_more a b c (ended (Some []) got) (last_line pending) old.taken now.taken new.taken s.serves g) in (
      (k.reads ∙ s.quiet.0, quiet ∙ s.quiet.1),
      got_end old.left now.left new.left got chunk n (λ gave left. (left ≡ []) × (length gave ≤ most_input) × ServesTo a c (lines_of gave) (AreSent old.taken new.taken))
          s.gives k.gives none_read end (λ left none. (none, s.within, lines)),
    )

-- it stopped at the last line
pub ends_stop : (may_fail : KeepFault → Type 0) (a b c : StationState) (old now new : Outside) (pending : InputLine) (got chunk : List ℕ) (n : ℕ) (stop : Stop) → SoFar a b old now pending got → Chunk now new chunk
    → n ≡ 0 → IfSome now.left (λ bytes. (n ≡ 0) ↔ (bytes ≡ [])) → CountsStop stop now.writes new.writes
    → (line : InputLine) × (last_line pending ≡ line ∷ []) × StopsSo may_fail b c [] line now.taken new.taken stop
    → EndsSo may_fail a c old new (end_of stop)
ends_stop may_fail a b c old now new pending got chunk n stop s k none_read end counts (line, last, g) =
    ends_stopped may_fail a c old now new stop s.quiet k.reads counts (fails_so may_fail b c [] line now.taken new.taken stop g)
    (got_end old.left now.left new.left got chunk n (StopsAt (StoppedSo may_fail a c old new stop)) s.gives k.gives none_read end
    (λ left none. inr (record {
      none_left = none;
      within = s.within;
      line = line;
      last = ap last_line (sym s.waits) ∙ last;
      holds = stops_next may_fail a b c (ended (Some []) got) line old.taken now.taken new.taken stop s.serves g;
    })))

-- it stopped while a piece was answered
pub piece_stop : (may_fail : KeepFault → Type 0) (a b c : StationState) (old now new : Outside) (pending : InputLine) (got chunk piece : List ℕ) (stop : Stop) → SoFar a b old now pending got → Chunk now new chunk
    → length chunk ≤ most_read → take (most_input - length got) chunk ≡ piece → CountsStop stop now.writes new.writes
    → (before : List InputLine) × (line : InputLine) × StopsWithin pending piece before line × StopsSo may_fail b c before line now.taken new.taken stop
    → EndsSo may_fail a c old new (end_of stop)
piece_stop may_fail a b c old now new pending got chunk piece stop s k small fits counts (before, line, stops, g) =
    ends_stopped may_fail a c old now new stop s.quiet k.reads counts (fails_so may_fail b c before line now.taken new.taken stop g)
    (got_some old new (got ++ chunk) (StopsAt (StoppedSo may_fail a c old new stop)) (gives-gives old.left now.left new.left got chunk s.gives k.gives)
    (λ left. inl (record {
      answered = got;
      piece = chunk;
      got_is = refl;
      one_read = small;
      within = s.within;
      before = before;
      line = line;
      stops = rw (← s.waits, fits) stops;
      holds = stops_more may_fail a b c (ended (Some []) got) before line old.taken now.taken new.taken stop s.serves g;
    })))

-- the lines that ended in what was got and in a piece more
pub serves_piece : (a b c : StationState) (old now new : Outside) (pending : InputLine) (got piece : List ℕ) → SoFar a b old now pending got
    → ServesTo b c (ended pending piece) (AreSent now.taken new.taken) → ServesTo a c (ended (Some []) (got ++ piece)) (AreSent old.taken new.taken)
serves_piece a b c old now new pending got piece s g =
    serves_lines a c _ _ (AreSent old.taken new.taken) (ended_more got piece pending s.waits)
    (serves_more a b c (ended (Some []) got) (ended pending piece) old.taken now.taken new.taken s.serves g)

pub too_much : (may_fail : KeepFault → Type 0) (a b c : StationState) (old now new : Outside) (pending : InputLine) (got chunk piece rest : List ℕ) → SoFar a b old now pending got → Chunk now new chunk
    → length chunk ≤ most_read → chunk ≡ piece ++ rest → length got + length piece ≡ most_input → length piece < length chunk → new.writes ≡ now.writes
    → ServesTo b c (ended pending piece) (AreSent now.taken new.taken) → EndsSo may_fail a c old new TooMuchInput
too_much may_fail a b c old now new pending got chunk piece rest s k small cut full more quiet g =
    let P : List ℕ → Type 0 = λ bytes. ServesTo a c (ended (Some []) bytes) (AreSent old.taken new.taken) in
    let first : take most_input (got ++ chunk) ≡ got ++ piece = ap (λ t. take most_input (got ++ t)) cut ∙ first_bytes got piece rest most_input full in (
      (k.reads ∙ s.quiet.0, quiet ∙ s.quiet.1),
      got_some old new (got ++ chunk) _ (gives-gives old.left now.left new.left got chunk s.gives k.gives)
          (λ left. (
            omega (arith, length-append got chunk, full, more),
            omega (arith, length-append got chunk, s.within, small),
            subst P (sym first) (serves_piece a b c old now new pending got piece s g),
          )),
    )

pub piece_more : (a b c : StationState) (old now new : Outside) (pending next : InputLine) (got piece : List ℕ) → SoFar a b old now pending got → Chunk now new piece
    → length got + length piece ≤ most_input → new.writes ≡ now.writes → next ≡ pending_after pending piece
    → ServesTo b c (ended pending piece) (AreSent now.taken new.taken) → SoFar a c old new next (got ++ piece)
piece_more a b c old now new pending next got piece s k within quiet then g = record {
  gives = gives-gives old.left now.left new.left got piece s.gives k.gives;
  waits = pending_more got piece pending next s.waits then;
  serves = serves_piece a b c old now new pending got piece s g;
  within = omega (arith, length-append got piece, within);
  quiet = (k.reads ∙ s.quiet.0, quiet ∙ s.quiet.1);
}

-- what a line's two sides say of it
pub source_same : (x y : SourceSide) (l m : Option (List ℕ)) (f g : ℕ) (a b : Lent) → x ≡ record { left = l; faults = f; lent = a } → y ≡ record { left = m; faults = g; lent = b } → y ≡ x → (m ≡ l) × (g ≡ f) × (b ≡ a)
source_same x y l m f g a b is also same = let e = sym also ∙ (same ∙ is) in (ap (λ (s : SourceSide). s.left) e, ap (λ (s : SourceSide). s.faults) e, ap (λ (s : SourceSide). s.lent) e)

pub sink_same : (x y : SinkSide) (l m : Option (List ℕ)) (f g : ℕ) (a b : Lent) → x ≡ record { taken = l; faults = f; lent = a } → y ≡ record { taken = m; faults = g; lent = b } → y ≡ x → (m ≡ l) × (g ≡ f) × (b ≡ a)
sink_same x y l m f g a b is also same = let e = sym also ∙ (same ∙ is) in (ap (λ (s : SinkSide). s.taken) e, ap (λ (s : SinkSide). s.faults) e, ap (λ (s : SinkSide). s.lent) e)
