-- Stations that are seated and stand up, one after the other.
use Rattle.std.proofs.Common.{◌≡◌, ◌≢◌, ℕ, zero, suc, nat_lt, ◌+◌, ◌<◌, ◌≤◌, ◌⊎◌, inl, inr, Bool, true, false, ◌==◌, List, [], ◌∷◌, ◌++◌, All, length, map, slice_get, option_map, Option, Some, Result, Ok, Err, refl, sym, ap, ◌∙◌, arith, subst, ⊎_elim}
use Rattle.std.proofs.lemmas.Bool.Decides.{nat_tests}
use Rattle.std.proofs.lemmas.Option.{none-some, same_Some, slice_get_within, get_or_from_slice_get}
use Rattle.room_core.specs.Parts.{numbers}
use Rattle.room_ports.specs.Counts.{HasRisen}
use Rattle.room_halls.specs.Stations.{HallTold, LineTold, Station, CountsSeat, NoneMoves, OpensAt, OthersStay, line_told}
use Rattle.room_halls.specs.declared.hall.HallFault.{HallFault}
use Rattle.room_halls.specs.declared.hall.HallFault.TheVariants.{Failed, Memory}
use Rattle.command_files.specs.declared.status.Status.{Status}
use Rattle.command_files.specs.declared.status.Status.TheVariants.{Done}
use Rattle.served_rooms.specs.Halls.{EndsUnserved, Unheard, first_fault, line_at, line_of, or_next}
use Rattle.edit_journal.specs.Turns.{AreFresh}
use Rattle.line_words.specs.Lines.{Line as InputLine}
use Rattle.room_keepers.specs.declared.fault.KeepFault.{KeepFault}
use Rattle.station_sessions.specs.declared.serve.End.{End}
use Rattle.station_sessions.specs.Serving.{SessionEnds}
use Rattle.station_sessions.specs.Outside.{Outside, outside}
use Rattle.served_rooms.specs.Seated.{AreNumbered, AreOrigins, AreSeated, CanAllBegin, CountsSeats, HasNumber, IsReady, IsSeated, LeftState, SeatedState, left_of, unseated}
use Rattle.station_sessions.specs.SessionInside.{TrackOpening, TrackPass, TrackRoom}
use Rattle.station_sessions.proofs.Knowing.{fresh_base, fresh_legal, fresh_origin}

pub at_place : {X : Type 0} (P : X → Type 0) (xs : List X) (k : ℕ) (x : X) → All P xs → slice_get xs k ≡ Some x → P x
at_place P xs k x all is = subst P (get_or_from_slice_get xs k x x is) (all k x (slice_get_within xs k x is))

pub some_at : {X : Type 0} (xs : List X) (k : ℕ) → k < length xs → (x : X) × (slice_get xs k ≡ Some x)
some_at [] k low = absurd (omega (arith, low))
some_at (x ∷ xs) zero low = (x, refl)
some_at (x ∷ xs) (suc k) low = some_at xs k (omega (arith, low))

-- an element of a list, or the one behind it
pub one_more : {X : Type 0} (xs : List X) (x y : X) (k : ℕ) → slice_get (xs ++ x ∷ []) k ≡ Some y → (slice_get xs k ≡ Some y) ⊎ ((k ≡ length xs) × (x ≡ y))
one_more [] x y zero is = inr (refl, same_Some x y is)
one_more [] x y (suc k) is = absurd (none-some y is)
one_more (z ∷ zs) x y zero is = inl is
one_more (z ∷ zs) x y (suc k) is = ⊎_elim (λ e. inl e) (λ p. inr (ap suc p.0, p.1)) (one_more zs x y k is)

-- the element behind these
pub behind : {X : Type 0} (before : List X) (x : X) (rest : List X) → slice_get (before ++ x ∷ rest) (length before) ≡ Some x
behind [] x rest = refl
behind (b ∷ bs) x rest = behind bs x rest

pub behind_at : {X : Type 0} (xs before : List X) (x : X) (rest : List X) → before ++ x ∷ rest ≡ xs → slice_get xs (length before) ≡ Some x
behind_at xs before x rest is = subst (λ l. slice_get l (length before) ≡ Some x) is (behind before x rest)

number_of : (ps : List TrackPass) (from count k : ℕ) (p : TrackPass) → map (λ (q : TrackPass). q.number) ps ≡ numbers from count → slice_get ps k ≡ Some p → p.number ≡ from + k
number_of [] from count k p are is = absurd (none-some p is)
number_of (q ∷ ps) from zero k p are is = let n = ap length are in absurd (omega (arith, n))
number_of (q ∷ ps) from (suc count) zero p are is = ap (λ (x : TrackPass). x.number) (sym (same_Some q p is)) ∙ (first_is are ∙ omega arith)
  where
    first_is : q.number ∷ map (λ (x : TrackPass). x.number) ps ≡ from ∷ numbers (from + 1) count → q.number ≡ from
    first_is e = Prim.grind (arith, e)
number_of (q ∷ ps) from (suc count) (suc k) p are is = number_of ps (from + 1) count k p (rest_are are) is ∙ omega arith
  where
    rest_are : q.number ∷ map (λ (x : TrackPass). x.number) ps ≡ from ∷ numbers (from + 1) count → map (λ (x : TrackPass). x.number) ps ≡ numbers (from + 1) count
    rest_are e = Prim.grind (arith, e)

-- the passes of a room that has just been opened
pub fresh_numbered : (count : ℕ) (ps : List TrackPass) → map (λ (q : TrackPass). q.number) ps ≡ numbers 0 count → AreNumbered ps
fresh_numbered count ps are = λ k p is. number_of ps 0 count k p are is ∙ omega arith

-- a list that goes on
pub is_within : {X : Type 0} (ps before : List X) (p : X) (rest : List X) → before ++ p ∷ rest ≡ ps → length before < length ps
is_within ps before p rest is = slice_get_within ps (length before) p (behind_at ps before p rest is)

-- no entry is known to a pass of a room that has just been opened
pub fresh_none : (opening : Option TrackOpening) (count : ℕ) (ps : List TrackPass) → AreFresh opening count ps → (k : ℕ) (p : TrackPass) → slice_get ps k ≡ Some p → p.entries ≡ []
fresh_none opening count ps fresh k p is = (at_place (λ (t : TrackPass). (t.opening ≡ opening) × (t.entries ≡ [])) ps k p fresh.1 is).1

pub fresh_begin : (opening : Option TrackOpening) (room : TrackRoom) (count : ℕ) (ps : List TrackPass) → AreFresh opening count ps → CanAllBegin room ps
fresh_begin opening room count ps fresh = λ k p is.
    let none = fresh_none opening count ps fresh k p is in
    (fresh_numbered count ps fresh.0 k p is, record { legal = fresh_legal room p none; base = fresh_base p none })

pub fresh_origins : (opening : Option TrackOpening) (count : ℕ) (ps : List TrackPass) → AreFresh opening count ps → AreOrigins [] ps
fresh_origins opening count ps fresh = λ k p is. (fresh_numbered count ps fresh.0 k p is, fresh_origin p (fresh_none opening count ps fresh k p is))

-- one seat more
pub seated_more : (hall : HallTold) (passes : List TrackPass) (seats : List SeatedState) (s : SeatedState) → AreSeated hall passes seats → IsSeated hall passes (length seats) s
    → AreSeated hall passes (seats ++ s ∷ [])
seated_more hall passes seats s are is k t at =
    ⊎_elim (λ (e : slice_get seats k ≡ Some t). are k t e) (λ (p : (k ≡ length seats) × (s ≡ t)). subst (λ (x : SeatedState). IsSeated hall passes k x) p.1 (subst (λ (n : ℕ). IsSeated hall passes n s) (sym p.0) is)) (one_more seats s t k at)

-- what a line tells, by its parts
pub told_line : (l : LineTold) (left taken : Option (List ℕ)) (reads writes : ℕ) → l ≡ line_told left taken reads writes → outside left reads taken writes ≡ line_of l
told_line l left taken reads writes is = ap line_of (sym is)

-- the stations below this number are seated
pub held_more : (before after : ℕ → Station) (n : ℕ) → ((k : ℕ) → k < n → (before k).seated ≡ true) → (after n).seated ≡ true → OthersStay n before after → (k : ℕ) → k < n + 1 → (after k).seated ≡ true
held_more before after n held seated others k low = at_or (k == n) refl
  where
    at_or : (b : Bool) → (k == n) ≡ b → (after k).seated ≡ true
    at_or true e = let same : k ≡ n = Prim.grind (arith, nat_tests, e) in subst (λ (m : ℕ). (after m).seated ≡ true) (sym same) seated
    at_or false e =
        let other : k ≢ n = λ (same : k ≡ n). absurd (Prim.grind (arith, nat_tests, e, same)) in
        ap (λ (s : Station). s.seated) (others k other) ∙ held k (omega (arith, low, other))

-- the stations from this number on stay
pub free_more : (first before after : ℕ → Station) (n : ℕ) → ((k : ℕ) → n ≤ k → before k ≡ first k) → OthersStay n before after → (k : ℕ) → n + 1 ≤ k → after k ≡ first k
free_more first before after n free others k ge = others k (λ (same : k ≡ n). absurd (omega (arith, ge, same))) ∙ free k (omega (arith, ge))

-- the stations stay seated where one stands up
pub held_on : (before after : ℕ → Station) (n most : ℕ) → ((k : ℕ) → k < most → (before k).seated ≡ true) → (after n).seated ≡ true → OthersStay n before after → (k : ℕ) → k < most → (after k).seated ≡ true
held_on before after n most held seated others k low = at_or (k == n) refl
  where
    at_or : (b : Bool) → (k == n) ≡ b → (after k).seated ≡ true
    at_or true e = let same : k ≡ n = Prim.grind (arith, nat_tests, e) in subst (λ (m : ℕ). (after m).seated ≡ true) (sym same) seated
    at_or false e =
        let other : k ≢ n = λ (same : k ≡ n). absurd (Prim.grind (arith, nat_tests, e, same)) in
        ap (λ (s : Station). s.seated) (others k other) ∙ held k low

pub map_more : {X Y : Type 0} (f : X → Y) (xs : List X) (x : X) → map f (xs ++ x ∷ []) ≡ map f xs ++ f x ∷ []
map_more f [] x = refl
map_more f (y ∷ ys) x = ap (λ l. f y ∷ l) (map_more f ys x)

-- what is left of one seat more
left_is : (s : SeatedState) (l : LeftState) → s.pass ≡ Some l.pass → l.end ≡ s.end → l.holding ≡ s.holding → left_of s ≡ Some l
left_is s l pass end holding =
    ap (option_map (λ (p : TrackPass). record { pass = p; end = s.end; holding = s.holding })) pass ∙ (λ i. Some (record { pass = l.pass; end = sym end i; holding = sym holding i }))

pub left_more : (left : List LeftState) (seats : List SeatedState) (l : LeftState) (s : SeatedState) → map Some left ≡ map left_of seats → s.pass ≡ Some l.pass → l.end ≡ s.end → l.holding ≡ s.holding
    → map Some (left ++ l ∷ []) ≡ map left_of (seats ++ s ∷ [])
left_more left seats l s are pass end holding =
    map_more Some left l ∙ (ap (λ (x : List (Option LeftState)). x ++ Some l ∷ []) are ∙ (ap (λ (o : Option LeftState). map left_of seats ++ o ∷ []) (sym (left_is s l pass end holding)) ∙ sym (map_more left_of seats s)))

-- a line that stands up
pub line_more : (before after : ℕ → Station) (seats : List SeatedState) (s : SeatedState) → ((k : ℕ) (t : SeatedState) → slice_get seats k ≡ Some t → line_of (before k).line ≡ t.line)
    → line_of (after (length seats)).line ≡ s.line → OthersStay (length seats) before after → (k : ℕ) (t : SeatedState) → slice_get (seats ++ s ∷ []) k ≡ Some t → line_of (after k).line ≡ t.line
line_more before after seats s lines here others k t at =
    ⊎_elim
    (λ (e : slice_get seats k ≡ Some t). let low = slice_get_within seats k t e in ap (λ (x : Station). line_of x.line) (others k (λ (same : k ≡ length seats). absurd (omega (arith, low, same)))) ∙ lines k t e)
    (λ (p : (k ≡ length seats) × (s ≡ t)). ap (λ (n : ℕ). line_of (after n).line) p.0 ∙ (here ∙ ap (λ (x : SeatedState). x.line) p.1)) (one_more seats s t k at)

-- a station that was not seated
pub not_seated : {L : Type 0} (r : Result L HallFault) (fault : HallFault) (before mid after : ℕ) → r ≡ Err fault → mid ≡ before → CountsSeat r mid after → CountsSeats (Err fault) before after
not_seated r Failed before mid after is quiet counts = subst (λ (n : ℕ). HasRisen n after) quiet (subst (λ x. CountsSeat x mid after) is counts)
not_seated r Memory before mid after is quiet counts = subst (λ x. CountsSeat x mid after) is counts ∙ quiet

-- the first status that is not 0, of one more
pub fault_more : (ss : List Status) (s : Status) → or_next (first_fault ss) s ≡ first_fault (ss ++ s ∷ [])
fault_more [] s = one_fault s
  where
    one_fault : (s : Status) → s ≡ or_next s Done
    one_fault Done = refl
    one_fault fault = refl
fault_more (Done ∷ ss) s = fault_more ss s
fault_more (fault ∷ ss) s = refl

-- ---- a hall and its stations

-- a pass of each seat is that of its place
pub seated_number : (hall : HallTold) (passes : List TrackPass) (seats : List SeatedState) → AreNumbered passes → AreSeated hall passes seats
    → (k : ℕ) (s : SeatedState) → slice_get seats k ≡ Some s → HasNumber k s.pass
seated_number hall passes seats numbered are k s at = let m = are k s at in subst (λ (o : Option TrackPass). HasNumber k o) (sym m.pass_is) (numbered k m.pass m.at_place)

-- and its session can begin
pub seated_ready : (room : TrackRoom) (hall : HallTold) (passes : List TrackPass) (seats : List SeatedState) → CanAllBegin room passes → AreSeated hall passes seats
    → (k : ℕ) (s : SeatedState) → slice_get seats k ≡ Some s → IsReady room s.pass
seated_ready room hall passes seats begin are k s at = let m = are k s at in subst (λ (o : Option TrackPass). IsReady room o) (sym m.pass_is) (begin k m.pass m.at_place).1

-- as another hall tells that tells the same of each station
pub seated_as : (first then : HallTold) (passes : List TrackPass) (seats : List SeatedState) → NoneMoves first.station then.station → AreSeated then passes seats → AreSeated first passes seats
seated_as first then passes seats same are k s at =
    let m = are k s at in
    record { pass = m.pass; pass_is = m.pass_is; at_place = m.at_place; line = m.line ∙ ap (λ (x : Station). line_of x.line) (same k) }

-- how many passes a room has
pub fresh_count : (ps : List TrackPass) (from count : ℕ) → map (λ (q : TrackPass). q.number) ps ≡ numbers from count → count ≡ length ps
fresh_count [] from zero are = refl
fresh_count [] from (suc count) are = let n = ap length are in absurd (omega (arith, n))
fresh_count (q ∷ ps) from zero are = let n = ap length are in absurd (omega (arith, n))
fresh_count (q ∷ ps) from (suc count) are = ap suc (fresh_count ps (from + 1) count (rest_are are))
  where
    rest_are : q.number ∷ map (λ (x : TrackPass). x.number) ps ≡ from ∷ numbers (from + 1) count → map (λ (x : TrackPass). x.number) ps ≡ numbers (from + 1) count
    rest_are e = Prim.grind (arith, e)

pub seats_quiet : (r : Result (Unit {0}) HallFault) (u : Unit {0}) (before after : ℕ) → r ≡ Ok u → CountsSeats r before after → after ≡ before
seats_quiet (Ok v) u before after is counts = counts
seats_quiet (Err Failed) u before after is counts = absurd (Prim.grind (arith, is))
seats_quiet (Err Memory) u before after is counts = absurd (Prim.grind (arith, is))

-- the lines of the stations that were seated, and of the others, are as they were
pub unheard : (first opened seated last : HallTold) (passes : List TrackPass) (seats : List SeatedState) → NoneMoves first.station opened.station → AreSeated opened passes seats
    → ((k : ℕ) → length seats ≤ k → seated.station k ≡ opened.station k) → ((k : ℕ) (s : SeatedState) → slice_get seats k ≡ Some s → line_at last k ≡ s.line)
    → ((k : ℕ) → length seats ≤ k → last.station k ≡ seated.station k) → Unheard first last
unheard first opened seated last passes seats same are free lines left k = at_or (nat_lt k (length seats)) refl
  where
    at_or : (b : Bool) → nat_lt k (length seats) ≡ b → line_of (last.station k).line ≡ line_of (first.station k).line
    at_or true e =
        let s = some_at seats k (Prim.grind (arith, nat_tests, e)) in
        lines k s.0 s.1 ∙ ((are k s.0 s.1).line ∙ ap (λ (x : Station). line_of x.line) (same k))
    at_or false e =
        let past : length seats ≤ k = Prim.grind (arith, nat_tests, e) in
        ap (λ (x : Station). line_of x.line) (left k past ∙ (free k past ∙ same k))

pub ends_unserved : (address : List ℕ) (before after : HallTold) (r : Result (Unit {0}) HallFault) (fault : HallFault) (status : Status) (opened seated : ℕ) → r ≡ Err fault
    → CountsSeats r opened seated → opened ≡ before.faults → after.faults ≡ seated → OpensAt before.opened after.opened address → Unheard before after → status ≡ unseated fault
    → EndsUnserved address before after status
ends_unserved address before after r Failed status opened seated is counts at still opened_at unheard st =
    subst (λ (s : Status). EndsUnserved address before after s) (sym st) (rw still (rw (← at) (subst (λ x. CountsSeats x opened seated) is counts)), record { opened = inr opened_at; unheard = unheard })
ends_unserved address before after r Memory status opened seated is counts at still opened_at unheard st =
    subst (λ (s : Status). EndsUnserved address before after s) (sym st) (still ∙ (subst (λ x. CountsSeats x opened seated) is counts ∙ at), record { opened = inr opened_at; unheard = unheard })

-- a line that has been left tells what it told
module _ (K : List InputLine → (List (List ℕ) → Type 0) → Type 0) (B : List InputLine → InputLine → (List (List ℕ) → Type 0) → Type 0) (U : KeepFault → Type 0) (old : Outside) where
  pub still_ends : (left taken left' taken' : Option (List ℕ)) (reads writes reads' writes' : ℕ) (e : End) → (left' ≡ left) × (reads' ≡ reads) → (taken' ≡ taken) × (writes' ≡ writes)
      → SessionEnds K B U old (outside left reads taken writes) e → SessionEnds K B U old (outside left' reads' taken' writes') e
  still_ends left taken left' taken' reads writes reads' writes' e source sink ends =
      subst (λ (x : Outside). SessionEnds K B U old x e) (λ i. outside (sym source.0 i) (sym source.1 i) (sym sink.0 i) (sym sink.1 i)) ends
