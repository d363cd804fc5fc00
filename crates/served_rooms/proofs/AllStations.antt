-- Stations that were served over the lines of a hall, and what is left of them.
use Rattle.std.proofs.Common.{◌≡◌, ℕ, ◌≤◌, List, [], ◌∷◌, ◌++◌, length, map, take, drop, slice_get, Option, Some, None, IsSome, option_map, refl, sym, ap, ◌∙◌, arith, subst}
use Rattle.std.proofs.lemmas.List.{length-map, take_at}
use Rattle.std.proofs.lemmas.Option.{none-some, same_Some, slice_get-map, slice_get_within}
use Rattle.timecode12.specs.Numbers.{Counted}
use Rattle.room_halls.specs.Stations.{HallTold}
use Rattle.room_keepers.specs.declared.fault.KeepFault.{KeepFault}
use Rattle.command_files.specs.declared.status.Status.{Status}
use Rattle.station_sessions.specs.declared.serve.End.{End}
use Rattle.station_sessions.specs.Outside.{Outside}
use Rattle.station_sessions.specs.SessionInside.{Holding, TrackPass, TrackRoom}
use Rattle.served_rooms.specs.Halls.{first_fault, line_at, status_of}
use Rattle.served_rooms.specs.Seated.{AreNumbered, AreSeated, CanAllBegin, HasNumber, HasSeated, HaveServed, IsServedIn, LeftState, SeatServed, SeatedState, WasServed, left_of}
use Rattle.served_rooms.proofs.Seating.{some_at}

-- ---- what is left of a seat

pub as_many : (left : List LeftState) (seats : List SeatedState) → map Some left ≡ map left_of seats → length left ≡ length seats
as_many left seats are = sym (length-map left Some) ∙ (ap length are ∙ length-map seats left_of)

pub record IsLeftOf (pass : Option TrackPass) (end : End) (holding : Holding) (l : LeftState) : Type 0 where
  pub pass_is : pass ≡ Some l.pass
  pub end_is : end ≡ l.end
  pub holding_is : holding ≡ l.holding

left_by : (pass : Option TrackPass) (end : End) (holding : Holding) (l : LeftState) → option_map (λ (p : TrackPass). record { pass = p; end = end; holding = holding }) pass ≡ Some l
    → IsLeftOf pass end holding l
left_by None end holding l is = absurd (none-some l is)
left_by (Some p) end holding l is =
    let same = same_Some (record { pass = p; end = end; holding = holding }) l is in
    record { pass_is = ap (λ (x : LeftState). Some x.pass) same; end_is = ap (λ (x : LeftState). x.end) same; holding_is = ap (λ (x : LeftState). x.holding) same }

-- what is left at the place of a seat is left of that seat
left_at : (left : List LeftState) (seats : List SeatedState) (k : ℕ) (t : SeatedState) (l : LeftState) → map Some left ≡ map left_of seats → slice_get seats k ≡ Some t → slice_get left k ≡ Some l
    → IsLeftOf t.pass t.end t.holding l
left_at left seats k t l are seat is =
    let here : option_map Some (slice_get left k) ≡ Some (left_of t) =
    sym (slice_get-map Some left k) ∙ (ap (λ (x : List (Option LeftState)). slice_get x k) are ∙ (slice_get-map left_of seats k ∙ ap (option_map left_of) seat)) in
    let there : Some (Some l) ≡ Some (left_of t) = sym (ap (option_map Some) is) ∙ here in
    left_by t.pass t.end t.holding l (sym (same_Some (Some l) (left_of t) there))

one_end : (l : LeftState) (t : SeatedState) → Some l ≡ left_of t → status_of l.end ≡ status_of t.end
one_end l t is = ap status_of (sym (left_by t.pass t.end t.holding l (sym is)).end_is)

-- how the sessions ended
ends_left : (left : List LeftState) (seats : List SeatedState) → map Some left ≡ map left_of seats → map (λ (l : LeftState). status_of l.end) left ≡ map status_of (map (λ (t : SeatedState). t.end) seats)
ends_left [] [] are = refl
ends_left [] (t ∷ ts) are = let n = ap length are in absurd (omega (arith, n))
ends_left (l ∷ ls) [] are = let n = ap length are in absurd (omega (arith, n))
ends_left (l ∷ ls) (t ∷ ts) are = λ i. one_end l t (heads are) i ∷ ends_left ls ts (tails are) i
  where
    heads : Some l ∷ map Some ls ≡ left_of t ∷ map left_of ts → Some l ≡ left_of t
    heads e = cc

    tails : Some l ∷ map Some ls ≡ left_of t ∷ map left_of ts → map Some ls ≡ map left_of ts
    tails e = cc

-- ---- one seat, before its session and after it

pub number_is : (b : Option TrackPass) (p : TrackPass) (n : ℕ) → b ≡ Some p → HasNumber n b → p.number ≡ n
number_is None p n is has = absurd has
number_is (Some q) p n is has = ap (λ (x : TrackPass). x.number) (sym (same_Some q p is)) ∙ has

pub has_pass : (number : ℕ) (a : Option TrackPass) → HasNumber number a → IsSome a
has_pass number None has = absurd has
has_pass number (Some p) has = refl

module _ (room : TrackRoom) (counting : Counted) (start holds : ℕ) (may_fail : KeepFault → Type 0) where
  -- between the passes of a seat
  seat_served : (a b : Option TrackPass) (p q : TrackPass) (old new : SeatedState) → a ≡ Some p → b ≡ Some q → SeatServed room counting start holds may_fail a b old new
      → (q.number ≡ p.number) × WasServed room counting start holds may_fail p (record { pass = q; end = new.end; holding = new.holding }) old.line new.line
  seat_served None b p q old new is now served = absurd (none-some p is)
  seat_served (Some x) None p q old new is now served = absurd (none-some q now)
  seat_served (Some x) (Some y) p q old new is now served =
      subst (λ (z : TrackPass × TrackPass). (z.1.number ≡ z.0.number) × WasServed room counting start holds may_fail z.0 (record { pass = z.1; end = new.end; holding = new.holding }) old.line new.line)
      (λ i. (same_Some x p is i, same_Some y q now i)) served

  same_number : (a b : Option TrackPass) (p : TrackPass) (old new : SeatedState) → a ≡ Some p → SeatServed room counting start holds may_fail a b old new → HasNumber p.number b
  same_number None b p old new is served = absurd (none-some p is)
  same_number (Some x) None p old new is served = absurd served
  same_number (Some x) (Some y) p old new is served = served.0 ∙ ap (λ (z : TrackPass). z.number) (same_Some x p is)

  -- ---- all stations

  -- Seats that have these passes, each served over its line, which was as the hall told of it before.
  pub record SeatsServed (before : HallTold) (passes : List TrackPass) (seats out : List SeatedState) : Type 0 where
    pub count : length seats ≡ length passes
    pub all : length out ≡ length seats
    pub numbered : AreNumbered passes
    pub seated : AreSeated before passes seats
    pub served : (k : ℕ) (s t : SeatedState) → slice_get seats k ≡ Some s → slice_get out k ≡ Some t → IsServedIn room counting start holds may_fail s t

  pub seats_served : (before mid : HallTold) (passes : List TrackPass) (items old new : List SeatedState) → old ≡ items → HasSeated before mid passes items → CanAllBegin room passes
      → length new ≡ length old → ((k : ℕ) (s t : SeatedState) → slice_get old k ≡ Some s → slice_get new k ≡ Some t → IsServedIn room counting start holds may_fail s t)
      → SeatsServed before passes old new
  seats_served before mid passes items old new same has begin all served = record {
    count = ap length same ∙ has.count;
    all = all;
    numbered = λ k p at. (begin k p at).0;
    seated = subst (λ (l : List SeatedState). AreSeated before passes l) (sym same) has.seated;
    served = served;
  }

  module _ (before : HallTold) (passes : List TrackPass) (seats out : List SeatedState) (a : SeatsServed before passes seats out) where
    -- the numbers of the stations when they have been served
    pub numbers_left : (k : ℕ) (t : SeatedState) → slice_get out k ≡ Some t → HasNumber k t.pass
    numbers_left k t at =
        let n = slice_get_within out k t at in
        let s = some_at seats k (omega (arith, n, a.all)) in
        let m = a.seated k s.0 s.1 in
        subst (λ (x : ℕ). HasNumber x t.pass) (a.numbered k m.pass m.at_place) (same_number s.0.pass t.pass m.pass s.0 t m.pass_is (a.served k s.0 t s.1 at))

    module _ (after : HallTold) (left : List LeftState) (lines : (k : ℕ) (t : SeatedState) → slice_get out k ≡ Some t → line_at after k ≡ t.line) (kept : map Some left ≡ map left_of out) where
      station_served : (k : ℕ) (p : TrackPass) (l : LeftState) → slice_get passes k ≡ Some p → slice_get left k ≡ Some l
          → (l.pass.number ≡ k) × WasServed room counting start holds may_fail p l (line_at before k) (line_at after k)
      station_served k p l first last =
          let n = slice_get_within left k l last in
          let t = some_at out k (omega (arith, n, as_many left out kept)) in
          let s = some_at seats k (omega (arith, n, as_many left out kept, a.all)) in
          let m = a.seated k s.0 s.1 in
          let is = left_at left out k t.0 l kept t.1 last in
          let mine : m.pass ≡ p = same_Some m.pass p (sym m.at_place ∙ first) in
          let served = seat_served s.0.pass t.0.pass m.pass l.pass s.0 t.0 m.pass_is is.pass_is (a.served k s.0 t.0 s.1 t.1) in (
            served.0 ∙ a.numbered k m.pass m.at_place,
            subst (λ (z : TrackPass × LeftState × Outside × Outside). WasServed room counting start holds may_fail z.0 z.1 z.2 z.3)
                (λ i. (mine i, record { pass = l.pass; end = is.end_is i; holding = is.holding_is i }, m.line i, sym (lines k t.0 t.1) i)) served.1,
          )

      pub have_served : (status : Status) → ((s : ℕ) → length passes ≤ s → line_at after s ≡ line_at before s) → status ≡ first_fault (map status_of (map (λ (t : SeatedState). t.end) out))
          → after.faults ≡ before.faults → HaveServed room counting start holds may_fail passes left before after status
      have_served status others fault quiet = record {
        count = as_many left out kept ∙ (a.all ∙ a.count);
        numbers = λ k l at. numbered_at k l at (some_at passes k (let n = slice_get_within left k l at in omega (arith, n, as_many left out kept, a.all, a.count)));
        each = λ k p l first last. (station_served k p l first last).1;
        others = others;
        status_is = fault ∙ ap first_fault (sym (ends_left left out kept));
        quiet = quiet;
      }
        where
          numbered_at : (k : ℕ) (l : LeftState) → slice_get left k ≡ Some l → (p : TrackPass) × (slice_get passes k ≡ Some p) → l.pass.number ≡ k
          numbered_at k l at p = (station_served k p.0 l p.1 at).0

-- ---- seats of a vector that was lent

-- what comes back of it
back : {X : Type 0} (items new : List X) (n : ℕ) → n ≡ length items → length new ≡ length items → take n (new ++ drop (length new) items) ≡ new
back items new n count all = take_at new (drop (length new) items) n (all ∙ sym count)

module _ (items old new : List SeatedState) (n : ℕ) (same : old ≡ items) (count : n ≡ length items) (all : length new ≡ length old) where
  -- the seats that come back, of which this holds
  pub of_back : (P : List SeatedState → Type 0) → P (take n (new ++ drop (length new) items)) → P new
  of_back P h = subst P (back items new n count (all ∙ ap length same)) h

  pub to_back : (P : List SeatedState → Type 0) → P new → P (take n (new ++ drop (length new) items))
  to_back P h = subst P (sym (back items new n count (all ∙ ap length same))) h

  pub length_back : length (take n (new ++ drop (length new) items)) ≡ length items
  length_back = ap length (back items new n count (all ∙ ap length same)) ∙ (all ∙ ap length same)

-- ---- statuses

-- the statuses of the sessions, and of one more
pub ends_more : (seats : List SeatedState) (s : SeatedState) → map status_of (map (λ (t : SeatedState). t.end) (seats ++ s ∷ [])) ≡ map status_of (map (λ (t : SeatedState). t.end) seats) ++ status_of s.end ∷ []
ends_more [] s = refl
ends_more (t ∷ ts) s = ap (λ (ss : List Status). status_of t.end ∷ ss) (ends_more ts s)
