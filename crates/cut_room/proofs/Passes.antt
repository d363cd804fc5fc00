-- What a pass knows after a turn at the journal.
use Rattle.std.proofs.Common.{◌≡◌, ℕ, suc, ◌<◌, ◌≤◌, List, [], ◌∷◌, ◌++◌, length, Bool, true, ◌==◌, cond, Option, Some, None, Result, Ok, Err, IsSome, slice_get, refl, sym, ap, ◌∙◌, subst, arith, option_map, take}
use Rattle.std.proofs.lemmas.List.{append-nil, length-append}
use Rattle.std.proofs.Math.Seq.{take-append_seam}
use Rattle.std.proofs.lemmas.List.Elements.{filter-append}
use Rattle.std.proofs.lemmas.Bool.Decides.{nat_tests}
use Rattle.room_core.specs.declared.entry.Entry.{Entry}
use Rattle.room_core.specs.History.{after_entry, replay, state_in, IsLegal, most_entries}
use Rattle.room_core.specs.Parts.{AreGood}
use Rattle.room_core.specs.Projection.{of_station}
use Rattle.room_core.specs.Whole.{Meaning, picked, with_picked, put_back, on_whole, unless_refused, whole}
use Rattle.room_core.proofs.Histories.{replay-more, rise-more}
use Rattle.edit_journal.specs.declared.name.Name.TheVariants.{Station}
use Rattle.edit_journal.specs.Seats.{Opening, Begins}
use Rattle.edit_journal.specs.Turns.{Known, StandsIn, last_of}
use Rattle.edit_journal.proofs.Lasts.{above_last}
use Rattle.track_locks.specs.Homes.{IsAt, IsHistory, StandFor}
use Rattle.track_locks.proofs.Several.{within}
use Rattle.track_locks.proofs.Stands.{one_at}
use Rattle.cut_room.specs.Gathered.{ComesTo}
use Rattle.cut_room.specs.Rooms.{told, Stays, IsAtPoint, IsCommitted, IsTurnedDown, FindsNoRoom, IsSight}

pub one_opening : {A : Type 0} (o : Option A) (a b : A) → o ≡ Some a → o ≡ Some b → a ≡ b
one_opening o a b x y = let e : Some a ≡ Some b = sym x ∙ y in Prim.grind (arith, e)

pub comes_to : {A : Type 0} (o : Option A) → IsSome o → (a : A) × (o ≡ Some a)
comes_to None h = absurd (Prim.grind (arith, h))
comes_to (Some a) h = (a, refl)

pub is_some : {A : Type 0} (o : Option A) (a : A) → o ≡ Some a → IsSome o
is_some o a h = rw h refl

-- the history is legal for this opening
pub legal_of : {O P C D R : Type 0} (meaning : O → Meaning P C D R) (opens : O → List P → Type 0) (opening : Option (Opening O P)) (o : Opening O P) (entries : List (Entry C))
    → opening ≡ Some o → IsHistory meaning opens opening entries → IsLegal (whole (meaning o.0)) o.1 entries
legal_of {O} {P} meaning opens opening o entries is h =
    subst (λ (p : Opening O P). IsLegal (whole (meaning p.0)) p.1 entries) (one_opening opening h.0 o h.1 is) h.3

-- nothing happened
pub stays_same : {O P C D R : Type 0} (m : Meaning P C D R) (opening : List P) (pass : Known O P C) → Stays m opening pass pass
stays_same m opening pass = record {
  goes_on = record { number_is = refl; opening_is = refl; front = ([], sym (append-nil pass.entries)); legal = λ h. h };
  own = refl;
}

-- a pass that was at the journal knows it whole
pub at_point : {O P C D R : Type 0} (meaning : O → Meaning P C D R) (opens : O → List P → Type 0) (opening : Option (Opening O P)) (o : Opening O P) (entries : List (Entry C))
    (before after : Known O P C) (point : ℕ) → opening ≡ Some o → IsHistory meaning opens opening entries → StandsIn meaning opening entries (Station before.number) before.entries
    → after.number ≡ before.number → after.opening ≡ before.opening → after.entries ≡ entries → point ≡ length entries
    → IsAtPoint (meaning o.0) o.1 before after point
at_point {O} {P} {C} meaning opens opening o entries before after point is history stands number opened same count =
    let a = stands o is in
    let legal : IsLegal (whole (meaning o.0)) o.1 after.entries =
    subst (λ (l : List (Entry C)). IsLegal (whole (meaning o.0)) o.1 l) (sym same) (legal_of meaning opens opening o entries is history) in
    record {
      stays = record {
        goes_on = record {
          number_is = number;
          opening_is = opened;
          front = subst (λ (l : List (Entry C)). Begins l before.entries) (sym same) a.front;
          legal = λ h. legal;
        };
        own = ap (λ (l : List (Entry C)). of_station before.number l) same ∙ sym a.same;
      };
      legal = legal;
      point_is = count ∙ ap length (sym same);
    }

-- the parts that are held are those that the journal comes to there
parts_at : {P : Type 0} (now : List P) (ns : List ℕ) (ps : List P) → length ps ≡ length ns
    → ((k n : ℕ) (p : P) → slice_get ns k ≡ Some n → slice_get ps k ≡ Some p → slice_get now n ≡ Some p) → picked now ns ≡ ps
parts_at now [] [] count h = refl
parts_at now [] (p ∷ ps) count h = absurd (omega (arith, count))
parts_at now (n ∷ ns) [] count h = absurd (omega (arith, count))
parts_at now (n ∷ ns) (p ∷ ps) count h =
    ap (λ o. with_picked o (picked now ns)) (h 0 n p refl refl)
    ∙ ap (λ l. p ∷ l) (parts_at now ns ps (omega (arith, count)) (λ k m q a b. h (suc k) m q a b))

pub stands_at : {O P C D R : Type 0} (meaning : O → Meaning P C D R) (opening : Option (Opening O P)) (o : Opening O P) (entries : List (Entry C)) (now : List P) (n : ℕ) (p : P)
    → opening ≡ Some o → replay (whole (meaning o.0)) o.1 entries ≡ Some now → IsAt meaning opening n entries p → slice_get now n ≡ Some p
stands_at {O} {P} {C} meaning opening o entries now n p is comes at =
    let same = one_opening opening at.0 o at.1 is in
    let there : replay (whole (meaning o.0)) o.1 entries ≡ Some at.2 = subst (λ (q : Opening O P). replay (whole (meaning q.0)) q.1 entries ≡ Some at.2) same at.3 in
    let one = one_opening (replay (whole (meaning o.0)) o.1 entries) at.2 now there comes in
    ap (λ l. slice_get l n) (sym one) ∙ at.4

pub held_parts : {O P C D R : Type 0} (meaning : O → Meaning P C D R) (opens : O → List P → Type 0) (opening : Option (Opening O P)) (o : Opening O P) (entries : List (Entry C))
    (ns : List ℕ) (ps : List P) (vs : List ℕ) → opening ≡ Some o → IsHistory meaning opens opening entries → StandFor meaning opening entries ns ps vs
    → length ps ≡ length ns → length vs ≡ length ns → ComesTo (meaning o.0) o.1 entries ns ps
held_parts {O} {P} {C} meaning opens opening o entries ns ps vs is history stand parts versions =
    let legal = legal_of meaning opens opening o entries is history in
    let now = comes_to (replay (whole (meaning o.0)) o.1 entries) legal.applies in
    record {
      now = now.0;
      comes = now.1;
      picked_is = parts_at now.0 ns ps parts (λ k n p a b.
          let lt : k < length ps = within ps k p b in
          let v = one_at vs k (omega (arith, lt, parts, versions)) in
          stands_at meaning opening o entries now.0 n p is now.1 (stand k n p v.0 a b v.1).0);
    }

-- what a call answers on the parts that it names it answers on all
pub done_whole : {P C D R : Type 0} (m : Meaning P C D R) (now ps ts : List P) (c : C) (ns : List ℕ) (d : D) → m.refuses c ≡ None → ns ≡ m.names c → picked now ns ≡ ps
    → m.applied ps c ≡ Ok (ts, d) → whole m now c ≡ Ok (put_back now ns ts, d)
done_whole m now ps ts c ns d none names at done =
    ap (λ r. unless_refused r (on_whole now (m.names c) (m.applied (picked now (m.names c)) c))) none
    ∙ (ap (λ l. on_whole now l (m.applied (picked now l) c)) (sym names)
    ∙ (ap (λ qs. on_whole now ns (m.applied qs c)) at ∙ ap (on_whole now ns) done))

pub refused_whole : {P C D R : Type 0} (m : Meaning P C D R) (now ps : List P) (c : C) (ns : List ℕ) (r : R) → m.refuses c ≡ None → ns ≡ m.names c → picked now ns ≡ ps
    → m.applied ps c ≡ Err r → whole m now c ≡ Err r
refused_whole m now ps c ns r none names at refused =
    ap (λ r. unless_refused r (on_whole now (m.names c) (m.applied (picked now (m.names c)) c))) none
    ∙ (ap (λ l. on_whole now l (m.applied (picked now l) c)) (sym names)
    ∙ (ap (λ qs. on_whole now ns (m.applied qs c)) at ∙ ap (on_whole now ns) refused))

-- a call that is refused on the held parts is refused on what the journal comes to
pub turned_down : {O P C D R : Type 0} (m : Meaning P C D R) (opening : List P) (c : C) (before after : Known O P C) (point : ℕ) (ns : List ℕ) (ps : List P) (r : R)
    → IsAtPoint m opening before after point → ComesTo m opening after.entries ns ps → m.refuses c ≡ None → ns ≡ m.names c → m.applied ps c ≡ Err r
    → IsTurnedDown m opening c before after point r
turned_down m opening c before after point ns ps r at comes none names refused = record {
  at = at;
  parts = comes.now;
  comes = comes.comes;
  refused = refused_whole m comes.now ps c ns r none names comes.picked_is refused;
}

-- and one that is refused for its names is refused on any parts
pub turned_down_first : {O P C D R : Type 0} (m : Meaning P C D R) (opening : List P) (c : C) (before after : Known O P C) (point : ℕ) (r : R)
    → IsAtPoint m opening before after point → m.refuses c ≡ Some r → IsTurnedDown m opening c before after point r
turned_down_first m opening c before after point r at refused =
    let now = comes_to (replay (whole m) opening after.entries) at.legal.applies in
    record {
      at = at;
      parts = now.0;
      comes = now.1;
      refused = ap (λ r. unless_refused r (on_whole now.0 (m.names c) (m.applied (picked now.0 (m.names c)) c))) refused;
    }

pub no_room : {O P C D R : Type 0} (m : Meaning P C D R) (opening : List P) (c : C) (before after : Known O P C) (point : ℕ) (ns : List ℕ) (ps ts : List P) (d : D)
    → IsAtPoint m opening before after point → ComesTo m opening after.entries ns ps → m.refuses c ≡ None → ns ≡ m.names c → m.applied ps c ≡ Ok (ts, d)
    → point ≡ most_entries → FindsNoRoom m opening c before after point
no_room m opening c before after point ns ps ts d at comes none names done full = record {
  at = at;
  full = full;
  parts = comes.now;
  comes = comes.comes;
  now = put_back comes.now ns ts;
  done = d;
  applies = done_whole m comes.now ps ts c ns d none names comes.picked_is done;
}

-- the journal with one entry more is what its call leaves
pub more_comes : {P C D R : Type 0} (m : Meaning P C D R) (opening now then_now : List P) (entries : List (Entry C)) (e : Entry C) (d : D)
    → replay (whole m) opening entries ≡ Some now → whole m now e.call ≡ Ok (then_now, d) → replay (whole m) opening (entries ++ e ∷ []) ≡ Some then_now
more_comes m opening now then_now entries e d comes done =
    replay-more (whole m) opening entries e ∙ (ap (λ o. after_entry (whole m) o e) comes ∙ ap state_in done)

pub legal_more : {P C D R : Type 0} (m : Meaning P C D R) (opening then_now : List P) (entries : List (Entry C)) (e : Entry C) → IsLegal (whole m) opening entries
    → replay (whole m) opening (entries ++ e ∷ []) ≡ Some then_now → length entries < most_entries → last_of e.station entries < e.number
    → IsLegal (whole m) opening (entries ++ e ∷ [])
legal_more m opening then_now entries e legal comes few above = record {
  within = omega (arith, length-append entries (e ∷ []), few);
  applies = is_some _ then_now comes;
  rise = rise-more entries e legal.rise (above_last e.station e.number entries above);
}

kept_last : {A : Type 0} (b : Bool) (x : A) → b ≡ true → cond b (x ∷ []) [] ≡ x ∷ []
kept_last b x e = ap (λ b. cond b (x ∷ []) []) e

same_number : (a b : ℕ) → a ≡ b → (a == b) ≡ true
same_number a b e = Prim.grind (arith, nat_tests, e)

-- the entry is the station's last
pub own_more : {C : Type 0} (s : ℕ) (entries : List (Entry C)) (e : Entry C) → e.station ≡ s → of_station s (entries ++ e ∷ []) ≡ of_station s entries ++ e ∷ []
own_more s entries e is =
    filter-append (λ e. e.station == s) entries (e ∷ []) ∙ ap (λ l. of_station s entries ++ l) (kept_last (e.station == s) e (same_number e.station s is))

longer : {A : Type 0} (xs ys rest : List A) → ys ≡ xs ++ rest → length xs ≤ length ys
longer xs ys rest is = let n = ap length is in omega (arith, n, length-append xs rest)

append_assoc' : {A : Type 0} (xs ys zs : List A) → (xs ++ ys) ++ zs ≡ xs ++ (ys ++ zs)
append_assoc' [] ys zs = refl
append_assoc' (x ∷ xs) ys zs = ap (λ l. x ∷ l) (append_assoc' xs ys zs)

-- the entry was put into the journal
pub committed : {O P C D R : Type 0} (meaning : O → Meaning P C D R) (opens : O → List P → Type 0) (opening : Option (Opening O P)) (o : Opening O P) (entries : List (Entry C)) (e : Entry C)
    (before after : Known O P C) (point : ℕ) (ns : List ℕ) (ps ts : List P) (d : D) → opening ≡ Some o → IsHistory meaning opens opening entries
    → StandsIn meaning opening entries (Station before.number) before.entries → ComesTo (meaning o.0) o.1 entries ns ps
    → (meaning o.0).refuses e.call ≡ None → ns ≡ (meaning o.0).names e.call → (meaning o.0).applied ps e.call ≡ Ok (ts, d)
    → e.station ≡ before.number → last_of e.station entries < e.number → point ≡ length entries → point < most_entries
    → after.number ≡ before.number → after.opening ≡ before.opening → after.entries ≡ entries ++ e ∷ []
    → IsCommitted (meaning o.0) o.1 e before after point d
committed {O} {P} {C} meaning opens opening o entries e before after point ns ps ts d is history stands comes none names done own above count few number opened same =
    let m = meaning o.0 in
    let a = stands o is in
    let legal = legal_of meaning opens opening o entries is history in
    let all = done_whole m comes.now ps ts e.call ns d none names comes.picked_is done in
    let more = more_comes m o.1 comes.now (put_back comes.now ns ts) entries e d comes.comes all in
    let legal_now : IsLegal (whole m) o.1 after.entries =
    subst (λ (l : List (Entry C)). IsLegal (whole m) o.1 l) (sym same) (legal_more m o.1 (put_back comes.now ns ts) entries e legal more (omega (arith, count, few)) above) in
    record {
      goes_on = record {
        number_is = number;
        opening_is = opened;
        front = (a.front.0 ++ e ∷ [], same ∙ (ap (λ l. l ++ e ∷ []) a.front.1 ∙ append_assoc' before.entries a.front.0 (e ∷ [])));
        legal = λ h. legal_now;
      };
      journal = entries;
      met = a.front;
      legal = legal;
      others = sym a.same;
      entries_are = same;
      point_is = count;
      later = let n = longer before.entries entries a.front.0 a.front.1 in omega (arith, n, count);
      room = few;
      parts = comes.now;
      comes = comes.comes;
      now = put_back comes.now ns ts;
      applies = all;
      own = ap (λ (l : List (Entry C)). of_station before.number l) same ∙ (own_more before.number entries e own ∙ ap (λ l. l ++ e ∷ []) (sym a.same));
    }

one_picked : {P : Type 0} (o : Option P) (p : P) → with_picked o [] ≡ p ∷ [] → o ≡ Some p
one_picked None p h = absurd (Prim.grind (arith, h))
one_picked (Some q) p h = let same : q ≡ p = Prim.grind (arith, h) in ap Some same

-- one good part
pub one_good : {P : Type 0} (good : ℕ → P → Type 0) (n : ℕ) (ps : List P) → AreGood good (n ∷ []) ps → (p : P) × (ps ≡ p ∷ []) × good n p
one_good good n [] h = absurd h
one_good good n (p ∷ []) h = (p, refl, h.0)
one_good good n (p ∷ q ∷ ps) h = absurd h.1

-- a question is answered from the part that is held for it
pub sight_of : {O P C D R S Q : Type 0} (m : Meaning P C D R) (opening : List P) (asked : Result ℕ Q) (seen : P → Result S Q) (before after : Known O P C) (point n : ℕ)
    (p : P) (answer : Result S Q) → IsAtPoint m opening before after point → ComesTo m opening after.entries (n ∷ []) (p ∷ []) → asked ≡ Ok n → seen p ≡ answer
    → IsSight m opening asked seen before after point answer
sight_of m opening asked seen before after point n p answer at comes part is = record {
  at = at;
  parts = comes.now;
  comes = comes.comes;
  told_is = ap (λ a. told a seen comes.now) part ∙ (ap (λ o. option_map seen o) (one_picked (slice_get comes.now n) p comes.picked_is) ∙ ap Some is);
}

-- and one about no part, by the object alone
pub sight_of_none : {O P C D R S Q : Type 0} (m : Meaning P C D R) (opening : List P) (asked : Result ℕ Q) (seen : P → Result S Q) (before after : Known O P C) (point : ℕ) (r : Q)
    → IsAtPoint m opening before after point → asked ≡ Err r → IsSight m opening asked seen before after point (Err r)
sight_of_none m opening asked seen before after point r at none =
    let now = comes_to (replay (whole m) opening after.entries) at.legal.applies in
    record { at = at; parts = now.0; comes = now.1; told_is = ap (λ a. told a seen now.0) none }

-- before the point of an entry stand those that it was put behind
pub behind_point : {C : Type 0} (entries after : List (Entry C)) (e : Entry C) (point : ℕ) → after ≡ entries ++ e ∷ [] → point ≡ length entries → take point after ≡ entries
behind_point {C} entries after e point is count =
    ap (λ n. take n after) count ∙ (ap (λ (l : List (Entry C)). take (length entries) l) is ∙ take-append_seam entries (e ∷ []))
