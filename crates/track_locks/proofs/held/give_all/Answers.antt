use Rattle.std.proofs.Common.{◌≡◌, ◌<◌, ◌++◌, [], ◌∷◌, take, length, map, All, List, Option, sym, ap, ◌∙◌, subst, arith}
use Rattle.std.specs.List.{filter_map}
use Rattle.std.proofs.lemmas.List.{map-append}
use Rattle.std.proofs.lemmas.List.Elements.{All-append, All-cons, All-nil}
use Rattle.room_core.specs.declared.entry.Entry.{Entry}
use Rattle.edit_journal.specs.Seats.{Opening}
use Rattle.edit_journal.specs.Turns.{Known}
use Rattle.track_locks.specs.Homes.{all_given, CanGive}
use Rattle.track_locks.proofs.HeldSeats.{give_one, map_same, next_number, take_number}
use Rattle.track_locks.proofs.held.give_all.Goals as goal

know_more : {O P C : Type 0} (all : List (Known O P C)) (one : Known O P C) (o : Option (Opening O P)) (l : List (Entry C))
    → All (λ s. (s.opening ≡ o) × (s.entries ≡ l)) all → one.opening ≡ o → one.entries ≡ l → All (λ s. (s.opening ≡ o) × (s.entries ≡ l)) (all ++ one ∷ [])
know_more {O} {P} {C} all one o l h a b =
    let F : Known O P C → Type 0 = λ s. (s.opening ≡ o) × (s.entries ≡ l) in All-append F all (one ∷ []) h (All-cons F one [] (a, b) (All-nil F))

pub give_seat-seat-requires-clause-has : goal.give_seat-seat-requires-clause-has
give_seat-seat-requires-clause-has g c =
    let i = c.loop-index.invariant in
    let k = c.loop-index.index in
    let h = c.loop-index.homes in
    let ns = map (λ h. h.number) c.args.homes.now in
    let lt : k < length h = omega (arith, c.loop-index-test.true, c.loop-index.auto.homes) in
    (subst (λ l. CanGive l c.loop-index.turn.journal.names) (next_number (λ h. h.number) h ns k c.index-homes-index.result lt i.numbers) i.names).0

pub loop-index-preserved : goal.loop-index-preserved
loop-index-preserved g c =
    let i = c.loop-index.invariant in
    let k = c.loop-index.index in
    let h = c.loop-index.homes in
    let ns = map (λ h. h.number) c.args.homes.now in
    let turn = c.loop-index.turn.journal in
    let first = c.args.turn.now.journal in
    let at = c.give_seat-seat.ensures.at in
    let s = c.give_seat-seat.ensures.seat in
    let seat = c.give_seat-seat.result in
    let n = c.index-homes-index.result in
    let d = c.index-homes-index-in-loop-index.result in
    let y = c.put_seat.new.self in
    let is = c.put_seat.ensures in
    let lt : k < length h = omega (arith, c.loop-index-test.true, c.loop-index.auto.homes) in
    let next = next_number (λ h. h.number) h ns k n lt i.numbers in
    let can = subst (λ l. CanGive l turn.names) next i.names in
    let t = give_one (λ h. h.seat) h k y seat lt (ap (λ h. h.seat) is) i.later in
    let all = filter_map (λ h. h.seat) h in
    record {
      numbers = map_same (λ h. h.number) h k y d lt (ap (λ h. h.number) is) ∙ i.numbers;
      parts = map_same (λ h. h.part) h k y d lt (ap (λ h. h.part) is) ∙ i.parts;
      versions = map_same (λ h. h.version) h k y d lt (ap (λ h. h.version) is) ∙ i.versions;
      later = t.1;
      given = ap (map (λ s. s.number)) t.0 ∙ (map-append (λ s. s.number) all (seat ∷ []) ∙ (ap (λ l. l ++ seat.number ∷ []) i.given ∙ (ap (λ n. take k ns ++ n ∷ []) s.0 ∙ take_number (λ h. h.number) h ns k n lt i.numbers)));
      know = subst (All (λ s. (s.opening ≡ first.opening) × (s.entries ≡ first.entries))) (sym t.0) (know_more all seat first.opening first.entries i.know (s.1 ∙ i.opening) (s.2 ∙ i.entries));
      journal = rw at (ap (λ l. all_given l turn) (sym next) ∙ i.journal);
      names = rw at can.1;
      tokens = omega (arith, c.give_seat-seat.ensures.tokens.0, i.tokens);
      room = c.give_seat-seat.ensures.tokens.1 ∙ i.room;
      opening = ap (λ v. v.opening) at ∙ i.opening;
      entries = ap (λ v. v.entries) at ∙ i.entries;
    }
