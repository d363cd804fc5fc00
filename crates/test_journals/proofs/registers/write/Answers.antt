use Rattle.std.proofs.Common.{◌≡◌, ◌+◌, ◌||◌, ◌==◌, ◌++◌, ℕ, List, [], ◌∷◌, Bool, true, false, Option, max, fold, refl, sym, ap, ◌∙◌, subst, arith, inl, inr}
use Rattle.std.proofs.lemmas.Bool.Decides.{nat_tests}
use Rattle.room_core.specs.declared.entry.Entry.{Entry}
use Rattle.edit_journal.specs.declared.name.Name.{Name}
use Rattle.edit_journal.specs.declared.name.Name.TheVariants.{Part, Station}
use Rattle.test_counters.specs.Registers.{registers}
use Rattle.edit_journal.specs.Seats.{Opening, In, bears}
use Rattle.edit_journal.specs.Turns.{Open, gathered, last_of}
use Rattle.edit_journal.proofs.Fresh.{without_other, no_part, in_last}
use Rattle.test_journals.proofs.registers.write.Goals as goal

alone : (a : Bool) → (a || false) ≡ true → a ≡ true
alone true h = refl
alone false h = h

bears_in : (count : ℕ) (names : List Name) (e : Entry (ℕ × ℕ)) (x : Name) → bears (registers count).names e x ≡ true → In (Part e.call.0) names → In (Station e.station) names → In x names
bears_in count names e (Part m) b p s =
    let t = alone (e.call.0 == m) b in
    let same : e.call.0 ≡ m = Prim.grind (arith, nat_tests, t) in subst (λ k. In (Part k) names) same p
bears_in count names e (Station m) b p s = let same : e.station ≡ m = Prim.grind (arith, nat_tests, b) in subst (λ k. In (Station k) names) same s

in_front : {A : Type 0} (x y : A) (xs : List A) → In x xs → In x (xs ++ y ∷ [])
in_front x y [] i = absurd i
in_front {A} x y (z ∷ xs) (inl e) = inl e
in_front {A} x y (z ∷ xs) (inr j) = inr (in_front x y xs j)

record Both {O P C : Type 0} (u : Open O P C) (p s : ℕ) (o : Option (Opening O P)) (l : List (Entry C)) : Type 0 where
  part : In (Part p) u.names
  station : In (Station s) u.names
  told : In (Station s, (o, l)) u.told

both : {O P C : Type 0} (v w u : Open O P C) (p s : ℕ) (o q : Option (Opening O P)) (l m : List (Entry C))
    → w ≡ gathered (Part p) q m v → u ≡ gathered (Station s) o l w → Both u p s o l
both {O} {P} {C} v w u p s o q l m first then_so =
    subst (λ (u : Open O P C). Both u p s o l) (sym (then_so ∙ ap (λ w. gathered (Station s) o l w) first))
    record {
      part = in_front (Part p) (Station s) (v.names ++ Part p ∷ []) (in_last (Part p) v.names);
      station = in_last (Station s) (v.names ++ Part p ∷ []);
      told = in_last (Station s, (o, l)) (v.told ++ (Part p, (q, m)) ∷ []);
    }

pub added-place-requires-clause-journal : goal.added-place-requires-clause-journal
added-place-requires-clause-journal g c = rw c.look.ensures.same c.look.ensures.journal

pub added-place-requires-clause-names : goal.added-place-requires-clause-names
added-place-requires-clause-names g c =
    let s = c.args.tokens.0 in
    let p = c.args.tokens.1 in
    let b = both c.lock-turn.result.journal c.gather_seat.new.self.journal c.gather_pass.new.self.journal s.number p.number p.opening s.opening p.entries s.entries c.gather_seat.ensures.at c.gather_pass.ensures.at in
    let entry : Entry (ℕ × ℕ) = record { station = c.station-station.result; number = c.last-last.result + 1; call = (c.part-part.result, c.args.value) } in
    rw c.look.ensures.same (
      (c.args.object.now, c.requires.opening.0),
      c.look.ensures.opening ∙ c.requires.opening.1,
      λ x t. bears_in c.args.object.now.count c.gather_pass.new.self.journal.names entry x t
          (subst (λ k. In (Part k) c.gather_pass.new.self.journal.names) (sym c.part-part.ensures.number) b.part)
          (subst (λ k. In (Station k) c.gather_pass.new.self.journal.names) (sym c.station-station.ensures.number) b.station),
    )

pub added-place-requires-clause-above : goal.added-place-requires-clause-above
added-place-requires-clause-above g c =
    let s = c.args.tokens.0 in
    let p = c.args.tokens.1 in
    let b = both c.lock-turn.result.journal c.gather_seat.new.self.journal c.gather_pass.new.self.journal s.number p.number p.opening s.opening p.entries s.entries c.gather_seat.ensures.at c.gather_pass.ensures.at in
    let agrees = c.look.ensures.agree (c.args.object.now, c.requires.opening.0) (Station p.number) p.opening p.entries (c.look.ensures.opening ∙ c.requires.opening.1) b.told in
    let last : last_of p.number p.entries ≡ last_of p.number c.gather_pass.new.self.journal.entries = ap (λ l. fold (λ m e. max m e.number) 0 l) agrees.1.same in
    let mine : last_of c.station-station.result c.gather_pass.new.self.journal.entries ≡ last_of p.number c.gather_pass.new.self.journal.entries = ap (λ k. last_of k c.gather_pass.new.self.journal.entries) c.station-station.ensures.number in
    rw c.look.ensures.same (omega (arith, last, mine, c.last-last.ensures))

pub give_seat-seat-requires-clause-has : goal.give_seat-seat-requires-clause-has
give_seat-seat-requires-clause-has g c =
    let s = c.args.tokens.0 in
    let p = c.args.tokens.1 in
    let b = both c.lock-turn.result.journal c.gather_seat.new.self.journal c.gather_pass.new.self.journal s.number p.number p.opening s.opening p.entries s.entries c.gather_seat.ensures.at c.gather_pass.ensures.at in
    rw (c.added-place.ensures.names, c.look.ensures.same, c.part-part.ensures.number) b.part

pub give_pass-pass-requires-clause-has : goal.give_pass-pass-requires-clause-has
give_pass-pass-requires-clause-has g c =
    let s = c.args.tokens.0 in
    let p = c.args.tokens.1 in
    let b = both c.lock-turn.result.journal c.gather_seat.new.self.journal c.gather_pass.new.self.journal s.number p.number p.opening s.opening p.entries s.entries c.gather_seat.ensures.at c.gather_pass.ensures.at in
    rw (c.give_seat-seat.ensures.at, c.added-place.ensures.names, c.look.ensures.same, c.station-station.ensures.number)
    (without_other (Part c.part-part.result) c.gather_pass.new.self.journal.names (Station p.number) (no_part p.number c.part-part.result) b.station)
