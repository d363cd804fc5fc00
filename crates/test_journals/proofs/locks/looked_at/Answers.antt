use Rattle.std.proofs.Common.{◌≡◌, List, Option, All, ap, ◌∙◌, subst}
use Rattle.room_core.specs.declared.entry.Entry.{Entry}
use Rattle.edit_journal.specs.Seats.{Opening}
use Rattle.edit_journal.specs.Turns.{Known}
use Rattle.track_locks.proofs.Stands.{stand_for, gathered_names, homes_again}
use Rattle.test_journals.proofs.locks.looked_at.Goals as goal

know_as : {O P C : Type 0} (ss : List (Known O P C)) (o p : Option (Opening O P)) (l m : List (Entry C)) → o ≡ p → l ≡ m
    → All (λ s. (s.opening ≡ o) × (s.entries ≡ l)) ss → All (λ s. (s.opening ≡ p) × (s.entries ≡ m)) ss
know_as {O} {P} {C} ss o p l m a b h = subst (λ (x : Option (Opening O P) × List (Entry C)). All (λ s. (s.opening ≡ x.0) × (s.entries ≡ x.1)) ss) (λ i. (a i, b i)) h

pub give_seats-requires-clause-names : goal.give_seats-requires-clause-names
give_seats-requires-clause-names g c =
    let h = c.in_ok-held.held in
    rw (c.take_seats.ensures.seats, c.look.ensures.same, c.take_seats.ensures.journal)
    (gathered_names _ _ g.J.Naming.opening c.lock-turn.result.journal h.numbers h.parts h.versions h.seats c.in_ok-held.ensures.homes)

pub release-requires-2-clause-good : goal.release-requires-2-clause-good
release-requires-2-clause-good g c = rw (c.give_seats.ensures.same.0, c.give_seats.ensures.same.1, c.take_seats.ensures.seats) c.in_ok-held.ensures.good

pub release-requires-2-clause-homes : goal.release-requires-2-clause-homes
release-requires-2-clause-homes g c =
    let h = c.in_ok-held.held in
    let k = c.give_seats.ensures in
    let homes = c.in_ok-held.ensures.homes in
    let look = c.look.ensures in
    let journal = c.take_seats.new.turn.journal in
    let stand = stand_for _ _ g.J.Naming.stations g.J.Naming.opening c.lock-turn.result.journal journal h.numbers h.parts h.versions h.seats homes c.take_seats.ensures.journal look.opening look.journal look.agree in
    let legal = rw look.opening at look.journal in
    let numbers = k.seats ∙ ap (λ v. v.numbers) c.take_seats.ensures.seats in
    let know = know_as c.give_seats.new.self.seats c.look.new.self.journal.opening g.J.Naming.opening c.look.new.self.journal.entries journal.entries (ap (λ t. t.journal.opening) look.same ∙ look.opening) (ap (λ t. t.journal.entries) look.same) k.know in
    rw (k.same.0, k.same.1, k.same.2, c.take_seats.ensures.seats)
    (homes_again _ _ g.J.Naming.opening journal.entries h.numbers h.parts h.versions c.give_seats.new.self.seats homes.parts homes.versions stand (legal.0, legal.1, legal.2, legal.3) numbers know)
