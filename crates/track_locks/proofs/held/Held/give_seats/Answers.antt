use Rattle.std.proofs.Common.{◌≡◌, ◌++◌, All, drop, length, map, take, sym, subst, ap, arith}
use Rattle.std.specs.List.{filter_map}
use Rattle.std.proofs.lemmas.List.{take_at}
use Rattle.track_locks.proofs.Several.{can_give}
use Rattle.track_locks.proofs.held.Held.give_seats.Goals as goal

pub give_all-requires-clause-names : goal.give_all-requires-clause-names
give_all-requires-clause-names g c =
    rw c.deref_mut.ensures.value (can_give 0 c.self.inside.tracks.now (map (λ h. h.number) c.self.inside.homes.items) c.args.turn.now.journal.names c.self.invariant (rw (← c.self.view_is) at c.requires.names))

pub returns-clause-know : goal.returns-clause-know
returns-clause-know g c =
    let new = c.give_all.new.homes in
    let old = c.self.inside.homes in
    let first = c.args.turn.now.journal in
    let whole : take old.len (new ++ drop (length new) old.items) ≡ new = take_at new (drop (length new) old.items) old.len (omega (arith, c.give_all.auto.homes, c.deref_mut.ensures.len, old.ok)) in
    subst (All (λ s. (s.opening ≡ first.opening) × (s.entries ≡ first.entries))) (sym (ap (filter_map (λ h. h.seat)) whole)) c.give_all.ensures.know
