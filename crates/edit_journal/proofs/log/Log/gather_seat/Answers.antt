use Rattle.std.proofs.Common.{◌∙◌, ap}
use Rattle.edit_journal.specs.declared.name.Name.TheVariants.{Part}
use Rattle.edit_journal.proofs.Opens.{at_gather, kept_seat}
use Rattle.edit_journal.proofs.log.Log.gather_seat.Goals as goal

pub invariant_of-self : goal.invariant_of-self
invariant_of-self g c =
    let i = c.self.invariant in
    let v = c.self.inside.keeper.me.0 in
    let t = c.seat.inside in
    rw c.take.ensures.seat (c.take.ensures.table ∙ i.0, i.1, i.2, i.3, i.4, kept_seat g.O.PartObject.meaning g.O.PartObject.opens g.J.Naming.stations c.self.inside.lasts.items v t.token.me.0 t.part g.J.Naming.opening t.token.me.0.entries (ap (λ p. p.0) c.seat.invariant.2) i.5)

pub returns-clause-at : goal.returns-clause-at
returns-clause-at g c =
    let t = c.seat.inside in
    rw (← c.self.view_is, ← c.seat.view_is, c.take.ensures.seat) (at_gather c.self.inside.keeper.me.0 t.token.me.0 (Part t.part) g.J.Naming.opening t.token.me.0.entries (ap (λ p. p.0) c.seat.invariant.2))
