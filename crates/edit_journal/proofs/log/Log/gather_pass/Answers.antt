use Rattle.std.proofs.Common.{◌∙◌, ap}
use Rattle.edit_journal.specs.declared.name.Name.TheVariants.{Station}
use Rattle.edit_journal.proofs.Opens.{at_gather, kept_pass}
use Rattle.edit_journal.proofs.log.Log.gather_pass.Goals as goal

pub invariant_of-self : goal.invariant_of-self
invariant_of-self g c =
    let i = c.self.invariant in
    let v = c.self.inside.keeper.me.0 in
    let t = c.pass.inside in
    rw c.take.ensures.seat (c.take.ensures.table ∙ i.0, i.1, i.2, i.3, i.4, kept_pass g.O.PartObject.meaning g.O.PartObject.opens g.J.Naming.stations c.self.inside.lasts.items v t.token.me.0 t.station g.J.Naming.opening t.token.me.0.entries (ap (λ p. p.0) c.pass.invariant.2) c.pass.invariant.3 i.5)

pub returns-clause-at : goal.returns-clause-at
returns-clause-at g c =
    let t = c.pass.inside in
    rw (← c.self.view_is, ← c.pass.view_is, c.take.ensures.seat) (at_gather c.self.inside.keeper.me.0 t.token.me.0 (Station t.station) g.J.Naming.opening t.token.me.0.entries (ap (λ p. p.0) c.pass.invariant.2))
