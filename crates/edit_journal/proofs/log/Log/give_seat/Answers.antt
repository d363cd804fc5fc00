use Rattle.std.proofs.Common.{◌∙◌, refl}
use Rattle.edit_journal.specs.declared.name.Name.TheVariants.{Part}
use Rattle.edit_journal.proofs.Opens.{kept_given}
use Rattle.edit_journal.proofs.log.Log.give_seat.Goals as goal

pub invariant_of-self : goal.invariant_of-self
invariant_of-self g c =
    let i = c.self.invariant in
    let e = c.give_name-token.ensures in
    rw e.seat (e.table.0 ∙ i.0, i.1, i.2, i.3, i.4, kept_given g.O.PartObject.meaning g.O.PartObject.opens g.J.Naming.stations c.self.inside.lasts.items c.self.inside.keeper.me.0 (Part c.args.part) i.5)

pub returns-clause-at : goal.returns-clause-at
returns-clause-at g c = rw (← c.self.view_is, c.give_name-token.ensures.seat) refl
