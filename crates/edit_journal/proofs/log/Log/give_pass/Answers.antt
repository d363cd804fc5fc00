use Rattle.std.proofs.Common.{◌∙◌, ap, arith, [], ◌∷◌, refl}
use Rattle.edit_journal.specs.declared.name.Name.TheVariants.{Station}
use Rattle.edit_journal.specs.Seats.{bearer}
use Rattle.std.proofs.lemmas.Option.{get_or_from_slice_get}
use Rattle.edit_journal.specs.Turns.{last_of}
use Rattle.edit_journal.proofs.Opens.{kept_given, inside, is_some_of}
use Rattle.edit_journal.proofs.log.Log.give_pass.Goals as goal

pub index-last-requires : goal.index-last-requires
index-last-requires g c =
    let k = c.self.invariant.5 in
    let lt = k.own_stations c.args.station (rw (← c.self.view_is) at c.requires.has) in
    let n = inside c.self.inside.lasts.items c.args.station (last_of c.args.station c.self.inside.keeper.me.0.entries) (k.each_last c.args.station lt) in
    omega (arith, n, c.self.inside.lasts.ok)

pub invariant_of-self : goal.invariant_of-self
invariant_of-self g c =
    let i = c.self.invariant in
    let e = c.give_name-token.ensures in
    rw e.seat (e.table.0 ∙ i.0, i.1, i.2, i.3, i.4, kept_given g.O.PartObject.meaning g.O.PartObject.opens g.J.Naming.stations c.self.inside.lasts.items c.self.inside.keeper.me.0 (Station c.args.station) i.5)

pub invariant_of-result : goal.invariant_of-result
invariant_of-result g c =
    let i = c.self.invariant in
    let e = c.give_name-token.ensures in
    let v = c.self.inside.keeper.me.0 in
    let lt = i.5.own_stations c.args.station (rw (← c.self.view_is) at c.requires.has) in
    let last = get_or_from_slice_get c.self.inside.lasts.items c.args.station (last_of c.args.station v.entries) c.index-last.result.now (i.5.each_last c.args.station lt) in
    rw e.token (
      e.table.1 ∙ i.0,
      is_some_of v.opening g.J.Naming.opening i.5.journal.0 i.4 i.5.journal.1,
      ap (λ o. (bearer o (Station c.args.station ∷ []) v.entries, [])) i.4,
      lt,
      c.index-last.ensures ∙ last,
    )

pub returns-clause-at : goal.returns-clause-at
returns-clause-at g c = rw (← c.self.view_is, c.give_name-token.ensures.seat) refl
