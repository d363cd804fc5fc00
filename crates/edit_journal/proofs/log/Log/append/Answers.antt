use Rattle.std.proofs.Common.{◌∙◌, ap, sym, arith, ◌<◌, length, [], ◌∷◌, ◌++◌}
use Rattle.edit_journal.specs.Turns.{last_of, open_of}
use Rattle.edit_journal.proofs.Opens.{kept_added, has_station, inside}
use Rattle.edit_journal.proofs.log.Log.append.Goals as goal

pub append_entry-requires-clause-names : goal.append_entry-requires-clause-names
append_entry-requires-clause-names g c = rw (← c.self.view_is) at c.requires.names

pub index_mut-requires : goal.index_mut-requires
index_mut-requires g c =
    let k = c.self.invariant.5 in
    let s = c.args.entry.station in
    let lt = k.own_stations s (has_station g.O.PartObject.meaning (open_of c.self.inside.keeper.me.0) c.args.entry (rw (← c.self.view_is) at c.requires.names)) in
    let n = inside c.self.inside.lasts.items s (last_of s c.self.inside.keeper.me.0.entries) (k.each_last s lt) in
    omega (arith, n, c.self.inside.lasts.ok)

pub invariant_of-self : goal.invariant_of-self
invariant_of-self g c =
    let i = c.self.invariant in
    let v = c.self.inside.keeper.me.0 in
    let e = c.append_entry.ensures in
    let count = ap length i.3 in
    let few : length v.entries < 100000 = omega (arith, c.if-place-ge-MOST_ENTRIES.false, c.len-place.ensures, c.self.inside.entries.ok, count) in
    rw e.seat (
      e.table ∙ i.0,
      i.1,
      i.2,
      ap (λ l. l ++ c.args.entry ∷ []) i.3 ∙ sym c.push_reserved.ensures.items,
      i.4,
      kept_added g.O.PartObject.meaning g.O.PartObject.opens g.J.Naming.stations c.self.inside.lasts.items v c.args.entry i.5 (rw (← c.self.view_is) at c.requires.names) (rw (← c.self.view_is) at c.requires.applies) (rw (← c.self.view_is) at c.requires.above) few,
    )
