use Rattle.std.proofs.Common.{sym, ◌∙◌}
use Rattle.kept_rooms.proofs.Looking.{knows_all}
use Rattle.kept_rooms.proofs.kept_room.look.Goals as goal

pub returns-then-are_same-clause-knows : goal.returns-then-are_same-clause-knows
returns-then-are_same-clause-knows g c =
    let room = c.args.room.now in
    let found = rw c.in-Ok.is at c.entries-reader.ensures in
    let same = sym c.deref.ensures.value ∙ c.are_same.ensures c.if-are_same.true in
    knows_all (g.O.PartObject.meaning room.object) room.parts c.args.entries.now c.in-Ok.excerpt.entries.items c.in-Ok.excerpt.length c.args.reader c.entries-reader.result.0
    c.requires.none found.0 found.2 same
