use Rattle.std.proofs.Common.{◌≡◌, [], length, ap, arith, subst}
use Rattle.kept_rooms.specs.Kept.{AreTaken}
use Rattle.kept_rooms.proofs.Looking.{all_apply}
use Rattle.kept_rooms.proofs.Refusing.{taken_length}
use Rattle.kept_rooms.proofs.kept_room.make_again.Goals as goal

pub look-requires-clause-within : goal.look-requires-clause-within
look-requires-clause-within g c =
    let long = taken_length (length c.in_ok-remaking.remaking.passes.items) [] c.args.records.now c.make_all.new.remaking.entries.items c.in_ok-reader.ensures.taken in
    let same = ap length c.deref.ensures.value in
    omega (arith, long, same, c.requires.within)

pub overflow_cast-len : goal.overflow_cast-len
overflow_cast-len g c =
    let entries = c.make_all.new.remaking.entries in
    let long = taken_length (length c.in_ok-remaking.remaking.passes.items) [] c.args.records.now entries.items c.in_ok-reader.ensures.taken in
    omega (arith, long, c.len.ensures, entries.ok.0, c.requires.within)

pub returns-clause-entries : goal.returns-clause-entries
returns-clause-entries g c =
    let room = c.args.room.now in
    let entries = c.make_all.new.remaking.entries.items in
    let knows = rw c.deref.ensures.value at c.in_ok-reader-2.ensures.knows in
    record {
      taken = subst (λ n. AreTaken n [] c.args.records.now entries) c.in_ok-remaking.ensures.count c.in_ok-reader.ensures.taken;
      applies = all_apply (g.O.PartObject.meaning room.object) room.parts entries c.in_ok-reader-2.reader knows;
    }

pub returns-clause-passes : goal.returns-clause-passes
returns-clause-passes g c =
    let entries = c.make_all.new.remaking.entries in
    let long : length entries.items ≡ c.len.result = omega (arith, c.len.ensures, entries.ok.0) in
    c.in_ok-passes.ensures.knows entries.items long c.in_ok-reader.ensures.made.each
