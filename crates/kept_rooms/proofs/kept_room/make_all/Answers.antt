use Rattle.std.proofs.Common.{[], length, take, arith, ◌∙◌, length-take}
use Rattle.kept_rooms.proofs.Refusing.{next_taken, stops_there, taken_length}
use Rattle.kept_rooms.proofs.kept_room.make_all.Goals as goal

pub add-requires-clause-within : goal.add-requires-clause-within
add-requires-clause-within g c =
    let records = c.args.records.now in
    let k = c.loop-record.record-index in
    let long = taken_length (length c.args.remaking.now.passes.items) [] (take k records) c.loop-record.remaking.entries.items c.loop-record.invariant.taken in
    omega (arith, long, length-take k records, c.loop-record-test.true, c.requires.within)

pub returns-in-Err-clause-fault : goal.returns-in-Err-clause-fault
returns-in-Err-clause-fault g c =
    let room = c.args.room.now in
    let now = c.loop-record.remaking in
    let i = c.loop-record.invariant in
    stops_there (length c.args.remaking.now.passes.items) (length now.passes.items) c.args.records.now c.loop-record.record-index c.record-item.result c.line.result.now now.entries.items
    c.add.new.self.entries.items c.loop-record-test.true c.record-item.is c.line.ensures i.count i.taken
    (g.O.PartObject.meaning room.object) room.parts c.deref.result.now c.in-Err.stop c.told.result c.in-Err.ensures.adds c.deref.ensures.value c.told.ensures

pub loop-record-preserved : goal.loop-record-preserved
loop-record-preserved g c =
    let now = c.loop-record.remaking in
    let i = c.loop-record.invariant in
    record {
      made = c.in-Ok.ensures.made;
      count = c.add.ensures.count ∙ i.count;
      taken = next_taken (length c.args.remaking.now.passes.items) (length now.passes.items) c.args.records.now c.loop-record.record-index c.record-item.result c.line.result.now now.entries.items
          c.add.new.self.entries.items c.loop-record-test.true c.record-item.is c.line.ensures i.count i.taken c.in-Ok.ensures.adds;
    }
