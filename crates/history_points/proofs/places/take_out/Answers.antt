use Rattle.std.proofs.Common.{sym, ◌∙◌, arith}
use Rattle.history_points.proofs.Slotted.{no_hole, one_taken}
use Rattle.history_points.proofs.places.take_out.Goals as goal

pub unreachable-requires : goal.unreachable-requires
unreachable-requires g c =
    no_hole c.args.slots.now.items c.args.names.now c.loop-name.name-index 0 c.loop-name.slots.items c.loop-name.named.items c.index_mut.result.now
    c.requires.whole c.loop-name-test.true c.loop-name.invariant.taking (sym c.index_mut.ensures.value ∙ (sym c.take.ensures.value ∙ c.in-None.is))

pub loop-name-preserved : goal.loop-name-preserved
loop-name-preserved g c = record {
  room = omega (arith, c.push_reserved.ensures.len, c.push_reserved.ensures.capacity, c.loop-name.invariant.room);
  taking = rw c.take.ensures.after (one_taken c.args.slots.now.items c.args.names.now c.loop-name.name-index 0 c.loop-name.slots.items c.loop-name.named.items c.push_reserved.new.self.items
      c.index_mut.result.now c.in-Some.part c.requires.whole c.loop-name-test.true c.loop-name.invariant.taking
      (sym c.index_mut.ensures.value ∙ (sym c.take.ensures.value ∙ c.in-Some.is)) c.push_reserved.ensures.items);
}
