use Rattle.std.proofs.Common.{arith}
use Rattle.line_table.proofs.TrackSets.{first_number}
use Rattle.line_table.proofs.calls.put_items.Goals as goal

pub loop-item-init : goal.loop-item-init
loop-item-init c = record {
  text = first_number c.args.out.now.items c.as_slice-lead.result.now c.args.items.now c.as_slice-lead.ensures;
  lead = rw c.as_slice-lead.ensures (omega arith);
  len = omega arith;
  room = omega arith;
}
