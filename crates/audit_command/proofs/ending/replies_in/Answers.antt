use Rattle.std.proofs.Common.{ap, arith, length}
use Rattle.audit_command.specs.declared.records.Station.{Station}
use Rattle.audit_command.proofs.InTurn.{next_replies}
use Rattle.audit_command.proofs.ending.replies_in.Goals as goal

pub loop-station-preserved : goal.loop-station-preserved
loop-station-preserved c =
    let next = next_replies c.args.stations.now c.loop-station.station-index c.station-item.result c.loop-station-test.true in
    let here = ap (λ (s : Station). length s.replies.items) c.station-item.is in (
      omega (arith, next, here, c.len-count.ensures, c.loop-station.invariant.0),
      omega (arith, c.len-count.ensures, c.station-item.result.replies_within, c.loop-station.invariant.1),
    )
