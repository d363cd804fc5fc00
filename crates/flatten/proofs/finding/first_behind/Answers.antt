use Rattle.std.proofs.Common.{◌+◌, ◌-◌, ◌/◌, ◌<◌, length, arith}
use Rattle.flatten.proofs.Spots.{begin_behind}
use Rattle.flatten.proofs.finding.first_behind.Goals as goal

pub loop-low-preserved-then-ends-middle : goal.loop-low-preserved-then-ends-middle
loop-low-preserved-then-ends-middle c =
    let es = c.args.ends.now in
    let middle = c.loop-low.low + (c.loop-low.high - c.loop-low.low) / 2 in
    let inv = c.loop-low.invariant in
    let within : middle < length es = omega (arith, c.loop-low-test.true, inv.within) in
    record {
      order = omega (arith, c.loop-low-test.true);
      within = inv.within;
      begun = omega (arith, begin_behind 0 es middle 0 within, c.if-ends-middle.true);
      behind = inv.behind;
    }
