use Rattle.std.proofs.Common.{refl, arith}
use Rattle.made_sessions.proofs.Scripting.{goes_other, goes_own}
use Rattle.made_sessions.proofs.comparing.has_script.Goals as goal
use Rattle.made_sessions.proofs.comparing.has_script.Goals.{then-entry-station+else-left-eq0+else-not-is_next, else-entry-station}

pub loop-entry-preserved : goal.loop-entry-preserved
loop-entry-preserved c = elim c.if-entry-station.branch [
  | then-entry-station+else-left-eq0+else-not-is_next w ↦
      rw (w.script-is, w.left-is, w.is_next.ensures.script)
      (goes_own c.args.number c.args.count c.args.station c.args.entries.now c.loop-entry.script.station c.loop-entry.script.place c.loop-entry.script.word c.loop-entry.left c.loop-entry.entry-index
      _ c.entry-item.result c.loop-entry-test.true c.entry-item.is c.loop-entry.invariant w.if-entry-station.true (omega (arith, w.if-left-eq0.false)) (w.is_next.ensures.same w.if-not-is_next.false))
  | else-entry-station w ↦
      rw (w.script-is, w.left-is)
      (goes_other c.args.number c.args.count c.args.station c.args.entries.now c.loop-entry.script.station c.loop-entry.script.place c.loop-entry.script.word c.loop-entry.left c.loop-entry.entry-index
      _ c.entry-item.result c.loop-entry-test.true c.entry-item.is c.loop-entry.invariant w.if-entry-station.false)
]
