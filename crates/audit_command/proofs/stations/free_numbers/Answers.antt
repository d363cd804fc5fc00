use Rattle.std.proofs.Common.{◌-◌, false, arith, ◌∙◌}
use Rattle.std.proofs.lemmas.List.{length-set}
use Rattle.audit_command.proofs.Bearing.{mark_entry, pass_entry}
use Rattle.audit_command.proofs.stations.free_numbers.Goals.{then-entry-station+then-number-gt0+then-number-len, else-entry-station, else-entry-station-via-then-entry-station+then-number-gt0+else-number-len, else-entry-station-via-then-entry-station+else-number-gt0, else-entry-station-via-else-entry-station}
use Rattle.audit_command.proofs.stations.free_numbers.Goals as goal

pub loop-entry-preserved : goal.loop-entry-preserved
loop-entry-preserved c =
    let e = c.entry-item.result in
    let before = c.loop-entry.signs.items in
    elim c.if-entry-station.branch [
      | then-entry-station+then-number-gt0+then-number-len w ↦
          rw w.signs-is (
            length-set before (e.number - 1) false ∙ c.loop-entry.invariant.0,
            mark_entry c.args.entries.now c.args.station c.loop-entry.entry-index e c.loop-entry-test.true c.entry-item.is before c.loop-entry.invariant.1
                w.if-entry-station.true w.if-number-gt0.true (omega (arith, w.if-number-len.true, w.len.ensures)),
          )
      | else-entry-station w ↦
          rw w.signs-is (
            c.loop-entry.invariant.0,
            pass_entry c.args.entries.now c.args.station c.loop-entry.entry-index e c.loop-entry-test.true c.entry-item.is before c.loop-entry.invariant.1
                (elim w.else-entry-station.branch [
                  | else-entry-station-via-then-entry-station+then-number-gt0+else-number-len v ↦
                      λ index few own is. omega (arith, few, is, v.len.ensures, v.if-number-len.false)
                  | else-entry-station-via-then-entry-station+else-number-gt0 v ↦
                      λ index few own is. omega (arith, is, v.if-number-gt0.false)
                  | else-entry-station-via-else-entry-station v ↦
                      λ index few own is. v.if-entry-station.false own
                ]),
          )
    ]
