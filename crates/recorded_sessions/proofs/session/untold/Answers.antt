use Rattle.std.proofs.Common.{◌+◌, ap, subst, sym, ◌∙◌}
use Rattle.room_core.specs.declared.entry.Entry.{Entry}
use Rattle.recorded_sessions.specs.Places.{IsFront}
use Rattle.recorded_sessions.proofs.Passing.{pass_other, pass_own}
use Rattle.recorded_sessions.proofs.session.untold.Goals as goal
use Rattle.recorded_sessions.proofs.session.untold.Goals.{then-entry-heard+in_ok-after+in-Some, else-entry-heard}

pub loop-place-preserved : goal.loop-place-preserved
loop-place-preserved g c =
    elim c.if-entry-heard.branch [
      | then-entry-heard+in_ok-after+in-Some w ↦
          subst (λ n. IsFront (g.E.Explains.left c.args.rows.now) c.args.heard.now c.args.points.now (c.loop-place.place + 1) n c.args.entries.now) (sym w.count-is)
          (pass_own (g.E.Explains.left c.args.rows.now) c.args.heard.now c.args.points.now c.loop-place.place c.loop-place.count
          c.args.entries.now c.index-entries-place.result c.loop-place-test.true c.loop-place.invariant
          (sym (ap (λ (e : Entry _). e.station) c.index-entries-place.is) ∙ w.if-entry-heard.true) w.in-Some.after
          (rw w.in-Some.is at w.in_ok-after.ensures))
      | else-entry-heard w ↦
          subst (λ n. IsFront (g.E.Explains.left c.args.rows.now) c.args.heard.now c.args.points.now (c.loop-place.place + 1) n c.args.entries.now) (sym w.count-is)
          (pass_other (g.E.Explains.left c.args.rows.now) c.args.heard.now c.args.points.now c.loop-place.place c.loop-place.count
          c.args.entries.now c.index-entries-place.result c.loop-place-test.true c.loop-place.invariant
          (λ own. w.if-entry-heard.false (ap (λ (e : Entry _). e.station) c.index-entries-place.is ∙ own)))
    ]
