use Rattle.std.proofs.Common.{List, ◌∷◌, [], arith, ap, length, min, subst, ◌∙◌}
use Rattle.std.proofs.lemmas.List.{length-append}
use Rattle.std.proofs.lemmas.Option.{get_or_from_slice_get}
use Rattle.cut_steps.specs.CutSteps.{KeptTrack}
use Rattle.audit_command.specs.Stations.{IsTelling}
use Rattle.audit_command.specs.declared.records.Station.{Station}
use Rattle.audit_command.proofs.Along.{along_then}
use Rattle.audit_command.proofs.InTurn.{tells_more}
use Rattle.audit_command.proofs.tells.tells_of.Goals as goal

pub loop-index-preserved : goal.loop-index-preserved
loop-index-preserved c =
    let before = c.loop-index.tells.items in
    let t = c.in_ok-tell.tell in
    let along = c.loop-index.invariant.0 in
    rw c.in_ok-push.ensures.items (
      along_then c.args.walk.now c.loop-index.walk c.tell_of.new.walk along c.tell_of.ensures.along,
      omega (arith, length-append before (t ∷ []), c.loop-index.invariant.1),
      tells_more c.args.room.now c.args.walk.now.opening c.args.stations.now c.args.at c.loop-index.index before t c.loop-index.invariant.1
          c.loop-index.invariant.2
          (λ s there. subst (λ (ops : List KeptTrack). IsTelling c.args.room.now ops s c.loop-index.index t) along.opening (c.in_ok-tell.ensures.tell s there)),
    )

pub returns-clause-pairs : goal.returns-clause-pairs
returns-clause-pairs c = λ s there.
    let same = c.index-stations-at.is ∙ get_or_from_slice_get c.args.stations.now c.args.at s c.index-stations-at.result there in
    omega (
      arith,
      c.loop-index.invariant.1,
      c.loop-index-test.false,
      c.loop-index.auto.index-end,
      c.pairs-index-end.ensures,
      ap (λ (x : Station). min (length x.lines.items) (length x.replies.items)) same,
    )
