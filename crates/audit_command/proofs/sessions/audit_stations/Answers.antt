use Rattle.std.proofs.Common.{List, Some, arith, ap, length, subst, sym, ◌∙◌}
use Rattle.std.proofs.lemmas.Option.{slice_get-get_or}
use Rattle.recorded_sessions.specs.declared.telling.Told.{Told}
use Rattle.cut_steps.specs.CutSteps.{KeptTrack}
use Rattle.reply_audits.specs.Judging.{setting_in}
use Rattle.audit_command.specs.Stations.{AreTelling, IsExplainedIn, StopsStation, recording_in}
use Rattle.audit_command.specs.declared.records.Station.{Station}
use Rattle.audit_command.proofs.Along.{along_then}
use Rattle.audit_command.proofs.InTurn.{explains_more, stops_at}
use Rattle.audit_command.proofs.sessions.audit_stations.Goals as goal

pub audit_station-requires-clause-tells : goal.audit_station-requires-clause-tells
audit_station-requires-clause-tells c =
    let s = c.index-stations-at.result in
    let there = slice_get-get_or c.args.stations.now c.loop-at.at s c.loop-at-test.true ∙ ap Some (sym c.index-stations-at.is) in
    subst (λ (ts : List Told). AreTelling c.args.room.now c.args.opening.now s ts) (sym c.deref.ensures.value)
    (subst (λ (ops : List KeptTrack). AreTelling c.args.room.now ops s c.in_ok-tells.tells.items)
    (c.loop-at.invariant.0.opening ∙ sym c.requires.opening) (c.in_ok-tells.ensures.tells s there))

pub audit_station-requires-clause-pairs : goal.audit_station-requires-clause-pairs
audit_station-requires-clause-pairs c =
    let s = c.index-stations-at.result in
    let there = slice_get-get_or c.args.stations.now c.loop-at.at s c.loop-at-test.true ∙ ap Some (sym c.index-stations-at.is) in
    ap length c.deref.ensures.value ∙ c.in_ok-tells.ensures.pairs s there

pub loop-at-preserved : goal.loop-at-preserved
loop-at-preserved c =
    let s = c.index-stations-at.result in (
      along_then c.args.walk.now c.loop-at.walk c.tells_of.new.walk c.loop-at.invariant.0 c.tells_of.ensures.along,
      omega (arith, c.loop-at.invariant.1, c.pairs-first.ensures, s.lines_within),
      explains_more c.args.stations.now c.loop-at.at s c.loop-at-test.true (setting_in c.args.room.now) c.args.opening.now c.args.room.now.entries.now
          c.requires.ready c.loop-at.invariant.2
          (subst (λ (x : Station). IsExplainedIn (setting_in c.args.room.now) c.args.opening.now c.args.room.now.entries.now x.station (recording_in x))
          c.index-stations-at.is c.in-Ok.ensures.explained),
    )

pub returns-in-Err-clause-stop : goal.returns-in-Err-clause-stop
returns-in-Err-clause-stop c =
    let s = c.index-stations-at.result in
    stops_at c.args.stations.now c.loop-at.at s c.loop-at-test.true (setting_in c.args.room.now) c.args.opening.now c.args.room.now.entries.now
    c.requires.ready c.loop-at.invariant.2 c.in-Err.stop
    (subst (λ (x : Station). StopsStation (setting_in c.args.room.now) c.args.opening.now c.args.room.now.entries.now x.station (recording_in x) c.in-Err.stop)
    c.index-stations-at.is c.in-Err.ensures.stop)
