use Rattle.std.proofs.Common.{arith, ap, map, take, ◌++◌, [], ◌∷◌, sym, ◌∙◌}
use Rattle.std.proofs.lemmas.List.{length-append, map-append, take_more}
use Rattle.audit_command.specs.Stations.{recording_in, recording_told}
use Rattle.audit_command.specs.declared.records.RecordTexts.{RecordTexts}
use Rattle.audit_command.proofs.InTurn.{ready_more}
use Rattle.audit_command.proofs.ending.stations_in.Goals as goal

pub loop-at-preserved : goal.loop-at-preserved
loop-at-preserved c =
    let s = c.in_ok-station_in.field-0 in
    let texts = c.index-texts-at.result in
    let before = c.loop-at.stations.items in
    let one = c.in_ok-station_in.ensures.recording in
    let named = map-append recording_told (take c.loop-at.at c.args.texts.now) (texts ∷ []) in
    let grown = take_more c.args.texts.now c.loop-at.at texts c.loop-at-test.true ∙ ap (λ (t : RecordTexts). take c.loop-at.at c.args.texts.now ++ t ∷ []) (sym c.index-texts-at.is) in
    rw c.in_ok-push.ensures.items (
      omega (arith, length-append before (s ∷ []), c.loop-at.invariant.0),
      ready_more c.args.entries.now before s c.loop-at.invariant.1 (c.in_ok-station_in.ensures.station ∙ sym c.loop-at.invariant.0) c.in_ok-station_in.ensures.signs,
      map-append recording_in before (s ∷ [])
          ∙ (ap (λ rs. rs ++ map recording_in (s ∷ [])) c.loop-at.invariant.2
          ∙ (ap (λ r. map recording_told (take c.loop-at.at c.args.texts.now) ++ r ∷ []) one
          ∙ (sym named ∙ ap (map recording_told) (sym grown)))),
    )
