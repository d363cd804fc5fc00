use Rattle.std.proofs.Common.{Some, ap, sym, ◌∙◌}
use Rattle.std.proofs.lemmas.Option.{slice_get-get_or}
use Rattle.reply_audits.specs.Judging.{setting_in}
use Rattle.audit_command.specs.Stations.{recording_in}
use Rattle.audit_command.proofs.InTurn.{row_signed, row_told}
use Rattle.audit_command.proofs.Telling.{ok_then}
use Rattle.audit_command.proofs.tells.judge_at.Goals as goal

pub reply_at-row-requires : goal.reply_at-row-requires
reply_at-row-requires c =
    c.requires.line c.index-stations-at.result
    (slice_get-get_or c.args.stations.now c.args.at c.index-stations-at.result c.requires.there ∙ ap Some (sym c.index-stations-at.is))

pub judge-requires-clause-entry : goal.judge-requires-clause-entry
judge-requires-clause-entry c =
    row_signed c.args.room.now c.args.walk.now.opening c.args.stations.now c.args.at c.args.index c.index-stations-at.result c.reply_at-row.result
    c.requires.ready
    (slice_get-get_or c.args.stations.now c.args.at c.index-stations-at.result c.requires.there ∙ ap Some (sym c.index-stations-at.is))
    c.reply_at-row.ensures

pub returns-clause-tell : goal.returns-clause-tell
returns-clause-tell c =
    let s = c.index-stations-at.result in
    ok_then _ _ c.judge.result
    (λ tell one. row_told c.args.room.now c.args.walk.now.opening c.args.stations.now c.args.at c.args.index s c.reply_at-row.result tell
    (c.rows_are_goings.ensures.known (setting_in c.args.room.now) c.args.walk.now.opening c.args.room.now.entries.now s.station
    (recording_in s).lines (recording_in s).replies)
    (slice_get-get_or c.args.stations.now c.args.at s c.requires.there ∙ ap Some (sym c.index-stations-at.is))
    c.reply_at-row.ensures one)
    c.judge.ensures.tell
