use Rattle.std.proofs.Common.{refl, ◌∙◌}
use Rattle.reply_audits.specs.Judging.{setting_in}
use Rattle.reply_audits.specs.Sessions.{IsLeft, explaining}
use Rattle.audit_command.specs.Stations.{recording_in}
use Rattle.audit_command.proofs.Stopped.{heard_so, numbered, station_refused}
use Rattle.audit_command.proofs.sessions.audit_station.Goals as goal

pub audit_session-requires-clause-own : goal.audit_session-requires-clause-own
audit_session-requires-clause-own c =
    c.rows_are_goings.ensures.own (setting_in c.args.room.now) c.args.opening.now c.args.room.now.entries.now c.args.station.now.station
    (recording_in c.args.station.now).lines (recording_in c.args.station.now).replies c.args.tells.now c.requires.tells

pub refused_for-requires : goal.refused_for-requires
refused_for-requires c =
    numbered c.args.station.now c.args.room.now.entries.now
    (explaining (setting_in c.args.room.now) c.args.opening.now c.args.room.now.entries.now c.args.station.now.station
    (recording_in c.args.station.now).lines (recording_in c.args.station.now).replies)
    (IsLeft (setting_in c.args.room.now) c.args.room.now.entries.now c.args.station.now.station
    (recording_in c.args.station.now).lines (recording_in c.args.station.now).replies)
    (record { station = c.args.station.now.station; lines = c.len.result; replies = c.len-2.result; is_cut = c.args.station.now.is_cut })
    c.in-Err.stop (c.len.ensures ∙ c.args.station.now.lines.ok.0) (c.len-2.ensures ∙ c.args.station.now.replies.ok.0) c.in-Err.ensures.stop

pub returns-in_ok-code-in-Err-clause-stop : goal.returns-in_ok-code-in-Err-clause-stop
returns-in_ok-code-in-Err-clause-stop c = (
  refl,
  station_refused (setting_in c.args.room.now) c.args.opening.now c.args.room.now.entries.now c.args.station.now.station (recording_in c.args.station.now)
      (record { station = c.args.station.now.station; lines = c.len.result; replies = c.len-2.result; is_cut = c.args.station.now.is_cut })
      (heard_so c.args.station.now c.len.result c.len-2.result (c.len.ensures ∙ c.args.station.now.lines.ok.0)
      (c.len-2.ensures ∙ c.args.station.now.replies.ok.0))
      c.in-Err.stop c.in_ok-code-in-Err.code c.in_ok-code-in-Err.number c.in-Err.ensures.stop c.in-Err.ensures.refused c.in_ok-code-in-Err.ensures,
)
