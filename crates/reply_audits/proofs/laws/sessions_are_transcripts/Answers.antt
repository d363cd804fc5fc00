use Rattle.std.proofs.Common.{arith, refl, true}
use Rattle.cut_steps.specs.CutSteps.{fresh_tracks}
use Rattle.station_sessions.specs.Rooms.{room_of, setting_of}
use Rattle.reply_audits.specs.Sessions.{IsLeft, heard_of}
use Rattle.reply_audits.proofs.Goings.{rows_session, session_of, session_rows, transcript_of}
use Rattle.reply_audits.proofs.laws.sessions_are_transcripts.Goals as goal

pub returns-clause-explained : goal.returns-clause-explained
returns-clause-explained c = λ o h station lines replies.
    transcript_of (room_of (setting_of o)) (fresh_tracks o.tracks) h station lines replies (IsLeft (setting_of o) h station lines replies)

pub returns-clause-transcripts : goal.returns-clause-transcripts
returns-clause-transcripts c = λ o h station lines replies.
    session_of (room_of (setting_of o)) (fresh_tracks o.tracks) h station lines replies (IsLeft (setting_of o) h station lines replies)

pub returns-clause-cut : goal.returns-clause-cut
returns-clause-cut c = λ o h station lines replies is.
    let w = session_rows (room_of (setting_of o)) (fresh_tracks o.tracks) h station lines replies (IsLeft (setting_of o) h station lines replies)
    (heard_of station lines replies true) refl refl refl is in
    record { told = w.0; unanswered = w.1; few = w.5; transcript = w.2; are_left = w.3 }

pub returns-clause-cut_transcripts : goal.returns-clause-cut_transcripts
returns-clause-cut_transcripts c = λ o h station lines replies is.
    rows_session (room_of (setting_of o)) (fresh_tracks o.tracks) h station lines replies (IsLeft (setting_of o) h station lines replies) true is.told
    is.unanswered is.transcript is.are_left (λ uncut. absurd (Prim.grind (arith, uncut))) is.few
