-- Sessions that are explained are transcripts, and the other way round; refusals by one are refusals by the other.
use Rattle.std.proofs.Common.{◌≡◌, ℕ, ◌+◌, ◌<◌, inl, inr, List, Bool, true, false, MatchBool, length, take, subst, arith}
use Rattle.std.proofs.lemmas.List.Elements.{All-get_or}
use Rattle.std.proofs.lemmas.Option.{get_or_from_slice_get, slice_get_within}
use Rattle.cut_mirror.specs.Walks.{IsUnfit}
use Rattle.cut_steps.specs.CutSteps.{CutStep, KeptTrack, fresh_tracks, stepping}
use Rattle.line_words.specs.Lines.{Line as InputLine}
use Rattle.otio_json.specs.declared.opening.Opening.{Opening}
use Rattle.reply_audits.specs.Sessions.{CutHaveTranscripts, CutTranscriptsAreExplained, ExplainedHaveTranscripts, IsCutTranscript, IsExplained, TranscriptsAreExplained}
use Rattle.room_core.specs.Whole.{whole}
use Rattle.room_core.specs.declared.entry.Entry.{Entry}
use Rattle.station_sessions.specs.Rooms.{History, RoomTranscript, Setting, setting_of}
use Rattle.station_sessions.specs.Transcript.{new_room}
use Rattle.audit_command.specs.Explained.{AreLegal, Explains}
use Rattle.audit_command.specs.Recordings.{Recording}
use Rattle.audit_command.specs.Refused.{RefusesAudit, RefusesBy, RefusesSeat, RefusesStation}
use Rattle.audit_command.specs.Stations.{IsExplainedIn}
use Rattle.audit_command.specs.declared.refusal.AuditRefusal.{AuditRefusal}
use Rattle.audit_command.proofs.EachRecording.{each_at, each_map}
use Rattle.audit_command.proofs.Unfitting.{front_comes}

-- ---- refusals by what explains a session, where another explains the same

module _ (room : Setting) (opening : List KeptTrack) (h : History) (So To : ℕ → Recording → Type 0)
    (there : (station : ℕ) (r : Recording) → So station r → To station r) (back : (station : ℕ) (r : Recording) → To station r → So station r)
    (rs : List Recording) (refusal : AuditRefusal) where
  station_by : (station : ℕ) (r : Recording) → RefusesStation room opening h So station r refusal.code refusal.number
      → RefusesStation room opening h To station r refusal.code refusal.number
  station_by station r s =
      record { stop = s.stop; stops = s.stops; told = s.told; unexplained = λ so. s.unexplained (back station r so) }

  pub refuses_by : RefusesBy room opening h So rs refusal → RefusesBy room opening h To rs refusal
  refuses_by (inl at) = inl (record {
    recording = at.recording;
    explained = each_map So To there 0 (take refusal.station rs) at.explained;
    at = at.at;
    refuses = station_by refusal.station at.recording at.refuses;
  })
  refuses_by (inr seat) = inr (record {
    place = seat.place;
    entry = seat.entry;
    code_is = seat.code_is;
    explained = each_map So To there 0 rs seat.explained;
    seated = seat.seated;
    entry_is = seat.entry_is;
    station_is = seat.station_is;
    number_is = seat.number_is;
    unseated = seat.unseated;
  })

-- ---- sessions and transcripts

abbrev pub Laws : Type 0
Laws =
    (o : Opening) (h : History) (station : ℕ) (lines : List InputLine) (replies : List (List ℕ))
    → ExplainedHaveTranscripts o h station lines replies × TranscriptsAreExplained o h station lines replies
    × CutHaveTranscripts o h station lines replies × CutTranscriptsAreExplained o h station lines replies

module _ (laws : Laws) (o : Opening) (h : History) where
  to_by : (station : ℕ) (lines : List InputLine) (replies : List (List ℕ)) (cut : Bool) → IsExplained o h station lines replies cut
      → MatchBool cut (IsCutTranscript o h station lines replies) (RoomTranscript o h new_room station lines replies)
  to_by station lines replies true s = (laws o h station lines replies).2 s
  to_by station lines replies false s = (laws o h station lines replies).0 s

  from_by : (station : ℕ) (lines : List InputLine) (replies : List (List ℕ)) (cut : Bool)
      → MatchBool cut (IsCutTranscript o h station lines replies) (RoomTranscript o h new_room station lines replies)
      → IsExplained o h station lines replies cut
  from_by station lines replies true s = (laws o h station lines replies).3 s
  from_by station lines replies false s = (laws o h station lines replies).1 s

  pub to_explains : (station : ℕ) (r : Recording) → IsExplainedIn (setting_of o) (fresh_tracks o.tracks) h station r → Explains o h station r
  to_explains station r s = to_by station r.lines r.replies r.cut s

  pub from_explains : (station : ℕ) (r : Recording) → Explains o h station r → IsExplainedIn (setting_of o) (fresh_tracks o.tracks) h station r
  from_explains station r s = from_by station r.lines r.replies r.cut s

-- ---- what is legal is not refused

module _ (o : Opening) (h : History) (rs : List Recording) (legal : AreLegal o h rs) where
  pub fits : (place : ℕ) → IsUnfit (stepping o.table) (fresh_tracks o.tracks) h place → ⊥
  fits place unfit = front_comes (whole (stepping o.table)) (place + 1) (fresh_tracks o.tracks) h legal.legal.applies unfit.refused

  never_seat : (refusal : AuditRefusal) → RefusesSeat (setting_of o) (fresh_tracks o.tracks) h (Explains o h) rs refusal → ⊥
  never_seat refusal seat =
      let within = slice_get_within h seat.place seat.entry seat.entry_is in
      let less : seat.entry.station < length rs =
      subst (λ (e : Entry CutStep). e.station < length rs) (get_or_from_slice_get h seat.place seat.entry seat.entry seat.entry_is)
      (All-get_or (λ (e : Entry CutStep). e.station < length rs) h seat.place seat.entry within legal.seated) in
      omega (arith, less, seat.unseated)

  pub passes : (refusal : AuditRefusal) → RefusesAudit o h rs refusal → ⊥
  passes refusal (inl at) =
      let here : 0 + refusal.station ≡ refusal.station = omega arith in
      at.refuses.unexplained (subst (λ n. Explains o h n at.recording) here (each_at (Explains o h) 0 rs refusal.station at.recording at.at legal.explained))
  passes refusal (inr seat) = never_seat refusal seat
