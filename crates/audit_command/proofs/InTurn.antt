-- Stations that are held against a journal one after another, and what comes of all of them.
use Rattle.std.proofs.Common.{◌≡◌, ℕ, ◌+◌, ◌<◌, inl, inr, List, [], ◌∷◌, ◌++◌, Option, Some, None, All, length, map, option_map, take, slice_get, get_or, sym, ap, ◌∙◌, subst, arith}
use Rattle.std.proofs.lemmas.List.{length-map, length-take-le, map-append, take_more, take-map}
use Rattle.std.proofs.lemmas.List.Elements.{All-get_or}
use Rattle.std.proofs.lemmas.Option.{get_or_from_slice_get, slice_get-get_or, slice_get-map, slice_get_within}
use Rattle.cut_steps.specs.CutSteps.{KeptTrack}
use Rattle.recorded_sessions.specs.Places.{Says}
use Rattle.recorded_sessions.specs.Recordings.{line_seen}
use Rattle.recorded_sessions.specs.Telling.{IsKnown}
use Rattle.recorded_sessions.specs.declared.telling.Told.{Told}
use Rattle.reply_audits.specs.Judging.{explained_by, setting_in}
use Rattle.reply_audits.specs.Sessions.{IsKnownThere, explaining}
use Rattle.reply_audits.specs.declared.judging.RecordedReply.{RecordedReply}
use Rattle.reply_audits.specs.declared.judging.RecordedRoom.{RecordedRoom}
use Rattle.station_sessions.specs.Rooms.{History, Setting}
use Rattle.station_sessions.specs.Transcript.{BearsNone}
use Rattle.audit_command.specs.Explained.{Each}
use Rattle.audit_command.specs.Recordings.{Recording, replies_in}
use Rattle.audit_command.specs.Refused.{RefusesBy, RefusesStation}
use Rattle.audit_command.specs.Stations.{AreReady, AreSigned, AreTelling, IsExplainedIn, IsNoted, IsRowOf, IsTelling, IsUnseated, StopsAudit, StopsStation, StopsStations, recording_in}
use Rattle.audit_command.specs.declared.refusal.AuditRefusal.{AuditRefusal}
use Rattle.audit_command.specs.declared.refusal.AuditStop.{AuditStop}
use Rattle.audit_command.specs.declared.refusal.AuditStop.TheVariants as stop
use Rattle.audit_command.specs.declared.records.Station.{Station}
use Rattle.audit_command.specs.declared.tells.Noted.{Noted}
use Rattle.audit_command.proofs.EachRecording.{each_push}
use Rattle.audit_command.proofs.Telling.{known_more, put_behind}

-- ---- what replies tell

module _ (room : RecordedRoom) (opening : List KeptTrack) (stations : List Station) where
  pub noted_right : (notes : List (Option Noted)) (slot : ℕ) (n : Noted) → All (IsNoted room opening stations) notes
      → slice_get notes slot ≡ Some (Some n) → IsNoted room opening stations (Some n)
  noted_right notes slot n all at =
      subst (IsNoted room opening stations) (get_or_from_slice_get notes slot (Some n) None at)
      (All-get_or (IsNoted room opening stations) notes slot None (slice_get_within notes slot (Some n) at) all)

  -- a row of a station's is what it says, and what is known of it is known of the station's reply
  pub row_signed : (at index : ℕ) (s : Station) (row : RecordedReply) → AreReady room.entries.now stations → slice_get stations at ≡ Some s
      → IsRowOf s index row → Says row.has_no_entry (BearsNone room.entries.now row.station row.number)
  row_signed at index s row ready there is =
      subst (λ n. Says row.has_no_entry (BearsNone room.entries.now row.station n)) (sym is.number_is)
      (subst (λ n. Says row.has_no_entry (BearsNone room.entries.now n (index + 1))) (sym is.station_is)
      ((ready at s there).1 index row.has_no_entry is.sign_is))

  same_station : (a b : Station) → Some a ≡ Some b → a ≡ b
  same_station a b h = Prim.grind (arith, h)

  pub row_told : (at index : ℕ) (s : Station) (row : RecordedReply) (tell : Told)
      → IsKnownThere (setting_in room) opening room.entries.now s.station (recording_in s).lines (recording_in s).replies
      → slice_get stations at ≡ Some s → IsRowOf s index row
      → IsKnown (explained_by (setting_in room) opening room.entries.now row.station row.number (line_seen row.line) row.reply.now) tell
      → (t : Station) → slice_get stations at ≡ Some t → IsTelling room opening t index tell
  row_told at index s row tell known there is one t here =
      let by_number = subst (λ n. IsKnown (explained_by (setting_in room) opening room.entries.now row.station n (line_seen row.line) row.reply.now) tell) is.number_is one in
      let by_station = subst (λ n. IsKnown (explained_by (setting_in room) opening room.entries.now n (index + 1) (line_seen row.line) row.reply.now) tell) is.station_is by_number in
      subst (λ x. IsTelling room opening x index tell) (same_station s t (sym there ∙ here))
      (known index (line_seen row.line) row.reply.now tell is.line_is is.reply_is by_station)

  pub tells_more : (at index : ℕ) (tells : List Told) (t : Told) → length tells ≡ index
      → ((s : Station) → slice_get stations at ≡ Some s → AreTelling room opening s tells)
      → ((s : Station) → slice_get stations at ≡ Some s → IsTelling room opening s index t)
      → (s : Station) → slice_get stations at ≡ Some s → AreTelling room opening s (tells ++ t ∷ [])
  tells_more at index tells t is known one s there =
      known_more (explaining (setting_in room) opening room.entries.now s.station (recording_in s).lines (recording_in s).replies) tells t index is (known s there) (one s there)

-- ---- stations

pub ready_more : (h : History) (stations : List Station) (s : Station) → AreReady h stations → s.station ≡ length stations
    → AreSigned h s.station s.has_no_entry.items → AreReady h (stations ++ s ∷ [])
ready_more h stations s ready number signs =
    put_behind (λ k x. (x.station ≡ k) × AreSigned h x.station x.has_no_entry.items) stations s ready (number, signs)

pub replies_more : (rs : List Recording) (r : Recording) → replies_in (rs ++ r ∷ []) ≡ replies_in rs + length r.replies
replies_more [] r = omega arith
replies_more (q ∷ rs) r = omega (arith, replies_more rs r)

module _ (stations : List Station) (at : ℕ) (d : Station) (within : at < length stations) where
  pub next_recording : map recording_in (take (at + 1) stations) ≡ map recording_in (take at stations) ++ recording_in (get_or stations at d) ∷ []
  next_recording = ap (map recording_in) (take_more stations at d within) ∙ map-append recording_in (take at stations) (get_or stations at d ∷ [])

  pub next_replies : replies_in (map recording_in (take (at + 1) stations))
      ≡ replies_in (map recording_in (take at stations)) + length (get_or stations at d).replies.items
  next_replies =
      ap replies_in next_recording
      ∙ (replies_more (map recording_in (take at stations)) (recording_in (get_or stations at d))
      ∙ ap (λ n. replies_in (map recording_in (take at stations)) + n) (length-map (get_or stations at d).replies.items _))

  module _ (room : Setting) (opening : List KeptTrack) (h : History) (ready : AreReady h stations)
      (before : Each (IsExplainedIn room opening h) 0 (map recording_in (take at stations))) where
    abbrev one : Station
    one = get_or stations at d

    its_number : one.station ≡ at
    its_number = (ready at one (slice_get-get_or stations at d within)).0

    so_many : one.station ≡ 0 + length (map recording_in (take at stations))
    so_many = omega (arith, its_number, length-map (take at stations) recording_in, length-take-le at stations (omega (arith, within)))

    pub explains_more : IsExplainedIn room opening h one.station (recording_in one)
        → Each (IsExplainedIn room opening h) 0 (map recording_in (take (at + 1) stations))
    explains_more so =
        subst (Each (IsExplainedIn room opening h) 0) (sym next_recording)
        (each_push (IsExplainedIn room opening h) 0 (map recording_in (take at stations)) (recording_in one) before
        (subst (λ n. IsExplainedIn room opening h n (recording_in one)) so_many so))

    pub stops_at : (s : AuditStop) → StopsStation room opening h one.station (recording_in one) s
        → StopsStations room opening h (map recording_in stations) s
    stops_at stop.Memory stops = tt
    stops_at (stop.Refused refusal) stops = record {
      recording = recording_in one;
      explained = subst (Each (IsExplainedIn room opening h) 0)
          (sym (ap (λ n. take n (map recording_in stations)) (stops.0 ∙ its_number) ∙ take-map recording_in at stations)) before;
      at = ap (slice_get (map recording_in stations)) (stops.0 ∙ its_number)
          ∙ (slice_get-map recording_in stations at ∙ ap (option_map recording_in) (slice_get-get_or stations at d within));
      refuses = subst (λ n. RefusesStation room opening h (IsExplainedIn room opening h) n (recording_in one) refusal.code refusal.number)
          (sym stops.0) stops.1;
    }

-- ---- all of them

module _ (room : Setting) (opening : List KeptTrack) (h : History) (rs : List Recording) where
  pub stops_whole : (s : AuditStop) → StopsStations room opening h rs s → StopsAudit room opening h rs s
  stops_whole stop.Memory stops = tt
  stops_whole (stop.Refused refusal) stops = inl stops

  pub stops_unseated : (count : ℕ) (refusal : AuditRefusal) → count ≡ length rs → Each (IsExplainedIn room opening h) 0 rs → IsUnseated h count refusal
      → RefusesBy room opening h (IsExplainedIn room opening h) rs refusal
  stops_unseated count refusal is each u = inr (record {
    place = u.place;
    entry = u.entry;
    code_is = u.code_is;
    explained = each;
    seated = subst (λ n. All (λ e. e.station < n) (take u.place h)) is u.seated;
    entry_is = u.entry_is;
    station_is = u.station_is;
    number_is = u.number_is;
    unseated = omega (arith, is, u.unseated);
  })
