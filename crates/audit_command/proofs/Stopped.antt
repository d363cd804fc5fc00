-- Why what was recorded of a station is refused, by what its session stops at.
use Rattle.std.proofs.Common.{◌≡◌, ℕ, ◌<◌, List, Option, Some, None, IsSomeAnd, length, slice_get, sym, ap, ◌∙◌, subst, arith}
use Rattle.std.proofs.lemmas.List.{length-map}
use Rattle.std.proofs.lemmas.Option.{slice_get_within}
use Rattle.cut_steps.specs.CutSteps.{CutStep, KeptTrack}
use Rattle.recorded_sessions.specs.Recordings.{line_seen}
use Rattle.recorded_sessions.specs.Sessions.{IsSession}
use Rattle.recorded_sessions.specs.Stopping.{IsRefusal, Stops}
use Rattle.recorded_sessions.specs.Telling.{Explaining}
use Rattle.recorded_sessions.specs.declared.session.Heard.{Heard}
use Rattle.recorded_sessions.specs.declared.session.Stop.{Stop}
use Rattle.recorded_sessions.specs.declared.session.Stop.TheVariants.{Reply, Unpaired, Untold, Memory}
use Rattle.reply_audits.specs.Sessions.{IsLeft, explaining, heard_of}
use Rattle.room_core.specs.declared.entry.Entry.{Entry}
use Rattle.station_sessions.specs.Rooms.{History, Setting}
use Rattle.audit_command.specs.Recordings.{Recording}
use Rattle.audit_command.specs.Refused.{IsTold, RefusesStation}
use Rattle.audit_command.specs.Stations.{IsExplainedIn, IsNumbered, recording_in}
use Rattle.audit_command.specs.declared.records.Station.{Station}
use Rattle.audit_command.specs.declared.refusal.AuditCode.{AuditCode}

there : (h : History) (station place : ℕ) (o : Option (Entry CutStep)) → slice_get h place ≡ o → IsSomeAnd o (λ e. e.station ≡ station) → place < length h
there h station place None is at = absurd (Prim.grind (arith, at))
there h station place (Some e) is at = slice_get_within h place e is

-- what a session stops at is there
pub numbered : (s : Station) (h : History) (explains : Explaining) (left : ℕ → Type 0) (heard : Heard) (stop : Stop)
    → heard.lines ≡ length s.lines.items → heard.replies ≡ length s.replies.items → Stops explains left heard h stop → IsNumbered s h stop
numbered s h explains left heard (Reply number told) lines replies stops =
    (omega (arith, stops.number_is), omega (arith, stops.number_is, stops.within, lines, replies))
numbered s h explains left heard (Unpaired number) lines replies stops = omega (arith, stops.number_is, lines, replies)
numbered s h explains left heard (Untold place) lines replies stops =
    there h heard.station place (slice_get h place) (λ i. slice_get h place) stops.untold.1
numbered s h explains left heard Memory lines replies stops = tt

told_refusal : (room : Setting) (h : History) (station : ℕ) (r : Recording) (stop : Stop) (code : AuditCode) (number : ℕ)
    → IsTold room h station r stop code number → IsRefusal stop
told_refusal room h station r (Reply at told) code number is = tt
told_refusal room h station r (Unpaired at) code number is = tt
told_refusal room h station r (Untold place) code number is = tt
told_refusal room h station r Memory code number is = is

abbrev heard_with : Station → ℕ → ℕ → Heard
heard_with s lines replies = record { station = s.station; lines = lines; replies = replies; is_cut = s.is_cut }

pub heard_so : (s : Station) (lines replies : ℕ) → lines ≡ length s.lines.items → replies ≡ length s.replies.items
    → record { station = s.station; lines = lines; replies = replies; is_cut = s.is_cut }
    ≡ heard_of s.station (recording_in s).lines (recording_in s).replies (recording_in s).cut
heard_so s lines replies l r =
    ap (λ n. heard_with s n replies) (l ∙ sym (length-map s.lines.items line_seen))
    ∙ ap (heard_with s (length (recording_in s).lines)) (r ∙ sym (length-map s.replies.items (λ reply. reply.now)))

module _ (room : Setting) (opening : List KeptTrack) (h : History) (station : ℕ) (r : Recording) where
  abbrev Explains : Explaining
  Explains = explaining room opening h station r.lines r.replies

  abbrev Left : ℕ → Type 0
  Left = IsLeft room h station r.lines r.replies

  pub station_refused : (heard : Heard) → heard ≡ heard_of station r.lines r.replies r.cut → (stop : Stop) (code : AuditCode) (number : ℕ)
      → Stops Explains Left heard h stop → (IsRefusal stop → IsSession Explains Left heard h → ⊥) → IsTold room h station r stop code number
      → RefusesStation room opening h (IsExplainedIn room opening h) station r code number
  station_refused heard is stop code number stops refused told = record {
    stop = stop;
    stops = subst (λ (x : Heard). Stops Explains Left x h stop) is stops;
    told = told;
    unexplained = λ so. refused (told_refusal room h station r stop code number told) (subst (λ (x : Heard). IsSession Explains Left x h) (sym is) so);
  }
