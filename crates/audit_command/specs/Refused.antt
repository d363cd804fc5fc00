-- Why recorded sessions are refused: the first reply, line or entry that the history does not explain, in the order of the
-- stations.
use Rattle.std.specs.Prelude.{◌≡◌, ◌⊎◌, ℕ, ◌-◌, ◌<◌, ◌≤◌, true, false, List, All, Some, IsSomeAnd, length, take, slice_get, codes}
use Rattle.cut_steps.specs.CutSteps.{CutStep, KeptTrack, fresh_tracks}
use Rattle.line_words.specs.Blanks.{words_of}
use Rattle.line_words.specs.Lines.{Line as InputLine}
use Rattle.otio_json.specs.declared.opening.Opening.{Opening}
use Rattle.recorded_sessions.specs.Naming.{leads, point_named}
use Rattle.recorded_sessions.specs.Stopping.{Stops}
use Rattle.recorded_sessions.specs.declared.session.Stop.{Stop}
use Rattle.recorded_sessions.specs.declared.session.Stop.TheVariants.{Reply, Unpaired, Untold, Memory}
use Rattle.reply_audits.specs.Sessions.{IsLeft, explaining, heard_of}
use Rattle.room_core.specs.declared.entry.Entry.{Entry}
use Rattle.station_sessions.specs.Rooms.{History, Setting, meaning_of, setting_of, wish_in}
use Rattle.station_sessions.specs.Transcript.{Do}
use Rattle.audit_command.specs.Explained.{Each, Explains}
use Rattle.audit_command.specs.Recordings.{Recording}
use Rattle.audit_command.specs.declared.refusal.AuditCode.{AuditCode}
use Rattle.audit_command.specs.declared.refusal.AuditCode.TheVariants.{A1, A2, A3, A4, A5}
use Rattle.audit_command.specs.declared.refusal.AuditRefusal.{AuditRefusal}

-- ---- why the reply to a line is not explained

-- the reply names a point before those that the station had been told of, and is no document
abbrev pub IsBefore : ℕ → List ℕ → Type 0
IsBefore told reply = (leads (codes "otio") (words_of reply) ≡ false) × IsSomeAnd (point_named reply) (λ n. n < told)

-- the line asks for this call of its station
abbrev pub AsksFor : Setting → ℕ → CutStep → InputLine → Type 0
AsksFor room station c line = wish_in station (meaning_of room line) ≡ Do c

-- the entry at a point is that of a station's line of a number
abbrev pub IsOwn : Setting → History → ℕ → ℕ → InputLine → ℕ → Type 0
IsOwn room h station number line n =
    IsSomeAnd (slice_get h n) (λ e. (e.station ≡ station) × (e.number ≡ number) × AsksFor room station e.call line)

-- the reply is an `ok`, and the entry at the point that it names is not the line's
abbrev pub IsOfAnother : Setting → History → ℕ → ℕ → InputLine → List ℕ → Type 0
IsOfAnother room h station number line reply =
    (leads (codes "ok") (words_of reply) ≡ true) × IsSomeAnd (point_named reply) (λ n. IsOwn room h station number line n → ⊥)

-- a line of a station with its reply, where the station had been told of so many entries: of these reasons the first that
-- holds
module _ (room : Setting) (h : History) (station number told : ℕ) (line : InputLine) (reply : List ℕ) where
  abbrev pub IsWhy : AuditCode → Type 0
  IsWhy A2 = IsBefore told reply
  IsWhy A3 = (IsBefore told reply → ⊥) × IsOfAnother room h station number line reply
  IsWhy A1 = (IsBefore told reply → ⊥) × (IsOfAnother room h station number line reply → ⊥)
  IsWhy A4 = ⊥
  IsWhy A5 = ⊥

-- the code and the number that are told of a station, by what its session stops at
abbrev pub IsTold : Setting → History → ℕ → Recording → Stop → AuditCode → ℕ → Type 0
IsTold room h station r (Reply at told) code number =
    (number ≡ at) × (line : InputLine) × (reply : List ℕ) × (slice_get r.lines (at - 1) ≡ Some line) × (slice_get r.replies (at - 1) ≡ Some reply)
    × IsWhy room h station at told line reply code
IsTold room h station r (Unpaired at) code number = (code ≡ A4) × (number ≡ at)
IsTold room h station r (Untold place) code number = (code ≡ A5) × IsSomeAnd (slice_get h place) (λ e. number ≡ e.number)
IsTold room h station r Memory code number = ⊥

-- ---- why what was recorded is refused, where this is what explains it

module _ (room : Setting) (opening : List KeptTrack) (h : History) where
  -- what was recorded of a station stops at the first reply, line or entry that is not explained
  abbrev pub StopsSession : ℕ → Recording → Stop → Type 0
  StopsSession station r stop =
      Stops (explaining room opening h station r.lines r.replies) (IsLeft room h station r.lines r.replies) (heard_of station r.lines r.replies r.cut) h stop

  module _ (So : ℕ → Recording → Type 0) where
    -- What was recorded of the station is not explained. Its replies are looked at in their order, then a line or a reply
    -- that has none beside it, then the station's entries in their order.
    pub record RefusesStation (station : ℕ) (r : Recording) (code : AuditCode) (number : ℕ) : Type 0 where
      pub stop : Stop
      pub stops : StopsSession station r stop
      pub told : IsTold room h station r stop code number
      pub unexplained : So station r → ⊥

    module _ (rs : List Recording) (refusal : AuditRefusal) where
      -- what was recorded of the stations before this one is explained, and this one's is not
      pub record RefusesAt : Type 0 where
        pub recording : Recording
        pub explained : Each So 0 (take refusal.station rs)
        pub at : slice_get rs refusal.station ≡ Some recording
        pub refuses : RefusesStation refusal.station recording refusal.code refusal.number

      -- all that was recorded is explained, and the first entry of a station that is none of these has this station and
      -- number
      pub record RefusesSeat : Type 0 where
        pub place : ℕ
        pub entry : Entry CutStep
        pub code_is : refusal.code ≡ A5
        pub explained : Each So 0 rs
        pub seated : All (λ e. e.station < length rs) (take place h)
        pub entry_is : slice_get h place ≡ Some entry
        pub station_is : refusal.station ≡ entry.station
        pub number_is : refusal.number ≡ entry.number
        pub unseated : length rs ≤ entry.station

      abbrev pub RefusesBy : Type 0
      RefusesBy = RefusesAt ⊎ RefusesSeat

-- why what was recorded of the stations of a legal journal is refused
abbrev pub RefusesAudit : Opening → History → List Recording → AuditRefusal → Type 0
RefusesAudit o h rs refusal = RefusesBy (setting_of o) (fresh_tracks o.tracks) h (Explains o h) rs refusal
