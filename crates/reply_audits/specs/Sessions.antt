-- Recorded sessions whose replies are explained one after another, as transcripts of the room.
use Rattle.std.specs.Prelude.{◌≡◌, ℕ, ◌+◌, ◌-◌, ◌<◌, ◌≤◌, Bool, true, false, List, All, Some, length, take, slice_get}
use Rattle.cut_steps.specs.CutSteps.{CutStep, KeptTrack, fresh_tracks}
use Rattle.line_words.specs.Lines.{Line as InputLine}
use Rattle.otio_json.specs.declared.opening.Opening.{Opening}
use Rattle.recorded_sessions.specs.Sessions.{AreOwn, IsSession}
use Rattle.recorded_sessions.specs.Telling.{AreKnown, Explaining, Goes, IsKnown}
use Rattle.recorded_sessions.specs.declared.session.Heard.{Heard}
use Rattle.recorded_sessions.specs.declared.telling.Told.{Told}
use Rattle.room_core.specs.declared.entry.Entry.{Entry}
use Rattle.station_sessions.specs.Rooms.{History, RoomTranscript, Setting, meaning_of, room_of, setting_of, wish_in}
use Rattle.station_sessions.specs.Transcript.{Do, Row, Rows, TranscriptTo, new_room}
use Rattle.reply_audits.specs.Judging.{explained_by}

-- How the reply to the line of each number is explained, the first of which is line 1: in a room with this opening and these
-- entries, of the lines of a station and their replies.
abbrev pub explaining : Setting → List KeptTrack → History → ℕ → List InputLine → List (List ℕ) → Explaining
explaining setting opening h station lines replies number told after points =
    (line : InputLine) × (reply : List ℕ) × (slice_get lines (number - 1) ≡ Some line) × (slice_get replies (number - 1) ≡ Some reply)
    × Row (room_of setting) opening h station number told reply after points line

-- how much was recorded of a station, of which these lines and replies were
abbrev pub heard_of : ℕ → List InputLine → List (List ℕ) → Bool → Heard
heard_of station lines replies cut = record { station = station; lines = length lines; replies = length replies; is_cut = cut }

-- The entry at a place is the station's, of a line after those that have replies, and it is the step that the line asks for.
pub record IsLeft (setting : Setting) (h : History) (station : ℕ) (lines : List InputLine) (replies : List (List ℕ)) (place : ℕ) : Type 0 where
  pub entry : Entry CutStep
  pub line : InputLine
  pub at : slice_get h place ≡ Some entry
  pub own : entry.station ≡ station
  pub later : length replies < entry.number
  pub line_is : slice_get lines (entry.number - 1) ≡ Some line
  pub asks : wish_in station (meaning_of setting line) ≡ Do entry.call

-- The replies of a session that was cut short are those of a transcript of its first lines, and the station's entries that no
-- reply tells of are left.
pub record IsCutTranscript (o : Opening) (h : History) (station : ℕ) (lines : List InputLine) (replies : List (List ℕ)) : Type 0 where
  pub told : ℕ
  pub unanswered : List ℕ
  pub few : length replies ≤ length lines
  pub transcript : TranscriptTo (room_of (setting_of o)) (fresh_tracks o.tracks) h new_room station (take (length replies) lines) replies told unanswered
  pub are_left : All (IsLeft (setting_of o) h station lines replies) unanswered

-- ---- what holds of all of them

module _ (setting : Setting) (opening : List KeptTrack) (h : History) (station : ℕ) (lines : List InputLine) (replies : List (List ℕ)) where
  -- what is known of a reply to a line is known of the reply to the line of that number
  abbrev pub IsKnownThere : Type 0
  IsKnownThere =
      (index : ℕ) (line : InputLine) (reply : List ℕ) (t : Told)
      → slice_get lines index ≡ Some line → slice_get replies index ≡ Some reply
      → IsKnown (explained_by setting opening h station (index + 1) line reply) t
      → IsKnown (explaining setting opening h station lines replies (index + 1)) t

  -- an entry that a reply tells of as its line's own is the station's
  abbrev pub OwnEntriesAreThere : Type 0
  OwnEntriesAreThere =
      (tells : List Told) → AreKnown (explaining setting opening h station lines replies) tells → AreOwn h station tells

  -- the first so many lines and replies that are explained one after another are rows of a transcript
  abbrev pub GoingsAreRows : Type 0
  GoingsAreRows =
      (count told : ℕ) (points : List ℕ) → count ≤ length lines → count ≤ length replies
      → Goes (explaining setting opening h station lines replies) 1 count 0 told points
      → Rows (room_of setting) opening h station 1 0 (take count lines) (take count replies) told points

  -- and the other way round
  abbrev pub RowsAreGoings : Type 0
  RowsAreGoings =
      (count told : ℕ) (points : List ℕ) → count ≤ length lines → count ≤ length replies
      → Rows (room_of setting) opening h station 1 0 (take count lines) (take count replies) told points
      → Goes (explaining setting opening h station lines replies) 1 count 0 told points

module _ (o : Opening) (h : History) (station : ℕ) (lines : List InputLine) (replies : List (List ℕ)) where
  -- the session is explained, whether it was cut short or not
  abbrev pub IsExplained : Bool → Type 0
  IsExplained cut =
      IsSession (explaining (setting_of o) (fresh_tracks o.tracks) h station lines replies) (IsLeft (setting_of o) h station lines replies)
      (heard_of station lines replies cut) h

  -- a session that was not cut short is explained exactly where it has a transcript
  abbrev pub ExplainedHaveTranscripts : Type 0
  ExplainedHaveTranscripts = IsExplained false → RoomTranscript o h new_room station lines replies

  abbrev pub TranscriptsAreExplained : Type 0
  TranscriptsAreExplained = RoomTranscript o h new_room station lines replies → IsExplained false

  -- one that was cut short, where its replies have one
  abbrev pub CutHaveTranscripts : Type 0
  CutHaveTranscripts = IsExplained true → IsCutTranscript o h station lines replies

  abbrev pub CutTranscriptsAreExplained : Type 0
  CutTranscriptsAreExplained = IsCutTranscript o h station lines replies → IsExplained true
