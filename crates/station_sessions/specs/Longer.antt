-- What a station was told stays true however the history goes on without it.
use Rattle.std.specs.Prelude.{◌≡◌, ℕ, List, ◌++◌}
use Rattle.line_words.specs.Lines.{Line as InputLine}
use Rattle.room_core.specs.Projection.{of_station}
use Rattle.otio_json.specs.declared.opening.Opening.{Opening}
use Rattle.station_sessions.specs.Rooms.{History, RoomTranscriptTo, RoomTranscriptBut, IsLegalIn}
use Rattle.station_sessions.specs.Transcript.{Origin}

-- A transcript over a list is one over every legal history that the list begins, and whose entries of this station are
-- those of the list.
module _ (o : Opening) (h more : History) (from : Origin) (station : ℕ) (lines : List InputLine) (replies : List (List ℕ)) (told : ℕ) where
  abbrev pub TranscriptStays : Type 0
  TranscriptStays = IsLegalIn o (h ++ more) → of_station station (h ++ more) ≡ of_station station h
      → RoomTranscriptTo o h from station lines replies told → RoomTranscriptTo o (h ++ more) from station lines replies told

  -- also where one line more has a reply that was not sent
  abbrev pub BrokenStays : Type 0
  BrokenStays = (line : InputLine) → IsLegalIn o (h ++ more) → of_station station (h ++ more) ≡ of_station station h
      → RoomTranscriptBut o h from station lines replies told line → RoomTranscriptBut o (h ++ more) from station lines replies told line

abbrev pub TranscriptsStay : Type 0
TranscriptsStay = (o : Opening) (h more : History) (from : Origin) (station : ℕ) (lines : List InputLine) (replies : List (List ℕ)) (told : ℕ)
    → TranscriptStays o h more from station lines replies told × BrokenStays o h more from station lines replies told
