-- A session that has answered some lines: what has held since it began.
use Rattle.std.specs.Prelude.{◌≡◌, ℕ, ◌+◌, ◌<◌, ◌≤◌, List, [], ◌∷◌, ◌++◌, Some, length, drop}
use Rattle.cut_steps.specs.CutSteps.{stepping, fresh_tracks}
use Rattle.line_words.specs.Lines.{Line as InputLine}
use Rattle.edit_apply.specs.RoomTracks.{IsOpening}
use Rattle.room_core.specs.declared.entry.Entry.{Entry}
use Rattle.room_core.specs.History.{most_entries, replay, NumbersRise}
use Rattle.room_core.specs.Projection.{of_station}
use Rattle.room_core.specs.Whole.{whole}
use Rattle.station_sessions.specs.Transcript.{Protocol, Origin, Rows, TranscriptBut, points_behind}
use Rattle.otio_json.specs.declared.opening.Opening.{Opening}
use Rattle.station_sessions.specs.Rooms.{AreWritten, History, IsLegalIn, RoomTranscriptTo, RoomTranscriptBut, room_of, setting_of}
use Rattle.station_sessions.specs.SessionInside.{TrackRoom, setting_at}
use Rattle.timecode12.specs.Numbers.{Counted}
use Rattle.station_sessions.specs.Session.{Course, StationState}

-- each entry of the station is of a line before this one
abbrev pub OwnBefore : {C : Type 0} → ℕ → ℕ → List (Entry C) → Type 0
OwnBefore station line [] = Unit {0}
OwnBefore station line (e ∷ es) = (e.station ≡ station → e.number < line) × OwnBefore station line es

-- the lines so far have their replies, and the state is what the journal comes to
pub record Served {S C D R Q X Y : Type 0} (k : Protocol S C D R Q X Y) (station : ℕ) (o : S) (from : Origin) (s : Course S C) (ls : List InputLine) (rs : List (List ℕ)) (last : ℕ) : Type 0 where
  pub opening : s.opening ≡ o
  pub state : replay k.apply o s.journal ≡ Some s.state
  pub rows : Rows k o s.journal station (from.base + 1) from.kept ls rs last (points_behind from.kept station s.journal)
  pub kept : from.kept ≤ length s.journal
  pub told : last ≤ length s.journal
  pub held : last ≤ s.held
  pub line : s.line ≡ from.base + 1 + length ls
  pub before : OwnBefore station (from.base + 1 + length ls) s.journal
  pub rise : NumbersRise s.journal
  pub within : length s.journal ≤ most_entries

-- Between two moments a station answered these lines: whatever it had answered before, it has answered these too, and
-- their replies were taken so.
abbrev pub Serves : {S C D R Q X Y : Type 0} → Protocol S C D R Q X Y → ℕ → Course S C → Course S C → List InputLine → (List (List ℕ) → Type 0) → Type 0
Serves {S} {C} {D} {R} {Q} {X} {Y} k station old new lines Taken =
    (o : S) (from : Origin) (ls : List InputLine) (rs : List (List ℕ)) (last : ℕ) → Served k station o from old ls rs last
    → (more : List (List ℕ)) × (after : ℕ) × Served k station o from new (ls ++ lines) (rs ++ more) after × Taken more

-- The same, and one line more, whose reply was not sent; it has one by the journal.
abbrev pub Breaks : {S C D R Q X Y : Type 0} → Protocol S C D R Q X Y → ℕ → Course S C → Course S C → List InputLine → InputLine → (List (List ℕ) → Type 0) → Type 0
Breaks {S} {C} {D} {R} {Q} {X} {Y} k station old new lines line Taken =
    (o : S) (from : Origin) (ls : List InputLine) (rs : List (List ℕ)) (last : ℕ) → Served k station o from old ls rs last
    → (more : List (List ℕ)) × (after : ℕ) × TranscriptBut k o new.journal from station (ls ++ lines) (rs ++ more) after line
    × (after ≤ new.held) × Taken more

-- a station's session that begins there
pub record IsBegun (o : Opening) (from : Origin) (number : ℕ) (s : StationState) : Type 0 where
  pub setting : s.setting ≡ setting_of o
  pub station : s.station ≡ number
  pub opening : s.course.opening ≡ fresh_tracks o.tracks
  pub legal : IsLegalIn o s.course.journal
  pub tracks : replay (whole (stepping o.table)) (fresh_tracks o.tracks) s.course.journal ≡ Some s.course.state
  pub kept : from.kept ≤ length s.course.journal
  pub none : of_station number (drop from.kept s.course.journal) ≡ []
  pub before : OwnBefore number (from.base + 1) s.course.journal
  pub held : from.kept ≤ s.course.held
  pub line : s.course.line ≡ from.base + 1
  pub written : AreWritten (of_station number s.course.journal)

-- where the station's own entries could be written, they still can
abbrev pub StaysWritten : StationState → StationState → Type 0
StaysWritten old new = AreWritten (of_station old.station old.course.journal) → AreWritten (of_station old.station new.course.journal)

-- a session answered these lines, as a station of its room
pub record ServesTo (old new : StationState) (lines : List InputLine) (Taken : List (List ℕ) → Type 0) : Type 0 where
  pub setting : new.setting ≡ old.setting
  pub station : new.station ≡ old.station
  pub written : AreWritten (of_station old.station old.course.journal) → AreWritten (of_station old.station new.course.journal)
  pub serves : Serves (room_of old.setting) old.station old.course new.course lines Taken

-- a session answered these lines, as a station of its room, and then had no reply sent to one more
pub record BreaksTo (old new : StationState) (lines : List InputLine) (line : InputLine) (Taken : List (List ℕ) → Type 0) : Type 0 where
  pub setting : new.setting ≡ old.setting
  pub station : new.station ≡ old.station
  pub written : AreWritten (of_station old.station old.course.journal) → AreWritten (of_station old.station new.course.journal)
  pub breaks : Breaks (room_of old.setting) old.station old.course new.course lines line Taken

-- the room was opened from this opening, with which a history can begin, and its frames are counted and its record starts
-- so
pub record IsRoomOf (o : Opening) (room : TrackRoom) (counting : Counted) (start : ℕ) : Type 0 where
  pub opens : IsOpening o.table o.tracks
  pub setting : setting_at room counting start ≡ setting_of o
  pub tracks : room.parts ≡ fresh_tracks o.tracks

-- What a station knows tells its replies to these lines, which tell of no more entries than are known to be kept, and its
-- own entries can be written.
abbrev pub Knows : Opening → Origin → ℕ → History → ℕ → List InputLine → (List (List ℕ) → Type 0) → Type 0
Knows o from station known held lines Taken =
    (replies : List (List ℕ)) × (told : ℕ) × RoomTranscriptTo o known from station lines replies told
    × (told ≤ held) × AreWritten (of_station station known) × Taken replies

-- The same, and one line more, whose reply was not sent.
abbrev pub KnowsBut : Opening → Origin → ℕ → History → ℕ → List InputLine → InputLine → (List (List ℕ) → Type 0) → Type 0
KnowsBut o from station known held lines line Taken =
    (replies : List (List ℕ)) × (told : ℕ) × RoomTranscriptBut o known from station lines replies told line
    × (told ≤ held) × AreWritten (of_station station known) × Taken replies
