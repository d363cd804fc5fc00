-- A room's tracks are together, good and roomy at every point of its history; and what each of them shows is what it
-- showed at the opening, or suits its kind.
use Rattle.std.specs.Prelude.{◌≡◌, ◌⊎◌, ℕ, true, List, All, Some, Ok, IsSomeAnd, slice_get, take}
use Rattle.frame_meaning.specs.declared.cells.What.{What}
use Rattle.composables.specs.declared.media.Table.{Table}
use Rattle.composables.specs.declared.refusals.Done.{Done}
use Rattle.composables.specs.Good.{IsGood}
use Rattle.composables.specs.Roomy.{IsRoomy}
use Rattle.composables.specs.TrackState.{TrackState}
use Rattle.edit_insert.specs.Sources.{suits}
use Rattle.room_core.specs.declared.entry.Entry.{Entry}
use Rattle.room_core.specs.History.{IsLegal, replay}
use Rattle.room_core.specs.Parts.{AreGood, numbers}
use Rattle.room_core.specs.Whole.{whole}
use Rattle.link_laws.specs.Together.{Together}
use Rattle.track_laws.specs.Goods.{IsBounded}
use Rattle.track_laws.specs.Shown.{IsShownOn}
use Rattle.edit_calls.specs.declared.asks.Call.{Call}
use Rattle.edit_apply.specs.Apply.{editing, track_count}
use Rattle.edit_apply.specs.RoomTracks.{IsOpening, IsTrackOf}

-- the tracks of a room with this table: as many as it has kinds, each good, with its place for its number
abbrev pub AreRoomTracks : Table → List TrackState → Type 0
AreRoomTracks table tracks = AreGood (IsTrackOf table) (numbers 0 (track_count table)) tracks

-- every call that is done leaves the tracks of a room together, and tracks of the room, where they are so
abbrev pub CallsKeepRooms : Type 0
CallsKeepRooms = (table : Table) (tracks news : List TrackState) (c : Call) (done : Done) → IsBounded table
    → AreRoomTracks table tracks → Together tracks → whole (editing table) tracks c ≡ Ok (news, done)
    → Together news × AreRoomTracks table news

-- the tracks that any entries come to from an opening are together
abbrev pub RoomsStayTogether : Type 0
RoomsStayTogether = (table : Table) (opening tracks : List TrackState) (entries : List (Entry Call)) → IsOpening table opening
    → replay (whole (editing table)) opening entries ≡ Some tracks → Together tracks

-- at every point of a legal history, that is after its first n entries for each n, there are tracks, which are together
-- and have room among their numbers
pub record AreTogetherAndRoomy (tracks : List TrackState) : Type 0 where
  pub together : Together tracks
  pub roomy : All IsRoomy tracks

abbrev pub RoomsStayRoomy : Type 0
RoomsStayRoomy = (table : Table) (opening : List TrackState) (entries : List (Entry Call)) (n : ℕ) → IsOpening table opening
    → IsLegal (whole (editing table)) opening entries
    → IsSomeAnd (replay (whole (editing table)) opening (take n entries)) AreTogetherAndRoomy

-- the tracks that any entries come to from an opening are all good in the table
abbrev pub RoomsStayGood : Type 0
RoomsStayGood = (table : Table) (opening tracks : List TrackState) (entries : List (Entry Call)) → IsOpening table opening
    → replay (whole (editing table)) opening entries ≡ Some tracks → All (λ t. IsGood table t) tracks

-- whatever one of the tracks shows that any entries come to, from any tracks, it showed there, or it suits its kind
abbrev pub RoomsSuitTheirKinds : Type 0
RoomsSuitTheirKinds = (table : Table) (before after : List TrackState) (entries : List (Entry Call)) (n : ℕ) (what : What)
    → replay (whole (editing table)) before entries ≡ Some after → IsShownOn after n what
    → IsShownOn before n what ⊎ (suits (slice_get table.kinds n) what ≡ true)
