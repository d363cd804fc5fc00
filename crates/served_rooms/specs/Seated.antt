-- A station that is seated with its pass: before its session, and after it.
use Rattle.std.specs.Prelude.{◌≡◌, ℕ, ◌<◌, ◌≤◌, true, List, Option, Some, None, Result, Ok, Err, length, map, option_map, slice_get}
use Rattle.room_keepers.specs.Faults.{IsCounted}
use Rattle.room_keepers.specs.declared.fault.KeepFault.{KeepFault}
use Rattle.room_ports.specs.Counts.{HasRisen}
use Rattle.room_halls.specs.declared.hall.HallFault.{HallFault}
use Rattle.room_halls.specs.declared.hall.HallFault.TheVariants.{Failed, Memory}
use Rattle.otio_json.specs.declared.opening.Opening.{Opening}
use Rattle.room_core.specs.Projection.{of_station}
use Rattle.timecode12.specs.Numbers.{Counted}
use Rattle.station_sessions.specs.declared.serve.End.{End}
use Rattle.command_files.specs.declared.status.Status.{Status}
use Rattle.command_files.specs.declared.status.Status.TheVariants.{NotSeated, OutOfMemory}
use Rattle.room_halls.specs.Stations.{HallTold}
use Rattle.served_rooms.specs.Halls.{first_fault, line_at, status_of}
use Rattle.served_rooms.specs.Origins.{CanBegin, origin_of}
use Rattle.station_sessions.specs.Outside.{Outside}
use Rattle.station_sessions.specs.Rooms.{AreWritten, History}
use Rattle.station_sessions.specs.Served.{IsRoomOf, Knows, KnowsBut}
use Rattle.station_sessions.specs.Serving.{SessionEnds}
use Rattle.station_sessions.specs.SessionInside.{Holding, IsOrigin, TrackPass, TrackRoom}

-- a station with its pass and its line, how its session ended, and what it knows of what keeps the room's journal
pub record SeatedState : Type 0 where
  pub pass : Option TrackPass
  pub line : Outside
  pub end : End
  pub holding : Holding

-- the station has its pass, with which a session can begin
abbrev pub IsReady : TrackRoom → Option TrackPass → Type 0
IsReady room None = ⊥
IsReady room (Some pass) = CanBegin room pass

-- What is left of a station when its session has ended: its pass, how it ended, and what it knows of what keeps the room's
-- journal.
pub record LeftState : Type 0 where
  pub pass : TrackPass
  pub end : End
  pub holding : Holding

-- The station of this number was served over its line, in a room that goes on from these entries, and left this: what its
-- pass knows tells what the session answered, and the station's own entries can be written. `may_fail` says how keeping the
-- journal may fail at all.
pub record IsServedOf (o : Opening) (kept : History) (may_fail : KeepFault → Type 0) (number : ℕ) (left : LeftState) (old new : Outside) : Type 0 where
  pub ends : SessionEnds (Knows o (origin_of kept number) number left.pass.entries left.holding.held)
      (KnowsBut o (origin_of kept number) number left.pass.entries left.holding.held)
      (λ fault. may_fail fault × IsCounted fault left.holding.failures) old new left.end
  pub written : AreWritten (of_station number left.pass.entries)

-- where what keeps the journal held so many entries when it was not asked yet, and may fail so
module _ (room : TrackRoom) (counting : Counted) (start : ℕ) (holds : ℕ) (may_fail : KeepFault → Type 0) where
  -- the station that began with this pass was served so, whatever its room goes on from
  abbrev pub WasServed : TrackPass → LeftState → Outside → Outside → Type 0
  WasServed before left old new = (o : Opening) (kept : History) → IsRoomOf o room counting start → IsOrigin (origin_of kept before.number) before
      → length kept ≤ holds → IsServedOf o kept may_fail before.number left old new

  -- Stations that began with these passes were served over the lines of a hall, all at once, and this is left of them.
  pub record HaveServed (passes : List TrackPass) (left : List LeftState) (old new : HallTold) (status : Status) : Type 0 where
    pub count : length left ≡ length passes
    pub numbers : (k : ℕ) (l : LeftState) → slice_get left k ≡ Some l → l.pass.number ≡ k
    pub each : (k : ℕ) (p : TrackPass) (l : LeftState) → slice_get passes k ≡ Some p → slice_get left k ≡ Some l
        → WasServed p l (line_at old k) (line_at new k)
    pub others : (s : ℕ) → length passes ≤ s → line_at new s ≡ line_at old s
    pub status_is : status ≡ first_fault (map (λ l. status_of l.end) left)
    pub quiet : new.faults ≡ old.faults

  -- the station was served, and has its pass again
  abbrev pub SeatServed : Option TrackPass → Option TrackPass → SeatedState → SeatedState → Type 0
  SeatServed (Some before) (Some after) old new = (after.number ≡ before.number)
      × WasServed before (record { pass = after; end = new.end; holding = new.holding }) old.line new.line
  SeatServed (Some before) None old new = ⊥
  SeatServed None after old new = ⊥

  abbrev pub IsServedIn : SeatedState → SeatedState → Type 0
  IsServedIn old new = SeatServed old.pass new.pass old new

-- the station has this number
abbrev pub HasNumber : ℕ → Option TrackPass → Type 0
HasNumber number None = ⊥
HasNumber number (Some pass) = pass.number ≡ number

-- the station of this number has the pass of its place, and its line stands as the hall tells of it
pub record IsSeated (hall : HallTold) (passes : List TrackPass) (number : ℕ) (seat : SeatedState) : Type 0 where
  pub pass : TrackPass
  pub pass_is : seat.pass ≡ Some pass
  pub at_place : slice_get passes number ≡ Some pass
  pub line : seat.line ≡ line_at hall number

abbrev pub AreSeated : HallTold → List TrackPass → List SeatedState → Type 0
AreSeated hall passes seats = (k : ℕ) (s : SeatedState) → slice_get seats k ≡ Some s → IsSeated hall passes k s

-- Each station that has one of these passes is seated, over its line as the hall told of it before, and nothing else has
-- changed of what it tells of stations.
pub record HasSeated (before after : HallTold) (passes : List TrackPass) (seats : List SeatedState) : Type 0 where
  pub seated : AreSeated before passes seats
  pub count : length seats ≡ length passes
  pub held : (k : ℕ) → k < length seats → (after.station k).seated ≡ true
  pub free : (k : ℕ) → length seats ≤ k → after.station k ≡ before.station k
  pub quiet : after.faults ≡ before.faults

-- the passes of the stations from 0 on, with which their sessions can begin
abbrev pub CanAllBegin : TrackRoom → List TrackPass → Type 0
CanAllBegin room passes = (k : ℕ) (p : TrackPass) → slice_get passes k ≡ Some p → (p.number ≡ k) × CanBegin room p

-- the passes of the stations from 0 on
abbrev pub AreNumbered : List TrackPass → Type 0
AreNumbered passes = (k : ℕ) (p : TrackPass) → slice_get passes k ≡ Some p → p.number ≡ k

-- the passes of the stations from 0 on, each with the entries that were kept, after which its station has none
abbrev pub AreOrigins : History → List TrackPass → Type 0
AreOrigins kept passes = (k : ℕ) (p : TrackPass) → slice_get passes k ≡ Some p → (p.number ≡ k) × IsOrigin (origin_of kept p.number) p

-- what is left of a seat that has its pass
abbrev pub left_of : SeatedState → Option LeftState
left_of seat = option_map (λ pass. record { pass = pass; end = seat.end; holding = seat.holding }) seat.pass

-- seating all stations is counted where it failed
abbrev pub CountsSeats : Result (Unit {0}) HallFault → ℕ → ℕ → Type 0
CountsSeats (Ok _) before after = after ≡ before
CountsSeats (Err Failed) before after = HasRisen before after
CountsSeats (Err Memory) before after = after ≡ before

-- the status where a station was not seated
abbrev pub unseated : HallFault → Status
unseated Failed = NotSeated
unseated Memory = OutOfMemory
