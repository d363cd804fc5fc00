-- A session that begins, and what it answered told by what its station knows.
use Rattle.std.proofs.Common.{◌≡◌, ℕ, max, ◌+◌, ◌<◌, ◌≤◌, Bool, true, false, cond, eqb, List, [], ◌∷◌, fold, Some, refl, sym, ap, arith, subst}
use Rattle.cut_steps.specs.CutSteps.{KeptTrack, stepping, fresh_tracks}
use Rattle.timecode12.specs.Numbers.{Counted}
use Rattle.line_words.specs.Lines.{Line as InputLine}
use Rattle.composables.specs.declared.media.Table.{Table}
use Rattle.edit_journal.specs.Turns.{last_of}
use Rattle.room_core.specs.declared.entry.Entry.{Entry}
use Rattle.room_core.specs.History.{IsLegal, replay}
use Rattle.room_core.specs.Projection.{of_station}
use Rattle.room_core.specs.Whole.{whole}
use Rattle.otio_json.specs.declared.opening.Opening.{Opening}
use Rattle.station_sessions.specs.declared.serve.End.{End}
use Rattle.station_sessions.specs.declared.serve.End.TheVariants as end
use Rattle.room_keepers.specs.declared.fault.KeepFault.{KeepFault}
use Rattle.station_sessions.specs.Outside.{Outside}
use Rattle.station_sessions.specs.Rooms.{History, Setting, AreWritten, IsLegalIn, room_of}
use Rattle.station_sessions.specs.Transcript.{Origin, TranscriptTo, TranscriptBut, most_base, new_room}
use Rattle.station_sessions.specs.Session.{StationState}
use Rattle.station_sessions.specs.SessionInside.{Holding, IsLegalThere, IsOrigin, TrackPass, TrackRoom, session_at, tracks_at}
use Rattle.station_sessions.specs.Served.{Breaks, BreaksTo, IsBegun, IsRoomOf, Knows, KnowsBut, OwnBefore, Served, Serves, ServesTo, StaysWritten}
use Rattle.station_sessions.specs.Serving.{SessionEnds}
use Rattle.station_sessions.proofs.Inputs.{got_map, stops_map}
use Rattle.station_sessions.proofs.Replying.{comes}
use Rattle.station_sessions.proofs.Serving.{served_none, transcript_served}

-- entries of lines before this one, by the last number of the station
least_max : {C : Type 0} (es : List (Entry C)) (m : ℕ) → m ≤ fold (λ m e. max m e.number) m es
least_max [] m = omega arith
least_max (e ∷ es) m = omega (arith, least_max es (max m e.number))

own_by : {C : Type 0} (station line m : ℕ) (e : Entry C) (es : List (Entry C)) (b : Bool) → eqb e.station station ≡ b → fold (λ m e. max m e.number) m (cond b (e ∷ of_station station es) (of_station station es)) < line
    → ((n : ℕ) → fold (λ m e. max m e.number) n (of_station station es) < line → OwnBefore station line es) → OwnBefore station line (e ∷ es)
own_by station line m e es true is h rest = (
  (λ same. omega (arith, h, least_max (of_station station es) (max m e.number))),
  rest (max m e.number) h,
)
own_by station line m e es false is h rest = ((λ same. absurd (grind (arith, is, same))), rest m h)

own_before : {C : Type 0} (station line m : ℕ) (h : List (Entry C)) → fold (λ m e. max m e.number) m (of_station station h) < line → OwnBefore station line h
own_before station line m [] less = tt
own_before station line m (e ∷ es) less = own_by station line m e es (eqb e.station station) refl less (λ n h. own_before station line n es h)

-- in a room that was opened from this opening
legal_in : (o : Opening) (room : TrackRoom) (counting : Counted) (start : ℕ) (h : History) → IsRoomOf o room counting start → IsLegalThere room h → IsLegalIn o h
legal_in o room counting start h is legal =
    let table : room.object.object.table ≡ o.table = ap (λ (s : Setting). s.table) is.setting in
    subst (λ (x : Table × List KeptTrack). IsLegal (whole (stepping x.0)) x.1 h) (λ i. (table i, is.tracks i)) legal

comes_in : (o : Opening) (room : TrackRoom) (counting : Counted) (start : ℕ) (h : History) (tracks : List KeptTrack) → IsRoomOf o room counting start
    → replay (whole (stepping room.object.object.table)) room.parts h ≡ Some tracks → replay (whole (stepping o.table)) (fresh_tracks o.tracks) h ≡ Some tracks
comes_in o room counting start h tracks is comes =
    let table : room.object.object.table ≡ o.table = ap (λ (s : Setting). s.table) is.setting in
    subst (λ (x : Table × List KeptTrack). replay (whole (stepping x.0)) x.1 h ≡ Some tracks) (λ i. (table i, is.tracks i)) comes

pub begun_session : (o : Opening) (from : Origin) (room : TrackRoom) (pass : TrackPass) (counting : Counted) (start line : ℕ) → IsRoomOf o room counting start
    → (holding : Holding) → IsLegalThere room pass.entries → IsOrigin from pass → from.kept ≤ holding.held → line ≡ last_of pass.number pass.entries + 1
    → IsBegun o from pass.number (session_at room (Some pass) counting start holding line)
begun_session o from room pass counting start line is holding legal origin held next = record {
  setting = is.setting;
  station = refl;
  opening = is.tracks;
  legal = legal_in o room counting start pass.entries is legal;
  tracks = comes_in o room counting start pass.entries (tracks_at room pass.entries) is (comes room pass.entries legal);
  kept = origin.kept;
  none = origin.none;
  before = own_before pass.number (from.base + 1) 0 pass.entries (omega (arith, origin.base));
  held = held;
  line = omega (arith, next, origin.base);
  written = origin.written;
}

-- in a room that has just been opened
pub fresh_origin : (pass : TrackPass) → pass.entries ≡ [] → IsOrigin new_room pass
fresh_origin pass none = record { kept = omega arith; none = rw none refl; base = rw none refl; written = rw none tt }

pub fresh_legal : (room : TrackRoom) (pass : TrackPass) → pass.entries ≡ [] → IsLegalThere room pass.entries
fresh_legal room pass none = rw none (record { within = omega arith; applies = refl; rise = tt })

pub fresh_base : (pass : TrackPass) → pass.entries ≡ [] → last_of pass.number pass.entries ≤ most_base
fresh_base pass none = rw none (omega arith)

-- what a session that has begun knows later
module _ (o : Opening) (from : Origin) (station : ℕ) (a b : StationState) (f : IsBegun o from station a) where
  begun : Served (room_of a.setting) station (fresh_tracks o.tracks) from a.course [] [] from.kept
  begun =
      served_none (room_of a.setting) station (fresh_tracks o.tracks) from a.course f.opening (subst (λ (s : Setting). replay (room_of s).apply (fresh_tracks o.tracks) a.course.journal ≡ Some a.course.state) (sym f.setting) f.tracks)
      f.kept f.none f.before f.held f.line f.legal.rise f.legal.within

  still_written : StaysWritten a b → AreWritten (of_station station b.course.journal)
  still_written written = subst (λ (n : ℕ). AreWritten (of_station n a.course.journal) → AreWritten (of_station n b.course.journal)) f.station written f.written

  -- what it answered its pass tells
  knows_by : (ls : List InputLine) (Taken : List (List ℕ) → Type 0) → ServesTo a b ls Taken → Knows o from station b.course.journal b.course.held ls Taken
  knows_by ls Taken g =
      let serves : Serves (room_of a.setting) station a.course b.course ls Taken = subst (λ (n : ℕ). Serves (room_of a.setting) n a.course b.course ls Taken) f.station g.serves in
      let t = serves (fresh_tracks o.tracks) from [] [] from.kept begun in (
        t.0,
        t.1,
        subst (λ (s : Setting). TranscriptTo (room_of s) (fresh_tracks o.tracks) b.course.journal from station ls t.0 t.1 []) f.setting (transcript_served (room_of a.setting) station (fresh_tracks o.tracks) from b.course ls t.0 t.1 t.2),
        t.2.held,
        still_written g.written,
        t.3,
      )

  -- also with one line more, whose reply was not sent
  knows_but : (ls : List InputLine) (l : InputLine) (Taken : List (List ℕ) → Type 0) → BreaksTo a b ls l Taken → KnowsBut o from station b.course.journal b.course.held ls l Taken
  knows_but ls l Taken g =
      let breaks : Breaks (room_of a.setting) station a.course b.course ls l Taken = subst (λ (n : ℕ). Breaks (room_of a.setting) n a.course b.course ls l Taken) f.station g.breaks in
      let t = breaks (fresh_tracks o.tracks) from [] [] from.kept begun in (
        t.0,
        t.1,
        subst (λ (s : Setting). TranscriptBut (room_of s) (fresh_tracks o.tracks) b.course.journal from station ls t.0 t.1 l) f.setting t.2,
        t.3,
        still_written g.written,
        t.4,
      )

module _ (T U : List InputLine → (List (List ℕ) → Type 0) → Type 0) (B C : List InputLine → InputLine → (List (List ℕ) → Type 0) → Type 0) (Unkept : KeepFault → Type 0)
    (f : (ls : List InputLine) (Taken : List (List ℕ) → Type 0) → T ls Taken → U ls Taken) (g : (ls : List InputLine) (l : InputLine) (Taken : List (List ℕ) → Type 0) → B ls l Taken → C ls l Taken) (old new : Outside) where
  -- what a session did, told in another way
  pub session_told : (e : End) → SessionEnds T B Unkept old new e → SessionEnds U C Unkept old new e
  session_told end.Ended (quiet, h) = (quiet, got_map old new _ _ (λ got left k. (k.0, k.1, f _ _ k.2)) h)
  session_told end.ReadFault (failed, h) = (failed, got_map old new _ _ (λ got left k. (k.0, f _ _ k.1)) h)
  session_told end.WriteFault (failed, h) = (failed, got_map old new _ _ (stops_map _ _ (λ before line k. f _ _ k)) h)
  session_told end.TooMuchInput (quiet, h) = (quiet, got_map old new _ _ (λ got left k. (k.0, k.1, f _ _ k.2)) h)
  session_told end.DiskFault (fault, quiet, h) = (fault, quiet, got_map old new _ _ (stops_map _ _ (λ before line k. g _ _ _ k)) h)
  session_told end.KeepMemory (fault, quiet, h) = (fault, quiet, got_map old new _ _ (stops_map _ _ (λ before line k. g _ _ _ k)) h)

pub session_knows : (Unkept : KeepFault → Type 0) (o : Opening) (from : Origin) (station : ℕ) (a b : StationState) (old new : Outside) (e : End) → IsBegun o from station a
    → SessionEnds (ServesTo a b) (BreaksTo a b) Unkept old new e
    → SessionEnds (Knows o from station b.course.journal b.course.held) (KnowsBut o from station b.course.journal b.course.held) Unkept old new e
session_knows Unkept o from station a b old new e f ended =
    session_told (ServesTo a b) (Knows o from station b.course.journal b.course.held) (BreaksTo a b) (KnowsBut o from station b.course.journal b.course.held) Unkept
    (knows_by o from station a b f) (knows_but o from station a b f) old new e ended
