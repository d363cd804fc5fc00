-- The journal of a closed room tells what each of the stations that were served in it was answered.
use Rattle.std.proofs.Common.{◌≡◌, ℕ, zero, suc, ◌+◌, ◌<◌, ◌≤◌, ◌⊎◌, inl, inr, Bool, true, false, cond, ◌==◌, List, [], ◌∷◌, ◌++◌, All, length, map, slice_get, Some, refl, sym, ap, ◌∙◌, arith, subst, ⊎_elim}
use Rattle.std.proofs.lemmas.Bool.Decides.{nat_tests}
use Rattle.std.proofs.lemmas.List.{append-nil, length-map, map-append}
use Rattle.std.proofs.lemmas.List.Elements.{All-nil}
use Rattle.std.proofs.lemmas.Option.{none-some, same_Some, slice_get_within}
use Rattle.cut_steps.specs.CutSteps.{CutStep, KeptTrack, stepping, fresh_tracks}
use Rattle.line_words.specs.Lines.{Line as InputLine}
use Rattle.composables.specs.declared.media.Table.{Table}
use Rattle.timecode12.specs.Numbers.{Counted}
use Rattle.edit_journal.specs.declared.name.Name.TheVariants.{Station}
use Rattle.edit_journal.specs.Seats.{Agrees, Begins, In}
use Rattle.room_core.specs.declared.entry.Entry.{Entry}
use Rattle.room_core.specs.History.{IsLegal}
use Rattle.room_core.specs.Projection.{of_station}
use Rattle.room_core.specs.Whole.{whole}
use Rattle.room_halls.specs.Stations.{HallTold}
use Rattle.room_keepers.specs.Faults.{IsCounted}
use Rattle.room_keepers.specs.declared.fault.KeepFault.{KeepFault}
use Rattle.room_keepers.specs.declared.fault.KeepFault.TheVariants.{Disk, Memory}
use Rattle.line_table.specs.CallTexts.{IsSmall, IsWrittenStep}
use Rattle.journal_text.specs.Journals.{HasText}
use Rattle.otio_json.specs.declared.opening.Opening.{Opening}
use Rattle.command_files.specs.declared.status.Status.{Status}
use Rattle.station_sessions.specs.declared.serve.End.{End}
use Rattle.station_sessions.specs.declared.serve.End.TheVariants as end
use Rattle.station_sessions.specs.Outside.{Outside}
use Rattle.station_sessions.specs.Rooms.{AreWritten, History, RoomTranscriptBut, RoomTranscriptTo, Setting, room_of, setting_of}
use Rattle.station_sessions.specs.Served.{IsRoomOf, Knows, KnowsBut}
use Rattle.station_sessions.specs.Serving.{SessionEnds}
use Rattle.station_sessions.specs.SessionInside.{TrackPass, TrackRoom}
use Rattle.served_rooms.specs.Closed.{Closes, IsClosedBy}
use Rattle.served_rooms.specs.Halls.{SessionsEnd, TellsStation, TellsStationBut, first_fault, line_at, status_of}
use Rattle.served_rooms.specs.Origins.{origin_of}
use Rattle.served_rooms.specs.Seated.{AreOrigins, HaveServed, IsServedOf, LeftState}
use Rattle.served_rooms.specs.Stations.{AreOfStations}
use Rattle.served_rooms.proofs.Seating.{at_place, some_at}
use Rattle.served_rooms.proofs.Sound.{has_text, stay_sound}
use Rattle.station_sessions.proofs.Knowing.{session_told}
use Rattle.station_sessions.proofs.Transcripts.{broken_more, transcript_more}

-- ---- entries that can be written

first_of : (b : Bool) (e : Entry CutStep) (own : History) → b ≡ true → AreWritten (cond b (e ∷ own) own) → IsSmall e.number × (e.call.by ≡ e.station) × IsWrittenStep e.call
first_of true e own is w = w.0
first_of false e own is w = absurd (grind (arith, is))

rest_of : (b : Bool) (e : Entry CutStep) (own : History) → AreWritten (cond b (e ∷ own) own) → AreWritten own
rest_of true e own w = w.1
rest_of false e own w = w

same : (n : ℕ) → (n == n) ≡ true
same n = Prim.grind (arith, nat_tests)

-- where each station's own entries can be written, all can
all_written : (stations : ℕ) (h : History) → AreOfStations stations h → ((s : ℕ) → s < stations → AreWritten (of_station s h)) → AreWritten h
all_written stations [] seated all = tt
all_written stations (e ∷ es) seated all = (
  first_of (e.station == e.station) e (of_station e.station es) (same e.station) (all e.station seated.0),
  all_written stations es seated.1 (λ s low. rest_of (e.station == s) e (of_station s es) (all s low)),
)

-- ---- one station

-- what is known where the journal could not be kept, told in another way
pub unkept_told : (T : List InputLine → (List (List ℕ) → Type 0) → Type 0) (B : List InputLine → InputLine → (List (List ℕ) → Type 0) → Type 0) (V W : KeepFault → Type 0) (old new : Outside) (e : End)
    → ((fault : KeepFault) → V fault → W fault) → SessionEnds T B V old new e → SessionEnds T B W old new e
unkept_told T B V W old new end.Ended f h = h
unkept_told T B V W old new end.ReadFault f h = h
unkept_told T B V W old new end.WriteFault f h = h
unkept_told T B V W old new end.TooMuchInput f h = h
unkept_told T B V W old new end.DiskFault f h = (f Disk h.0, h.1, h.2)
unkept_told T B V W old new end.KeepMemory f h = (f Memory h.0, h.1, h.2)

module _ (o : Opening) (kept : History) (stations s known held : ℕ) (g h : History) (c : Closes o stations s g h) (more : known ≤ held) where
  tells_station : (ls : List InputLine) (Taken : List (List ℕ) → Type 0) → Knows o (origin_of kept s) s g known ls Taken → TellsStation o kept h held s ls Taken
  tells_station ls Taken k =
      let there : RoomTranscriptTo o (g ++ c.more) (origin_of kept s) s ls k.0 k.1 =
      transcript_more (room_of (setting_of o)) (fresh_tracks o.tracks) g c.more (origin_of kept s) s ls k.0 k.1 (rw (← c.journal) c.legal.within) (ap (λ (l : History). of_station s l) (sym c.journal) ∙ c.own) [] k.2 in
      (k.0, k.1, rw c.journal there, omega (arith, k.3, more), k.5)

  tells_but : (ls : List InputLine) (line : InputLine) (Taken : List (List ℕ) → Type 0) → KnowsBut o (origin_of kept s) s g known ls line Taken → TellsStationBut o kept h held s ls line Taken
  tells_but ls line Taken k =
      let there : RoomTranscriptBut o (g ++ c.more) (origin_of kept s) s ls k.0 k.1 line =
      broken_more (room_of (setting_of o)) (fresh_tracks o.tracks) g c.more (origin_of kept s) s ls k.0 k.1 (rw (← c.journal) c.legal.within) (ap (λ (l : History). of_station s l) (sym c.journal) ∙ c.own) line k.2 in
      (k.0, k.1, rw c.journal there, omega (arith, k.3, more), k.5)

  station_ends : (V Fails : KeepFault → Type 0) → ((fault : KeepFault) → V fault → Fails fault) → (old new : Outside) (e : End)
      → SessionEnds (Knows o (origin_of kept s) s g known) (KnowsBut o (origin_of kept s) s g known) V old new e
      → SessionEnds (TellsStation o kept h held s) (TellsStationBut o kept h held s) Fails old new e
  station_ends V Fails fails old new e ended =
      session_told (Knows o (origin_of kept s) s g known) (TellsStation o kept h held s) (KnowsBut o (origin_of kept s) s g known) (TellsStationBut o kept h held s) Fails tells_station tells_but old new e
      (unkept_told (Knows o (origin_of kept s) s g known) (KnowsBut o (origin_of kept s) s g known) V Fails old new e fails ended)

-- ---- all stations

some_end : (left : List LeftState) (n : ℕ) (e : End) → slice_get (map (λ (l : LeftState). l.end) left) n ≡ Some e → (l : LeftState) × (slice_get left n ≡ Some l) × (l.end ≡ e)
some_end [] n e at = absurd (none-some e at)
some_end (x ∷ xs) zero e at = (x, refl, same_Some x.end e at)
some_end (x ∷ xs) (suc n) e at = some_end xs n e at

statuses : (left : List LeftState) → map (λ (l : LeftState). status_of l.end) left ≡ map status_of (map (λ (l : LeftState). l.end) left)
statuses [] = refl
statuses (l ∷ ls) = ap (λ (ss : List Status). status_of l.end ∷ ss) (statuses ls)

-- Stations were served in a room that goes on from the entries that were kept, and this is its journal when it is closed.
module _ (o : Opening) (kept : History) (room : TrackRoom) (counting : Counted) (start holds : ℕ) (may_fail : KeepFault → Type 0) (passes : List TrackPass) (left : List LeftState)
    (before after : HallTold) (status : Status) (served : HaveServed room counting start holds may_fail passes left before after status) (is : IsRoomOf o room counting start)
    (origins : AreOrigins kept passes) (fits : length kept ≤ holds) (h : History) (closed : IsClosedBy room left h) where
  served_at : (k : ℕ) (l : LeftState) → slice_get left k ≡ Some l → IsServedOf o kept may_fail k l (line_at before k) (line_at after k)
  served_at k l at =
      let n = slice_get_within left k l at in
      let p = some_at passes k (omega (arith, n, served.count)) in
      let from = origins k p.0 p.1 in
      subst (λ (x : ℕ). IsServedOf o kept may_fail x l (line_at before k) (line_at after k)) from.0 (served.each k p.0 l p.1 at o kept is from.1 fits)

  same_table : room.object.object.table ≡ o.table
  same_table = ap (λ (s : Setting). s.table) is.setting

  legal : IsLegal (whole (stepping o.table)) (fresh_tracks o.tracks) h
  legal = subst (λ (x : Table × List KeptTrack). IsLegal (whole (stepping x.0)) x.1 h) (λ i. (same_table i, is.tracks i)) closed.legal

  closes_at : (k : ℕ) (l : LeftState) → slice_get left k ≡ Some l → Closes o (length left) k l.pass.entries h
  closes_at k l at =
      let agrees : Agrees (stepping o.table).names h (Station k) l.pass.entries = subst (λ (x : Table). Agrees (stepping x).names h (Station k) l.pass.entries) same_table (closed.agree k l at) in
      record { opens = is.opens; legal = legal; seated = closed.seated; more = agrees.front.0; journal = agrees.front.1; own = sym agrees.same }

  written : AreWritten h
  written = all_written (length left) h closed.seated (λ s low. one s (some_at left s low))
    where
      one : (s : ℕ) → (l : LeftState) × (slice_get left s ≡ Some l) → AreWritten (of_station s h)
      one s l = subst AreWritten (sym (closes_at s l.0 l.1).own) (served_at s l.0 l.1).written

  -- its text is read again
  pub ended_text : length passes ≤ 16 → HasText h
  ended_text few = has_text o (length left) h (omega (arith, few, served.count)) legal closed.seated written

  -- and it tells what each of them was answered
  pub sessions_end : (stations held : ℕ) (Fails : KeepFault → Type 0) → length passes ≡ stations → stations ≤ 16 → Begins h kept
      → ((k : ℕ) (l : LeftState) → slice_get left k ≡ Some l → l.holding.held ≤ held)
      → ((k : ℕ) (l : LeftState) (fault : KeepFault) → slice_get left k ≡ Some l → may_fail fault → IsCounted fault l.holding.failures → Fails fault)
      → SessionsEnd o kept stations h held Fails before after status
  sessions_end stations held Fails count few begins more fails =
      record {
        ends = map (λ (l : LeftState). l.end) left;
        served = record {
          journal = record {
            legal = legal;
            seated = subst (λ (n : ℕ). AreOfStations n h) all closed.seated;
            text = ended_text (omega (arith, few, count));
            sound = stay_sound o h is.opens legal;
          };
          begins = begins;
          count = length-map left (λ (l : LeftState). l.end) ∙ all;
          each = λ s e at. end_at s e (some_end left s e at);
          others = λ s high. served.others s (omega (arith, high, count));
        };
        status_is = served.status_is ∙ ap first_fault (statuses left);
        quiet = served.quiet;
      }
    where
      all : length left ≡ stations
      all = served.count ∙ count

      end_at : (s : ℕ) (e : End) → (l : LeftState) × (slice_get left s ≡ Some l) × (l.end ≡ e)
          → SessionEnds (TellsStation o kept h held s) (TellsStationBut o kept h held s) Fails (line_at before s) (line_at after s) e
      end_at s e l =
          subst (λ (x : End). SessionEnds (TellsStation o kept h held s) (TellsStationBut o kept h held s) Fails (line_at before s) (line_at after s) x) l.2
          (station_ends o kept (length left) s l.0.holding.held held l.0.pass.entries h (closes_at s l.0 l.1) (more s l.0 l.1)
          (λ fault. may_fail fault × IsCounted fault l.0.holding.failures) Fails (λ fault u. fails s l.0 fault l.1 u.0 u.1)
          (line_at before s) (line_at after s) l.0.end (served_at s l.0 l.1).ends)

-- ---- the passes with which a room is closed

-- a pass of a station that has no entry
pub record IsReader (stations : ℕ) (h : History) (p : TrackPass) : Type 0 where
  pub number : stations ≤ p.number
  pub none : of_station p.number h ≡ []

in_append : {A : Type 0} (x : A) (xs ys : List A) → In x (xs ++ ys) → In x xs ⊎ In x ys
in_append x [] ys i = inr i
in_append x (z ∷ zs) ys (inl e) = inl (inl e)
in_append x (z ∷ zs) ys (inr i) = ⊎_elim (λ (j : In x zs). inl (inr j)) (λ (j : In x ys). inr j) (in_append x zs ys i)

-- the number of a place
in_range : (left : List LeftState) (from s : ℕ) → ((k : ℕ) (l : LeftState) → slice_get left k ≡ Some l → l.pass.number ≡ from + k)
    → In s (map (λ (p : TrackPass). p.number) (map (λ (l : LeftState). l.pass) left)) → s < from + length left
in_range [] from s numbers i = absurd i
in_range (l ∷ ls) from s numbers i =
    ⊎_elim (λ (e : s ≡ l.pass.number). let n = numbers 0 l refl in omega (arith, e, n))
    (λ (h : In s (map (λ (p : TrackPass). p.number) (map (λ (x : LeftState). x.pass) ls))). let low = in_range ls (from + 1) s (λ k x at. let n = numbers (suc k) x at in omega (arith, n)) h in omega (arith, low)) i

number_in : (ps : List TrackPass) (s : ℕ) → In s (map (λ (p : TrackPass). p.number) ps) → (p : TrackPass) × (k : ℕ) × (slice_get ps k ≡ Some p) × (s ≡ p.number)
number_in [] s i = absurd i
number_in (p ∷ ps) s (inl e) = (p, 0, refl, e)
number_in (p ∷ ps) s (inr i) = let r = number_in ps s i in (r.0, suc r.1, r.2, r.3)

-- an entry of a station that has none
has_entry : (h : History) (k : ℕ) (e : Entry CutStep) → slice_get h k ≡ Some e → of_station e.station h ≡ [] → ⊥
has_entry [] k e at none = none-some e at
has_entry (x ∷ xs) zero e at none =
    let own : of_station x.station (x ∷ xs) ≡ x ∷ of_station x.station xs = ap (λ (b : Bool). cond b (x ∷ of_station x.station xs) (of_station x.station xs)) (same x.station) in
    let n = ap length (sym own ∙ subst (λ (y : Entry CutStep). of_station y.station (x ∷ xs) ≡ []) (sym (same_Some x e at)) none) in
    absurd (omega (arith, n))
has_entry (x ∷ xs) (suc k) e at none = has_entry xs k e at (rest_none (x.station == e.station) none)
  where
    rest_none : (b : Bool) → cond b (x ∷ of_station e.station xs) (of_station e.station xs) ≡ [] → of_station e.station xs ≡ []
    rest_none true n = let m = ap length n in absurd (omega (arith, m))
    rest_none false n = n

of_stations : (stations : ℕ) (h : History) → ((k : ℕ) (e : Entry CutStep) → slice_get h k ≡ Some e → e.station < stations) → AreOfStations stations h
of_stations stations [] low = tt
of_stations stations (e ∷ es) low = (low 0 e refl, of_stations stations es (λ k d at. low (suc k) d at))

left_place : (left : List LeftState) (more : List TrackPass) (k : ℕ) (l : LeftState) → slice_get left k ≡ Some l → slice_get (map (λ (x : LeftState). x.pass) left ++ more) k ≡ Some l.pass
left_place [] more k l at = absurd (none-some l at)
left_place (x ∷ xs) more zero l at = ap (λ (y : LeftState). Some y.pass) (same_Some x l at)
left_place (x ∷ xs) more (suc k) l at = left_place xs more k l at

-- A room that is closed with the passes that are left of its stations, which are all that have entries, and with those of
-- readers.
pub closed_by : (room : TrackRoom) (left : List LeftState) (more passes : List TrackPass) (h : History) → passes ≡ map (λ (l : LeftState). l.pass) left ++ more
    → ((k : ℕ) (l : LeftState) → slice_get left k ≡ Some l → l.pass.number ≡ k) → All (IsReader (length left) h) more → IsLegal (whole (stepping room.object.object.table)) room.parts h
    → All (λ (p : TrackPass). Agrees (stepping room.object.object.table).names h (Station p.number) p.entries) passes → All (λ (e : Entry CutStep). In e.station (map (λ (p : TrackPass). p.number) passes)) h
    → IsClosedBy room left h
closed_by room left more passes h are numbers readers is agree stations = record {
  legal = is;
  agree = λ k l at. subst (λ (n : ℕ). Agrees (stepping room.object.object.table).names h (Station n) l.pass.entries) (numbers k l at)
      (at_place (λ (p : TrackPass). Agrees (stepping room.object.object.table).names h (Station p.number) p.entries) passes k l.pass agree
      (subst (λ (ps : List TrackPass). slice_get ps k ≡ Some l.pass) (sym are) (left_place left more k l at)));
  seated = of_stations (length left) h low;
}
  where
    reads : (k : ℕ) (e : Entry CutStep) → slice_get h k ≡ Some e → (p : TrackPass) × (j : ℕ) × (slice_get more j ≡ Some p) × (e.station ≡ p.number) → ⊥
    reads k e at (p, j, there, is) =
        let reader = at_place (IsReader (length left) h) more j p readers there in
        has_entry h k e at (subst (λ (n : ℕ). of_station n h ≡ []) (sym is) reader.none)

    low : (k : ℕ) (e : Entry CutStep) → slice_get h k ≡ Some e → e.station < length left
    low k e at =
        let mine : In e.station (map (λ (p : TrackPass). p.number) (map (λ (l : LeftState). l.pass) left ++ more)) =
        subst (λ (ps : List TrackPass). In e.station (map (λ (p : TrackPass). p.number) ps)) are (at_place (λ (x : Entry CutStep). In x.station (map (λ (p : TrackPass). p.number) passes)) h k e stations at) in
        let split = in_append e.station (map (λ (p : TrackPass). p.number) (map (λ (l : LeftState). l.pass) left)) (map (λ (p : TrackPass). p.number) more)
        (subst (λ (ns : List ℕ). In e.station ns) (map-append (λ (p : TrackPass). p.number) (map (λ (l : LeftState). l.pass) left) more) mine) in
        ⊎_elim
        (λ (i : In e.station (map (λ (p : TrackPass). p.number) (map (λ (l : LeftState). l.pass) left))). let low = in_range left 0 e.station (λ j l there. numbers j l there ∙ omega arith) i in omega (arith, low))
        (λ (i : In e.station (map (λ (p : TrackPass). p.number) more)). absurd (reads k e at (number_in more e.station i))) split

-- or with those of its stations alone
pub closed_alone : (room : TrackRoom) (left : List LeftState) (passes : List TrackPass) (h : History) → passes ≡ map (λ (l : LeftState). l.pass) left
    → ((k : ℕ) (l : LeftState) → slice_get left k ≡ Some l → l.pass.number ≡ k) → IsLegal (whole (stepping room.object.object.table)) room.parts h
    → All (λ (p : TrackPass). Agrees (stepping room.object.object.table).names h (Station p.number) p.entries) passes → All (λ (e : Entry CutStep). In e.station (map (λ (p : TrackPass). p.number) passes)) h
    → IsClosedBy room left h
closed_alone room left passes h are numbers is agree stations =
    closed_by room left [] passes h (are ∙ sym (append-nil (map (λ (l : LeftState). l.pass) left))) numbers (All-nil (IsReader (length left) h)) is agree stations

-- each station is among those that are left
pub all_in : (stations s : ℕ) (left : List LeftState) (passes : List TrackPass) → passes ≡ map (λ (l : LeftState). l.pass) left
    → ((k : ℕ) (l : LeftState) → slice_get left k ≡ Some l → l.pass.number ≡ k) → stations ≡ length left → s < stations → In s (map (λ (p : TrackPass). p.number) passes)
all_in stations s left passes are numbers count low =
    subst (λ (ps : List TrackPass). In s (map (λ (p : TrackPass). p.number) ps)) (sym are) (there (some_at left s (omega (arith, low, count))))
  where
    has_number : (xs : List LeftState) (k : ℕ) (l : LeftState) → slice_get xs k ≡ Some l → In l.pass.number (map (λ (p : TrackPass). p.number) (map (λ (x : LeftState). x.pass) xs))
    has_number [] k l at = absurd (none-some l at)
    has_number (x ∷ xs) zero l at = inl (ap (λ (y : LeftState). y.pass.number) (sym (same_Some x l at)))
    has_number (x ∷ xs) (suc k) l at = inr (has_number xs k l at)

    there : (l : LeftState) × (slice_get left s ≡ Some l) → In s (map (λ (p : TrackPass). p.number) (map (λ (x : LeftState). x.pass) left))
    there (l, at) = subst (λ (n : ℕ). In n (map (λ (p : TrackPass). p.number) (map (λ (x : LeftState). x.pass) left))) (numbers s l at) (has_number left s l at)

-- the most entries that any of them knows to be kept
pub most_held : (left : List LeftState) → (held : ℕ) × ((k : ℕ) (l : LeftState) → slice_get left k ≡ Some l → l.holding.held ≤ held)
most_held [] = (0, λ k l at. absurd (none-some l at))
most_held (x ∷ xs) = let rest = most_held xs in (x.holding.held + rest.0, most_of rest.0 rest.1)
  where
    most_of : (n : ℕ) → ((k : ℕ) (l : LeftState) → slice_get xs k ≡ Some l → l.holding.held ≤ n) → (k : ℕ) (l : LeftState) → slice_get (x ∷ xs) k ≡ Some l → l.holding.held ≤ x.holding.held + n
    most_of n each zero l at = let m = ap (λ (y : LeftState). y.holding.held) (same_Some x l at) in omega (arith, m)
    most_of n each (suc k) l at = let m = each k l at in omega (arith, m)
