-- What the journal of a session comes to is what one station comes to which does its scripts one after another.
use Rattle.std.proofs.Common.{◌≡◌, ℕ, zero, suc, ◌+◌, ◌*◌, ◌^◌, ◌<◌, ◌≤◌, Bool, true, false, ◌==◌, cond, List, [], ◌∷◌, ◌++◌, Some, length, map, take, refl, sym, ap, subst, ◌∙◌, arith}
use Rattle.std.proofs.lemmas.Bool.Decides.{nat_tests}
use Rattle.std.proofs.lemmas.List.{map-append, take_all}
use Rattle.std.proofs.lemmas.List.FromFn.{length-map-range_with_len}
use Rattle.room_core.specs.OwnParts.{AreOfFirst, KeepToOwn, by_station, calls_of}
use Rattle.room_core.proofs.Order.{in_order, same_calls}
use Rattle.composables.specs.TrackSets.{tracks_in}
use Rattle.composables.specs.TrackState.{TrackState}
use Rattle.edit_apply.specs.Apply.{editing, names_of}
use Rattle.edit_apply.specs.RoomTracks.{IsOpening}
use Rattle.edit_calls.specs.declared.asks.Call.{Call}
use Rattle.history_points.specs.Reached.{IsReached}
use Rattle.command_files.proofs.Openings.{sound_opens}
use Rattle.otio_json.specs.Openings.{empty_track, plain_opening}
use Rattle.otio_json.specs.Soundness.{IsSoundOpening}
use Rattle.otio_json.specs.declared.opening.Opening.{Opening}
use Rattle.room_core.specs.History.{replay}
use Rattle.room_core.specs.Projection.{of_station}
use Rattle.room_core.specs.Whole.{whole}
use Rattle.room_core.specs.declared.entry.Entry.{Entry}
use Rattle.made_sessions.specs.Comparing.{HaveScripts}
use Rattle.made_sessions.specs.Scripts.{call_drawn, call_with, drawn, first_word, next_word, script, script_from, scripts}
use Rattle.made_sessions.specs.Sessions.{IsCome, done_by_one, made_opening, made_stations}

-- ---- each call of a script names the track of its station alone

first_set : tracks_in 1 ≡ 0 ∷ []
unfolding tracks_in
first_set = refl

second_set : tracks_in 2 ≡ 1 ∷ []
unfolding tracks_in
second_set = refl

third_set : tracks_in 4 ≡ 2 ∷ []
unfolding tracks_in
third_set = refl

fourth_set : tracks_in 8 ≡ 3 ∷ []
unfolding tracks_in
fourth_set = refl

one_track : (s : ℕ) → s < 4 → tracks_in (2 ^ s) ≡ s ∷ []
one_track zero low = first_set
one_track (suc zero) low = second_set
one_track (suc (suc zero)) low = third_set
one_track (suc (suc (suc zero))) low = fourth_set
one_track (suc (suc (suc (suc s)))) low = absurd (omega (arith, low))

one_name : (b : Bool) (s at from len : ℕ) → s < 4 → names_of (call_with b s at from len) ≡ s ∷ []
one_name true s at from len low = refl
one_name false s at from len low = one_track s low

abbrev NameOwn : ℕ → List Call → Type 0
NameOwn s [] = Unit {0}
NameOwn s (c ∷ cs) = (names_of c ≡ s ∷ []) × NameOwn s cs

script_names : (s place word n : ℕ) → s < 4 → NameOwn s (script_from s place word n)
script_names s place word zero low = tt
script_names s place word (suc n) low = (one_name _ s _ _ _ low, script_names s (place + 1) (next_word (next_word (next_word word))) n low)

-- ---- so each entry names the track of its station alone

first_of : (b : Bool) (s : ℕ) (e : Entry Call) (own : List (Entry Call)) → b ≡ true → NameOwn s (calls_of (cond b (e ∷ own) own)) → names_of e.call ≡ s ∷ []
first_of true s e own is n = n.0
first_of false s e own is n = absurd (Prim.grind (arith, is))

rest_of : (b : Bool) (s : ℕ) (e : Entry Call) (own : List (Entry Call)) → NameOwn s (calls_of (cond b (e ∷ own) own)) → NameOwn s (calls_of own)
rest_of true s e own n = n.1
rest_of false s e own n = n

same : (n : ℕ) → (n == n) ≡ true
same n = Prim.grind (arith, nat_tests)

keep : (stations : ℕ) (h : List (Entry Call)) → AreOfFirst stations h → ((s : ℕ) → s < stations → NameOwn s (calls_of (of_station s h))) → KeepToOwn names_of h
keep stations [] first all = tt
keep stations (e ∷ es) first all = (
  first_of (e.station == e.station) e.station e (of_station e.station es) (same e.station) (all e.station first.0),
  keep stations es first.1 (λ s low. rest_of (e.station == s) s e (of_station s es) (all s low)),
)

-- ---- the calls, station by station

calls_by : (number count n : ℕ) (h : List (Entry Call)) → ((s : ℕ) → s < n → calls_of (of_station s h) ≡ script number count s) → calls_of (by_station n h) ≡ scripts number count n
calls_by number count zero h each = refl
calls_by number count (suc n) h each =
    map-append (λ (e : Entry Call). e.call) (by_station n h) (of_station n h)
    ∙ ap (λ (cs : List Call). cs ++ calls_of (of_station n h)) (calls_by number count n h (λ s low. each s (omega (arith, low))))
    ∙ ap (λ (cs : List Call). scripts number count n ++ cs) (each n (omega arith))

calls_done : (number : ℕ) (cs : List Call) → calls_of (done_by_one number cs) ≡ cs
calls_done number [] = refl
calls_done number (c ∷ cs) = ap (λ (ds : List Call). c ∷ ds) (calls_done (number + 1) cs)

pub one_station : (o : Opening) (number count : ℕ) (h : List (Entry Call)) (tracks : List TrackState) → HaveScripts number count made_stations h
    → replay (whole (editing o.table)) o.tracks h ≡ Some tracks → IsCome o number count tracks
one_station o number count h tracks have comes =
    let own = keep made_stations h have.of_first (λ s low. subst (NameOwn s) (sym (have.each s low)) (script_names s 0 (first_word number s) count low)) in
    same_calls (whole (editing o.table)) (Some o.tracks) (done_by_one 1 (scripts number count made_stations)) (by_station made_stations h)
    (calls_done 1 (scripts number count made_stations) ∙ sym (calls_by number count made_stations h have.each))
    ∙ sym (in_order (editing o.table) made_stations (Some o.tracks) h have.of_first own) ∙ comes

-- the same of a replay of all entries
pub one_replayed : (o : Opening) (number count n : ℕ) (h : List (Entry Call)) (ps tracks : List TrackState) → o ≡ made_opening → HaveScripts number count made_stations h
    → n ≡ length h → ps ≡ o.tracks → replay (whole (editing o.table)) ps (take n h) ≡ Some tracks → IsCome made_opening number count tracks
one_replayed o number count n h ps tracks is have all from comes =
    let whole_so : take n h ≡ h = ap (λ (k : ℕ). take k h) all ∙ take_all (length h) h (omega arith) in
    let so : replay (whole (editing o.table)) o.tracks h ≡ Some tracks =
    ap (λ (qs : List TrackState). replay (whole (editing o.table)) qs h) (sym from) ∙ ap (λ (l : List (Entry Call)). replay (whole (editing o.table)) ps l) (sym whole_so) ∙ comes in
    subst (λ (x : Opening). IsCome x number count tracks) is (one_station o number count h tracks have so)

-- ---- the opening

made_some : (o : Opening) → o ≡ made_opening → 0 < length o.tracks
made_some o is =
    let count = length-map-range_with_len empty_track 0 made_stations in
    let some : 0 < length (plain_opening made_stations 1).tracks = omega (arith, count) in
    subst (λ (x : Opening). 0 < length x.tracks) (sym is) some

pub made_opens : (o : Opening) → o ≡ made_opening → IsSoundOpening o → IsOpening o.table o.tracks
made_opens o is sound = sound_opens o sound (made_some o is)

-- it is what no entry comes to
pub made_reached : (o : Opening) (n : ℕ) → o ≡ made_opening → IsSoundOpening o → n ≤ 100000 → IsReached (editing o.table) (IsOpening o.table) n o.tracks
made_reached o n is sound few = record { opening = o.tracks; entries = []; opens_so = made_opens o is sound; comes = refl; room = omega (arith, few) }
