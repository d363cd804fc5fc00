-- A room that closes.
use Rattle.std.proofs.Common.{◌≡◌, ℕ, ◌<◌, List, [], ◌∷◌, ◌++◌, length, Option, Some, All, map, refl, sym, ap, ◌∙◌, arith, subst, ⊎_elim, inl}
use Rattle.std.proofs.lemmas.List.Elements.{All-head, All-tail}
use Rattle.cut_steps.specs.CutSteps.{CutStep, KeptTrack, stepping}
use Rattle.timecode12.specs.Numbers.{Counted}
use Rattle.composables.specs.declared.media.Table.{Table}
use Rattle.edit_journal.specs.declared.name.Name.TheVariants.{Station}
use Rattle.edit_journal.specs.Seats.{Agrees, In}
use Rattle.edit_journal.specs.Turns.{AreFresh}
use Rattle.room_core.specs.declared.entry.Entry.{Entry}
use Rattle.room_core.specs.History.{IsLegal}
use Rattle.room_core.specs.Whole.{whole}
use Rattle.otio_json.specs.declared.opening.Opening.{Opening}
use Rattle.served_rooms.specs.Closed.{Closes}
use Rattle.station_sessions.specs.Rooms.{History, Setting}
use Rattle.station_sessions.specs.Served.{IsRoomOf}
use Rattle.station_sessions.specs.SessionInside.{TrackOpening, TrackPass, TrackRoom, opened_with}
use Rattle.served_rooms.specs.Stations.{AreOfStations}

one_station : (s : ℕ) → In s (0 ∷ []) → s < 1
one_station s i = ⊎_elim (λ (e : s ≡ 0). omega (arith, e)) (λ (h : ⊥). absurd h) i

of_one_station : (h : List (Entry CutStep)) → All (λ e. In e.station (0 ∷ [])) h → AreOfStations 1 h
of_one_station [] all = tt
of_one_station (e ∷ es) all = (one_station e.station (All-head (λ e. In e.station (0 ∷ [])) e es all), of_one_station es (All-tail (λ e. In e.station (0 ∷ [])) e es all))

-- the one pass of a room
pub closed : (o : Opening) (room : TrackRoom) (counting : Counted) (start : ℕ) (passes : List TrackPass) (p : TrackPass) (h : History) → IsRoomOf o room counting start
    → passes ≡ p ∷ [] → p.number ≡ 0 → IsLegal (whole (stepping room.object.object.table)) room.parts h
    → All (λ q. Agrees (stepping room.object.object.table).names h (Station q.number) q.entries) passes → All (λ e. In e.station (map (λ q. q.number) passes)) h
    → Closes o 1 0 p.entries h
closed o room counting start passes p h is are first legal agree stations =
    let table = ap (λ (s : Setting). s.table) is.setting in
    let all = subst (λ (ps : List TrackPass). All (λ q. Agrees (stepping room.object.object.table).names h (Station q.number) q.entries) ps) are agree in
    let mine : Agrees (stepping room.object.object.table).names h (Station 0) p.entries =
    subst (λ (n : ℕ). Agrees (stepping room.object.object.table).names h (Station n) p.entries) first (All-head (λ q. Agrees (stepping room.object.object.table).names h (Station q.number) q.entries) p [] all) in
    let numbers : map (λ (q : TrackPass). q.number) passes ≡ 0 ∷ [] = ap (map (λ (q : TrackPass). q.number)) are ∙ ap (λ (n : ℕ). n ∷ []) first in
    record {
      opens = is.opens;
      legal = subst (λ (x : Table × List KeptTrack). IsLegal (whole (stepping x.0)) x.1 h) (λ i. (table i, is.tracks i)) legal;
      seated = of_one_station h (subst (λ (ns : List ℕ). All (λ e. In e.station ns) h) numbers stations);
      more = mine.front.0;
      journal = mine.front.1;
      own = sym mine.same;
    }

-- the passes of a room for one station
pub only : (passes : List TrackPass) (last : TrackPass) (before : List TrackPass) → map (λ (q : TrackPass). q.number) passes ≡ 0 ∷ [] → passes ≡ before ++ last ∷ [] → (before ≡ []) × (last.number ≡ 0)
only passes last before numbers is = only_one before last (ap (map (λ (q : TrackPass). q.number)) (sym is) ∙ numbers)
  where
    only_one : (before : List TrackPass) (last : TrackPass) → map (λ (q : TrackPass). q.number) (before ++ last ∷ []) ≡ 0 ∷ [] → (before ≡ []) × (last.number ≡ 0)
    only_one [] last e = (refl, Prim.grind (arith, e))
    only_one (p ∷ []) last e = let n = ap length e in absurd (omega (arith, n))
    only_one (p ∷ q ∷ ps) last e = let n = ap length e in absurd (omega (arith, n))

pub only_fresh : (opening : Option TrackOpening) (passes : List TrackPass) (last : TrackPass) (before : List TrackPass) → AreFresh opening 1 passes → passes ≡ before ++ last ∷ []
    → (last.opening ≡ opening) × (last.entries ≡ [])
only_fresh opening passes last before fresh is =
    let none = (only passes last before fresh.0 is).0 in
    let one : passes ≡ last ∷ [] = is ∙ ap (λ (ps : List TrackPass). ps ++ last ∷ []) none in
    All-head (λ t. (t.opening ≡ opening) × (t.entries ≡ [])) last [] (subst (λ (ps : List TrackPass). All (λ t. (t.opening ≡ opening) × (t.entries ≡ [])) ps) one fresh.1)

pub has_zero : (s : ℕ) → s < 1 → In s (0 ∷ [])
has_zero s low = inl (omega (arith, low))

-- the room that was opened
pub one_room : (named told : Option TrackOpening) (opening : TrackOpening) (room : TrackRoom) (stations : ℕ) → named ≡ told → told ≡ Some opening → named ≡ Some (room.object, room.parts)
    → room.stations ≡ stations → opened_with opening stations ≡ room
one_room named told opening room stations same is was count =
    let e : Some opening ≡ Some (room.object, room.parts) = sym is ∙ (sym same ∙ was) in
    let pair : opening ≡ (room.object, room.parts) = Prim.grind (arith, e) in
    ap (λ (o : TrackOpening). opened_with o stations) pair ∙ ap (λ (n : ℕ). opened_with (room.object, room.parts) n) (sym count)
