-- The tracks of a room are sound at every point of its journal, and the journal has a text that is read again.
use Rattle.std.proofs.Common.{◌≡◌, ℕ, zero, suc, ◌≤◌, All, List, [], ◌∷◌, length, take, Option, Some, None, IsSome, IsSomeAnd, refl, sym, subst, arith}
use Rattle.std.proofs.lemmas.List.Elements.{All-nil, All-cons}
use Rattle.cut_steps.specs.CutSteps.{KeptTrack, stepping, fresh_tracks, left_edits}
use Rattle.cut_steps.proofs.Left.{cuts_are_left, left_is_legal}
use Rattle.take_back.specs.Parts.{nows}
use Rattle.cut_room.proofs.Journals.{front_applies}
use Rattle.edit_apply.specs.RoomTracks.{IsOpening}
use Rattle.edit_apply.specs.RoomyLaws.{editing-roomy}
use Rattle.edit_apply.proofs.Goodness.{rooms-good}
use Rattle.edit_apply.proofs.Together.{rooms-together}
use Rattle.otio_json.specs.declared.opening.Opening.{Opening}
use Rattle.room_core.specs.declared.entry.Entry.{Entry}
use Rattle.room_core.specs.History.{IsLegal, NumbersRise, RiseAfter, replay}
use Rattle.room_core.specs.Whole.{whole}
use Rattle.journal_text.specs.Journals.{HasLine, HasText}
use Rattle.station_sessions.specs.Rooms.{AreWritten, History, IsLegalIn}
use Rattle.served_rooms.specs.Stations.{AreOfStations}
use Rattle.served_rooms.specs.Journals.{AreSoundTracks, StaySound}

-- ---- the first n entries of a legal history

front_within : {C : Type 0} (n : ℕ) (es : List (Entry C)) → length (take n es) ≤ length es
front_within zero es = omega arith
front_within (suc n) [] = omega arith
front_within (suc n) (e ∷ es) = omega (arith, front_within n es)

front_rises_after : {C : Type 0} (n : ℕ) (e : Entry C) (es : List (Entry C)) → RiseAfter e es → RiseAfter e (take n es)
front_rises_after zero e es rise = tt
front_rises_after (suc n) e [] rise = tt
front_rises_after (suc n) e (f ∷ fs) rise = (rise.0, front_rises_after n e fs rise.1)

front_rises : {C : Type 0} (n : ℕ) (es : List (Entry C)) → NumbersRise es → NumbersRise (take n es)
front_rises zero es rise = tt
front_rises (suc n) [] rise = tt
front_rises (suc n) (e ∷ es) rise = (front_rises_after n e es rise.0, front_rises n es rise.1)

pub comes_to : (found : Option (List KeptTrack)) → IsSome found → (tracks : List KeptTrack) × (found ≡ Some tracks)
comes_to None some = absurd (Prim.grind (arith, some))
comes_to (Some tracks) some = (tracks, refl)

-- the first n entries of a room's history are one
pub front_legal : (o : Opening) (h : History) (n : ℕ) (tracks : List KeptTrack) → IsLegalIn o h → replay (whole (stepping o.table)) (fresh_tracks o.tracks) (take n h) ≡ Some tracks
    → IsLegalIn o (take n h)
front_legal o h n tracks legal comes = record {
  within = omega (arith, front_within n h, legal.within);
  applies = subst (λ (found : Option (List KeptTrack)). IsSome found) (sym comes) refl;
  rise = front_rises n h legal.rise;
}

-- ---- what the tracks are there

module _ (o : Opening) (h : History) (opens : IsOpening o.table o.tracks) (legal : IsLegalIn o h) where
  sound_at : (n : ℕ) (tracks : List KeptTrack) → replay (whole (stepping o.table)) (fresh_tracks o.tracks) (take n h) ≡ Some tracks → AreSoundTracks o.table (nows tracks)
  sound_at n tracks comes =
      let front = front_legal o h n tracks legal comes in
      let left = left_edits (take n h) in
      let edits = cuts_are_left o.table o.tracks (take n h) tracks opens comes in
      record {
        together = rooms-together o.table o.tracks (nows tracks) left opens edits;
        good = rooms-good o.table o.tracks (nows tracks) left opens edits;
        roomy = editing-roomy o.table o.tracks (nows tracks) left opens (left_is_legal o.table o.tracks (take n h) tracks opens front comes) edits;
      }

  found_sound : (n : ℕ) (found : Option (List KeptTrack)) → replay (whole (stepping o.table)) (fresh_tracks o.tracks) (take n h) ≡ found → IsSomeAnd found (λ kept. AreSoundTracks o.table (nows kept))
  found_sound n None comes =
      let all = comes_to (replay (whole (stepping o.table)) (fresh_tracks o.tracks) h) legal.applies in
      absurd (front_applies (whole (stepping o.table)) (fresh_tracks o.tracks) all.0 h n all.1 comes)
  found_sound n (Some tracks) comes = sound_at n tracks comes

  pub stay_sound : StaySound o h
  stay_sound n = found_sound n (replay (whole (stepping o.table)) (fresh_tracks o.tracks) (take n h)) refl

-- ---- its text

lines_written : (stations : ℕ) (h : History) → stations ≤ 16 → AreOfStations stations h → AreWritten h → All HasLine h
lines_written stations [] few seated w = All-nil HasLine
lines_written stations (e ∷ es) few seated w =
    let low : e.station ≤ 15 = omega (arith, few, seated.0) in
    All-cons HasLine e es (record { station = low; number = w.0.0; by = w.0.1; call = w.0.2 }) (lines_written stations es few seated.1 w.1)

pub has_text : (o : Opening) (stations : ℕ) (h : History) → stations ≤ 16 → IsLegalIn o h → AreOfStations stations h → AreWritten h → HasText h
has_text o stations h few legal seated w = record { within = legal.within; lines = lines_written stations h few seated w; rise = legal.rise }
