-- Tracks of a room, as an object's parts and as an edit asks for them.
use Rattle.std.proofs.Common.{◌≡◌, ℕ, List, [], ◌∷◌, All, map, refl, ap, ◌∙◌, arith}
use Rattle.composables.specs.declared.media.Table.{Table}
use Rattle.composables.specs.Good.{IsGood}
use Rattle.composables.specs.TrackState.{TrackState}
use Rattle.edit_splice.proofs.Standing.{all_head, all_tail}
use Rattle.room_core.specs.Parts.{AreGood}
use Rattle.edit_apply.specs.RoomTracks.{IsTrackOf}

pub tracks-named : (table : Table) (ns : List ℕ) (ts : List TrackState) → AreGood (IsTrackOf table) ns ts → map (λ (t : TrackState). t.number) ts ≡ ns
tracks-named table [] [] h = refl
tracks-named table [] (t ∷ ts) h = absurd h
tracks-named table (n ∷ ns) [] h = absurd h
tracks-named table (n ∷ ns) (t ∷ ts) h =
    ap (λ (k : ℕ). k ∷ map (λ (t : TrackState). t.number) ts) h.0.number_is ∙ ap (λ (l : List ℕ). n ∷ l) (tracks-named table ns ts h.1)

-- and back: good and numbered tracks are tracks of the room
pub tracks-again : (table : Table) (ns : List ℕ) (ts : List TrackState) → map (λ (t : TrackState). t.number) ts ≡ ns
    → All (λ (t : TrackState). IsGood table t) ts → AreGood (IsTrackOf table) ns ts
tracks-again table [] [] e g = tt
tracks-again table [] (t ∷ ts) e g = absurd (Prim.grind (arith, e))
tracks-again table (n ∷ ns) [] e g = absurd (Prim.grind (arith, e))
tracks-again table (n ∷ ns) (t ∷ ts) e g = (
  record { good = all_head (IsGood table) t ts g; number_is = Prim.grind (arith, e) },
  tracks-again table ns ts (Prim.grind (arith, e)) (all_tail (IsGood table) t ts g),
)
