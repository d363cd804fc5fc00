-- The laws of an editor as an object: what a call names, and what a room is opened with.
use Rattle.std.proofs.Common.{◌≡◌, ℕ, zero, suc, ◌+◌, ◌<◌, ◌≤◌, Bool, true, false, cond, List, [], ◌∷◌, Option, Some, None, length, option_map, refl, arith, nat_lt}
use Rattle.std.proofs.lemmas.Bool.Decides.{nat_tests}
use Rattle.composables.specs.declared.media.Table.{Table}
use Rattle.composables.specs.declared.refusals.Refusal.TheVariants.{NoTrack}
use Rattle.composables.specs.TrackState.{TrackState}
use Rattle.composables.specs.TrackSets.{has_track, tracks_from, tracks_in}
use Rattle.room_core.specs.Parts.{AreGood, AscendBetween, IsNaming, numbers}
use Rattle.edit_calls.specs.declared.asks.Call.{Call}
use Rattle.edit_apply.specs.declared.naming.NamedTracks.{NamedTracks}
use Rattle.edit_apply.specs.declared.naming.NamedTracks.TheVariants.{One, Many}
use Rattle.edit_apply.specs.Apply.{editing, first_absent, first_of, named_by, own_outside, track_count, tracks_of, wrong_track_in}
use Rattle.edit_apply.specs.RoomTracks.{IsOpening, IsTrackOf}

first_below : (count n : ℕ) (ns : List ℕ) → first_absent count (n ∷ ns) ≡ None → (n < count) × (first_absent count ns ≡ None)
first_below count n ns h = by (nat_lt n count) refl h where
  by : (b : Bool) → nat_lt n count ≡ b → cond b (first_absent count ns) (Some n) ≡ None → (n < count) × (first_absent count ns ≡ None)
  by true e h = (Prim.grind (arith, nat_tests, e), h)
  by false e h = absurd (Prim.grind (arith, h))

ascend_from : (s count t n least : ℕ) → least ≤ t → first_absent count (tracks_from s t n) ≡ None → AscendBetween least count (tracks_from s t n)
ascend_from s count t zero least le h = tt
ascend_from s count t (suc n) least le h =
    by (has_track s t) h (ascend_from s count (suc t) n least (omega (arith, le))) (ascend_from s count (suc t) n (t + 1) (omega arith)) where
      by : (b : Bool) → first_absent count (cond b (t ∷ tracks_from s (suc t) n) (tracks_from s (suc t) n)) ≡ None
          → (first_absent count (tracks_from s (suc t) n) ≡ None → AscendBetween least count (tracks_from s (suc t) n))
          → (first_absent count (tracks_from s (suc t) n) ≡ None → AscendBetween (t + 1) count (tracks_from s (suc t) n))
          → AscendBetween least count (cond b (t ∷ tracks_from s (suc t) n) (tracks_from s (suc t) n))
      by true h same later = let p = first_below count t (tracks_from s (suc t) n) h in (le, p.0, later p.1)
      by false h same later = same h

ascend : (s count : ℕ) → first_absent count (tracks_in s) ≡ None → AscendBetween 0 count (tracks_in s)
unfolding tracks_in
ascend s count h = ascend_from s count 0 32 0 (omega arith) h

none_of : (o p : Option ℕ) → option_map NoTrack (first_of o p) ≡ None → (o ≡ None) × (p ≡ None)
none_of None None h = (refl, refl)
none_of None (Some n) h = absurd (Prim.grind (arith, h))
none_of (Some n) p h = absurd (Prim.grind (arith, h))

some_named : (names : List ℕ) (own : ℕ) → own_outside names own ≡ None → 0 < length names
some_named [] own h = absurd (Prim.grind (arith, h))
some_named (n ∷ ns) own h = omega arith

names_there : (count : ℕ) (named : NamedTracks) → option_map NoTrack (wrong_track_in count named) ≡ None → IsNaming count (tracks_of named)
names_there count (One track) h =
    let p = none_of (first_absent count (track ∷ [])) (own_outside (track ∷ []) track) h in
    record { some = omega arith; ascend = (omega arith, (first_below count track [] p.0).0, tt) }
names_there count (Many tracks own) h =
    let p = none_of (first_absent count (tracks_in tracks)) (own_outside (tracks_in tracks) own) h in
    record { some = some_named (tracks_in tracks) own p.1; ascend = ascend tracks count p.0 }

-- a call that is not refused for its names names tracks that are there, in ascending order
pub editing-named : (table : Table) (c : Call) → (editing table).refuses c ≡ None → IsNaming (track_count table) ((editing table).names c)
editing-named table c h = names_there (track_count table) (named_by c) h

-- an opening has from 1 to 32 tracks, each good at its number
pub editing-opens : (table : Table) (tracks : List TrackState) → IsOpening table tracks
    → (0 < track_count table) × (track_count table ≤ 32) × AreGood (IsTrackOf table) (numbers 0 (track_count table)) tracks
editing-opens table tracks h = (omega (arith, h.some), omega arith, h.good)
