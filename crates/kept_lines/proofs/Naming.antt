-- The tracks of a call that is not refused for their names.
use Rattle.std.proofs.Common.{◌≡◌, ℕ, zero, suc, ◌<◌, ◌≤◌, Bool, true, false, ◌||◌, cond, List, [], ◌∷◌, Option, Some, None, length, option_map, nat_eq, nat_lt, refl, arith}
use Rattle.std.specs.List.{list_any}
use Rattle.std.proofs.lemmas.Bool.Decides.{nat_tests}
use Rattle.composables.specs.declared.media.Table.{Table}
use Rattle.composables.specs.declared.refusals.Refusal.TheVariants.{NoTrack}
use Rattle.composables.specs.TrackSets.{tracks_in}
use Rattle.edit_apply.specs.Apply.{first_absent, first_of, own_outside, track_count}

-- neither is there
none_of : (o p : Option ℕ) → option_map NoTrack (first_of o p) ≡ None → (o ≡ None) × (p ≡ None)
none_of None None h = (refl, refl)
none_of None (Some n) h = absurd (Prim.grind (arith, h))
none_of (Some n) p h = absurd (Prim.grind (arith, h))

first_below : (count n : ℕ) (ns : List ℕ) → first_absent count (n ∷ ns) ≡ None → (n < count) × (first_absent count ns ≡ None)
first_below count n ns h = by (nat_lt n count) refl h where
  by : (b : Bool) → nat_lt n count ≡ b → cond b (first_absent count ns) (Some n) ≡ None → (n < count) × (first_absent count ns ≡ None)
  by true e h = (Prim.grind (arith, nat_tests, e), h)
  by false e h = absurd (Prim.grind (arith, h))

-- the own track is one of those named, each of which is there
own_below : (count own : ℕ) (names : List ℕ) → first_absent count names ≡ None → own_outside names own ≡ None → own < count
own_below count own [] h k = absurd (Prim.grind (arith, k))
own_below count own (n ∷ ns) h k =
    let first = first_below count n ns h in
    by (nat_eq own n) refl first.0 (own_below count own ns first.1) k where
      by : (b : Bool) → nat_eq own n ≡ b → n < count → (own_outside ns own ≡ None → own < count) → cond (b || list_any (nat_eq own) ns) None (Some own) ≡ None → own < count
      by true e below later k = Prim.grind (arith, nat_tests, e, below)
      by false e below later k = later k

some_named : (names : List ℕ) (own : ℕ) → own_outside names own ≡ None → 0 < length names
some_named [] own h = absurd (Prim.grind (arith, h))
some_named (n ∷ ns) own h = omega arith

none_in_zero : length (tracks_in 0) ≡ 0
unfolding tracks_in
none_in_zero = refl

set_some : (set : ℕ) → 0 < length (tracks_in set) → 0 < set
set_some zero h = absurd (omega (arith, h, none_in_zero))
set_some (suc n) h = omega arith

-- the call that names these tracks, and this one as its own, is not refused for them
abbrev pub IsNamed : Table → List ℕ → ℕ → Type 0
IsNamed table names own = option_map NoTrack (first_of (first_absent (track_count table) names) (own_outside names own)) ≡ None

pub own_track : (table : Table) (track : ℕ) → IsNamed table (track ∷ []) track → track ≤ 31
own_track table track h =
    let both = none_of (first_absent (track_count table) (track ∷ [])) (own_outside (track ∷ []) track) h in
    let below = (first_below (track_count table) track [] both.0).0 in
    omega (arith, below)

pub own_of_many : (table : Table) (tracks own : ℕ) → IsNamed table (tracks_in tracks) own → (0 < tracks) × (own ≤ 31)
own_of_many table tracks own h =
    let both = none_of (first_absent (track_count table) (tracks_in tracks)) (own_outside (tracks_in tracks) own) h in
    let below = own_below (track_count table) own (tracks_in tracks) both.0 both.1 in
    (set_some tracks (some_named (tracks_in tracks) own both.1), omega (arith, below))
