-- A call on the own track among those named, which leaves the others as they are.
use Rattle.std.proofs.Common.{◌≡◌, ℕ, Bool, true, false, cond, eqb, List, [], ◌∷◌, All, Option, Some, None, Result, Ok, Err, refl, sym, ◌∙◌, arith, subst}
use Rattle.std.proofs.lemmas.List.Elements.{All-cons}
use Rattle.composables.specs.declared.media.Table.{Table}
use Rattle.composables.specs.declared.refusals.Done.{Done}
use Rattle.composables.specs.declared.refusals.Refusal.{Refusal}
use Rattle.composables.specs.declared.refusals.Refusal.TheVariants.{NoTrack}
use Rattle.composables.specs.Answers.{Applied}
use Rattle.composables.specs.Good.{IsGood}
use Rattle.composables.specs.OwnTracks.{among_named, for_own, on_own, track_numbered, with_track}
use Rattle.composables.specs.TrackState.{TrackState}
use Rattle.edit_splice.proofs.Bridging.{for-found}
use Rattle.edit_splice.proofs.Standing.{all_head, all_none, all_tail}

pub found-good : (table : Table) (n : ℕ) (ts : List TrackState) (t : TrackState) → All (IsGood table) ts → track_numbered n ts ≡ Some t → IsGood table t
found-good table n [] t g e = absurd (Prim.grind (arith, e))
found-good table n (u ∷ us) t g e = by (eqb u.number n) e (found-good table n us t (all_tail (IsGood table) u us g)) where
  by : (b : Bool) → cond b (Some u) (track_numbered n us) ≡ Some t → (track_numbered n us ≡ Some t → IsGood table t) → IsGood table t
  by true k later = let same : u ≡ t = cc in subst (IsGood table) same (all_head (IsGood table) u us g)
  by false k later = later k

pub put-good : (table : Table) (ts : List TrackState) (u : TrackState) → All (IsGood table) ts → IsGood table u → All (IsGood table) (with_track ts u)
put-good table [] u g h = all_none (IsGood table)
put-good table (t ∷ ts) u g h = by (eqb t.number u.number) (put-good table ts u (all_tail (IsGood table) t ts g) h) where
  by : (b : Bool) → All (IsGood table) (with_track ts u) → All (IsGood table) (cond b (u ∷ ts) (t ∷ with_track ts u))
  by true later = All-cons (IsGood table) u ts h (all_tail (IsGood table) t ts g)
  by false later = All-cons (IsGood table) t (with_track ts u) (all_head (IsGood table) t ts g) later

pub for-none : (n : ℕ) (meant : TrackState → Applied) (ts : List TrackState) → track_numbered n ts ≡ None → for_own n meant ts ≡ Err (NoTrack n)
for-none n meant ts e = rw e refl

-- a call that was done found its own track
pub record OwnDone (n : ℕ) (meant : TrackState → Applied) (ts us : List TrackState) (done : Done) : Type 0 where
  pub own : TrackState
  pub found : track_numbered n ts ≡ Some own
  pub is : meant own ≡ Ok (us, done)

pub own-done : (n : ℕ) (meant : TrackState → Applied) (ts us : List TrackState) (done : Done) → for_own n meant ts ≡ Ok (us, done) → OwnDone n meant ts us done
own-done n meant ts us done k = by (track_numbered n ts) refl where
  by : (o : Option TrackState) → track_numbered n ts ≡ o → OwnDone n meant ts us done
  by None e =
      let no : Err (NoTrack n) ≡ Ok (us, done) = sym (for-none n meant ts e) ∙ k in
      absurd (Prim.grind (arith, no))
  by (Some t) e = record { own = t; found = e; is = sym (for-found n meant ts t e) ∙ k }

-- what it leaves is good where it leaves its own track good
pub own-good : (table : Table) (n : ℕ) (meant : TrackState → Result (TrackState × Done) Refusal) (ts us : List TrackState) (done : Done) → All (IsGood table) ts
    → ((t u : TrackState) (d : Done) → IsGood table t → meant t ≡ Ok (u, d) → IsGood table u) → on_own n meant ts ≡ Ok (us, done) → All (IsGood table) us
own-good table n meant ts us done g keeps k =
    let o = own-done n (λ t. among_named ts (meant t)) ts us done k in
    by (meant o.own) refl o.is (found-good table n ts o.own g o.found) where
      by : (r : Result (TrackState × Done) Refusal) → meant (own-done n (λ t. among_named ts (meant t)) ts us done k).own ≡ r → among_named ts r ≡ Ok (us, done)
          → IsGood table (own-done n (λ t. among_named ts (meant t)) ts us done k).own → All (IsGood table) us
      by (Err why) e d h = absurd (Prim.grind (arith, d))
      by (Ok p) e d h =
          let same : with_track ts p.0 ≡ us = Prim.grind (arith, d) in
          subst (All (IsGood table)) same (put-good table ts p.0 g (keeps (own-done n (λ t. among_named ts (meant t)) ts us done k).own p.0 p.1 h e))
