-- A call on the one track that is named, which it leaves with its number.
use Rattle.std.proofs.Common.{◌≡◌, ℕ, List, [], ◌∷◌, map, get_or, Result, Ok, Err, is_ok, refl, sym, ap, ◌∙◌, subst}
use Rattle.std.proofs.Math.ListN.{set}
use Rattle.composables.specs.declared.refusals.Done.{Done}
use Rattle.composables.specs.declared.refusals.Refusal.{Refusal}
use Rattle.out_of_memory.specs.declared.fault.Fault.{Fault}
use Rattle.out_of_memory.specs.declared.fault.Fault.TheVariants.{Refused, Memory}
use Rattle.composables.specs.TrackState.{TrackState}
use Rattle.composables.proofs.Joining.{eqb-refl}
use Rattle.composables.proofs.OwnTracks.{among-ok}
use Rattle.out_of_memory.specs.Answers.{Answers}
use Rattle.composables.specs.OwnTracks.{on_own, among_named, with_track}

-- the only one of some tracks
pub record IsAlone (n : ℕ) (ts : List TrackState) (t : TrackState) : Type 0 where
  pub all : ts ≡ t ∷ []
  pub number : t.number ≡ n

pub alone : (n : ℕ) (ts : List TrackState) (t : TrackState) → map (λ (t : TrackState). t.number) ts ≡ n ∷ [] → t ≡ get_or ts 0 t → IsAlone n ts t
alone n [] t h is = absurd cc
alone n (x ∷ []) t h is = let e : x.number ≡ n = cc in record { all = ap (λ (u : TrackState). u ∷ []) (sym is); number = ap (λ (u : TrackState). u.number) is ∙ e }
alone n (x ∷ y ∷ ys) t h is = absurd cc

on_alone : (meant : TrackState → Result (TrackState × Done) Refusal) (t : TrackState) → on_own t.number meant (t ∷ []) ≡ among_named (t ∷ []) (meant t)
on_alone meant t = rw (eqb-refl t.number) refl

put_alone : (t u : TrackState) → u.number ≡ t.number → with_track (t ∷ []) u ≡ u ∷ []
put_alone t u e = rw (e, eqb-refl t.number) refl

answers_alone : (meant : TrackState → Result (TrackState × Done) Refusal) (t u : TrackState) (r : Result Done (Fault Refusal)) → u.number ≡ t.number → Answers (meant t) t u r
    → Answers (on_own t.number meant (t ∷ [])) (t ∷ []) (u ∷ []) r
answers_alone meant t u (Ok done) e a = on_alone meant t ∙ (ap (among_named (t ∷ [])) a ∙ ap (λ (us : List TrackState). Ok (us, done)) (put_alone t u e))
answers_alone meant t u (Err (Refused why)) e a = (on_alone meant t ∙ ap (among_named (t ∷ [])) a.0, ap (λ (x : TrackState). x ∷ []) a.1)
answers_alone meant t u (Err Memory) e a = (ap is_ok (on_alone meant t) ∙ among-ok (t ∷ []) (meant t) a.0, ap (λ (x : TrackState). x ∷ []) a.1)

pub answers_named : (meant : TrackState → Result (TrackState × Done) Refusal) (n : ℕ) (ts : List TrackState) (t u : TrackState) (r : Result Done (Fault Refusal)) → map (λ (t : TrackState). t.number) ts ≡ n ∷ []
    → t ≡ get_or ts 0 t → u.number ≡ t.number → Answers (meant t) t u r → Answers (on_own n meant ts) ts (set ts 0 u) r
answers_named meant n ts t u r named is e a =
    let one = alone n ts t named is in
    let here = subst (λ (k : ℕ). Answers (on_own k meant (t ∷ [])) (t ∷ []) (u ∷ []) r) one.number (answers_alone meant t u r e a) in
    subst (λ (xs : List TrackState). Answers (on_own n meant xs) xs (set xs 0 u) r) (sym one.all) here
