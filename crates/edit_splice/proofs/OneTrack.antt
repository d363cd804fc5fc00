-- A call on one track, which is the only one named.
use Rattle.std.proofs.Common.{◌≡◌, ℕ, List, [], ◌∷◌, All, map, set, Result, Ok, Err, is_ok, refl, sym, ap, ◌∙◌, arith, subst, get_or}
use Rattle.std.proofs.lemmas.Bool.{eq-eqb}
use Rattle.composables.specs.declared.media.Table.{Table}
use Rattle.composables.specs.declared.refusals.Done.{Done}
use Rattle.out_of_memory.specs.declared.fault.Fault.{Fault}
use Rattle.out_of_memory.specs.declared.fault.Fault.TheVariants.{Refused, Memory}
use Rattle.composables.specs.declared.refusals.Refusal.{Refusal}
use Rattle.composables.specs.TrackState.{TrackState}
use Rattle.out_of_memory.specs.Answers.{Answers}
use Rattle.composables.specs.OwnTracks.{among_named, on_own}
use Rattle.composables.proofs.OwnTracks.{among-ok}
use Rattle.edit_splice.specs.Standing.{StaysGood, EachStaysGood}

-- it is found
on_it : (n : ℕ) (f : TrackState → Result (TrackState × Done) Refusal) (t : TrackState) → t.number ≡ n → on_own n f (t ∷ []) ≡ among_named (t ∷ []) (f t)
on_it n f t e = rw (eq-eqb t.number n e) refl

put_there : (t u : TrackState) (r : Result (TrackState × Done) Refusal) (done : Done) → u.number ≡ t.number → r ≡ Ok (u, done) → among_named (t ∷ []) r ≡ Ok (u ∷ [], done)
put_there t u r done e f = ap (among_named (t ∷ [])) f ∙ rw (eq-eqb t.number u.number (sym e)) refl

one : (n : ℕ) (f : TrackState → Result (TrackState × Done) Refusal) (t u : TrackState) (result : Result Done (Fault Refusal)) → t.number ≡ n → u.number ≡ t.number
    → Answers (f t) t u result → Answers (on_own n f (t ∷ [])) (t ∷ []) (u ∷ []) result
one n f t u (Ok d) e k a = on_it n f t e ∙ put_there t u (f t) d k a
one n f t u (Err (Refused why)) e k a = (on_it n f t e ∙ ap (among_named (t ∷ [])) a.0, ap (λ (v : TrackState). v ∷ []) a.1)
one n f t u (Err Memory) e k a = (ap is_ok (on_it n f t e) ∙ among-ok (t ∷ []) (f t) a.0, ap (λ (v : TrackState). v ∷ []) a.1)

-- the named tracks are one
pub record IsOne (n : ℕ) (ts : List TrackState) (t : TrackState) : Type 0 where
  pub all : ts ≡ t ∷ []
  pub number : t.number ≡ n

pub is-one : (n : ℕ) (ts : List TrackState) (t : TrackState) → map (λ (t : TrackState). t.number) ts ≡ n ∷ [] → t ≡ get_or ts 0 t → IsOne n ts t
is-one n [] t e f = absurd (Prim.grind (arith, e))
is-one n (u ∷ []) t e f = record { all = ap (λ (v : TrackState). v ∷ []) (sym f); number = ap (λ (v : TrackState). v.number) f ∙ Prim.grind (arith, e) }
is-one n (u ∷ v ∷ us) t e f = absurd (Prim.grind (arith, e))

pub one-answers : (n : ℕ) (f : TrackState → Result (TrackState × Done) Refusal) (ts us : List TrackState) (t u : TrackState) (result : Result Done (Fault Refusal))
    → IsOne n ts t → us ≡ set ts 0 u → u.number ≡ t.number → Answers (f t) t u result → Answers (on_own n f ts) ts us result
one-answers n f ts us t u result o e k a =
    let f_us : us ≡ u ∷ [] = e ∙ ap (λ (l : List TrackState). set l 0 u) o.all in
    subst (λ (l : List TrackState). Answers (on_own n f l) l us result) (sym o.all)
    (subst (λ (l : List TrackState). Answers (on_own n f (t ∷ [])) (t ∷ []) l result) (sym f_us) (one n f t u result o.number k a))

pub one-each : (table : Table) (n : ℕ) (ts us : List TrackState) (t u : TrackState) → IsOne n ts t → us ≡ set ts 0 u → StaysGood table t u → EachStaysGood table ts us
one-each table n ts us t u o e s =
    let f_us : us ≡ u ∷ [] = e ∙ ap (λ (l : List TrackState). set l 0 u) o.all in
    subst (λ (l : List TrackState). EachStaysGood table l us) (sym o.all)
    (subst (λ (l : List TrackState). EachStaysGood table (t ∷ []) l) (sym f_us) (s, tt))

pub one-holds : (P : TrackState → Type 0) (n : ℕ) (ts : List TrackState) (t : TrackState) → IsOne n ts t → All P ts → P t
one-holds P n ts t o h = subst (All P) o.all h 0 t (omega arith)
