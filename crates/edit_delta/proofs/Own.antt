-- The own track of a call among those that it names, and what is left of the others.
use Rattle.std.proofs.Common.{◌≡◌, ℕ, zero, suc, ◌<◌, Bool, true, false, cond, eqb, List, [], ◌∷◌, All, map, length, set, get_or, Some, Result, Ok, Err, is_ok, refl, sym, ap, ◌∙◌, arith, subst, slice_get}
use Rattle.std.proofs.lemmas.Bool.{eq-eqb, eqb-true}
use Rattle.std.proofs.lemmas.Option.{slice_get_read}
use Rattle.composables.specs.declared.media.Table.{Table}
use Rattle.composables.proofs.OwnTracks.{among-ok}
use Rattle.composables.specs.declared.refusals.Done.{Done}
use Rattle.composables.specs.declared.refusals.Refusal.{Refusal}
use Rattle.out_of_memory.specs.declared.fault.Fault.{Fault}
use Rattle.out_of_memory.specs.declared.fault.Fault.TheVariants.{Refused, Memory}
use Rattle.out_of_memory.specs.Answers.{Answers}
use Rattle.composables.specs.Good.{IsGood}
use Rattle.composables.specs.OwnTracks.{among_named, on_own, track_numbered, with_track, numbers_of}
use Rattle.composables.specs.TrackSets.{tracks_in}
use Rattle.composables.specs.TrackState.{TrackState}
use Rattle.edit_splice.specs.Standing.{EachStaysGood, StaysGood}
use Rattle.edit_splice.proofs.Bridging.{Above, Rise, for-found, is-numbered, tracks-rise}
use Rattle.edit_splice.proofs.Standing.{all_head, all_tail, each-self}

-- the track t with the number n is the one with this index
pub record IsNamed (n i : ℕ) (ts : List TrackState) (t : TrackState) : Type 0 where
  pub rises : Rise (map (λ (t : TrackState). t.number) ts)
  pub found : track_numbered n ts ≡ Some t
  pub read : slice_get ts i ≡ Some t
  pub number : t.number ≡ n

pub is-named : (n tracks i : ℕ) (ts : List TrackState) (t : TrackState) → map (λ (t : TrackState). t.number) ts ≡ tracks_in tracks → track_numbered n ts ≡ slice_get ts i → i < length ts
    → t ≡ get_or ts i t → IsNamed n i ts t
is-named n tracks i ts t e f h is =
    let read : slice_get ts i ≡ Some t = slice_get_read ts (length ts) i t refl h is in
    let found : track_numbered n ts ≡ Some t = f ∙ read in
    record { rises = subst Rise (sym e) (tracks-rise tracks); found = found; read = read; number = is-numbered n ts t found }

above_there : (n i : ℕ) (ts : List TrackState) (t : TrackState) → Above n (numbers_of ts) → slice_get ts i ≡ Some t → n < t.number
above_there n i [] t a e = absurd cc
above_there n zero (u ∷ us) t a e = let same : u ≡ t = cc in omega (arith, a.0, ap (λ (v : TrackState). v.number) same)
above_there n (suc i) (u ∷ us) t a e = above_there n i us t a.1 e

no_eqb : (a b : ℕ) → a < b → eqb a b ≡ false
no_eqb a b h = by (eqb a b) refl where
  by : (t : Bool) → eqb a b ≡ t → eqb a b ≡ false
  by true e = let same = eqb-true a b e in absurd (omega (arith, same, h))
  by false e = e

-- putting it back by its number is putting it at its index
with_set : (i : ℕ) (ts : List TrackState) (t u : TrackState) → Rise (numbers_of ts) → slice_get ts i ≡ Some t → u.number ≡ t.number → with_track ts u ≡ set ts i u
with_set i [] t u r e k = absurd cc
with_set zero (x ∷ xs) t u r e k =
    let same : x ≡ t = cc in
    ap (λ (b : Bool). cond b (u ∷ xs) (x ∷ with_track xs u)) (eq-eqb x.number u.number (ap (λ (v : TrackState). v.number) same ∙ sym k))
with_set (suc i) (x ∷ xs) t u r e k =
    let less = above_there x.number i xs t r.0 e in
    ap (λ (b : Bool). cond b (u ∷ xs) (x ∷ with_track xs u)) (no_eqb x.number u.number (omega (arith, less, k)))
    ∙ ap (λ (l : List TrackState). x ∷ l) (with_set i xs t u r.1 e k)

set_back : (i : ℕ) (ts : List TrackState) (t : TrackState) → slice_get ts i ≡ Some t → set ts i t ≡ ts
set_back i [] t e = absurd cc
set_back zero (x ∷ xs) t e = let same : x ≡ t = cc in ap (λ (v : TrackState). v ∷ xs) (sym same)
set_back (suc i) (x ∷ xs) t e = ap (λ (l : List TrackState). x ∷ l) (set_back i xs t e)

pub named-answers : (n i : ℕ) (f : TrackState → Result (TrackState × Done) Refusal) (ts us : List TrackState) (t u : TrackState) (result : Result Done (Fault Refusal))
    → IsNamed n i ts t → us ≡ set ts i u → u.number ≡ t.number → Answers (f t) t u result → Answers (on_own n f ts) ts us result
named-answers n i f ts us t u (Ok done) o e k a =
    for-found n (λ (v : TrackState). among_named ts (f v)) ts t o.found
    ∙ (ap (among_named ts) a ∙ ap (λ (l : List TrackState). Ok (l, done)) (with_set i ts t u o.rises o.read k ∙ sym e))
named-answers n i f ts us t u (Err (Refused why)) o e k a =
    (for-found n (λ (v : TrackState). among_named ts (f v)) ts t o.found ∙ ap (among_named ts) a.0, e ∙ (ap (set ts i) a.1 ∙ set_back i ts t o.read))
named-answers n i f ts us t u (Err Memory) o e k a =
    (ap is_ok (for-found n (λ (v : TrackState). among_named ts (f v)) ts t o.found) ∙ among-ok ts (f t) a.0, e ∙ (ap (set ts i) a.1 ∙ set_back i ts t o.read))

each_set : (table : Table) (i : ℕ) (ts : List TrackState) (t u : TrackState) → All (IsGood table) ts → slice_get ts i ≡ Some t → StaysGood table t u → EachStaysGood table ts (set ts i u)
each_set table i [] t u g e s = absurd cc
each_set table zero (x ∷ xs) t u g e s =
    let same : t ≡ x = cc in
    (subst (λ (v : TrackState). StaysGood table v u) same s, each-self table xs (all_tail (IsGood table) x xs g))
each_set table (suc i) (x ∷ xs) t u g e s =
    ((each-self table (x ∷ []) (λ k d lt. one k d lt)).0, each_set table i xs t u (all_tail (IsGood table) x xs g) e s) where
      one : All (IsGood table) (x ∷ [])
      one zero d lt = all_head (IsGood table) x xs g
      one (suc k) d lt = absurd (omega (arith, lt))

pub named-each : (table : Table) (n i : ℕ) (ts us : List TrackState) (t u : TrackState) → IsNamed n i ts t → us ≡ set ts i u → All (IsGood table) ts → StaysGood table t u → EachStaysGood table ts us
named-each table n i ts us t u o e g s = subst (EachStaysGood table ts) (sym e) (each_set table i ts t u g o.read s)

pub named-holds : (P : TrackState → Type 0) (n i : ℕ) (ts : List TrackState) (t : TrackState) → IsNamed n i ts t → All P ts → P t
named-holds P n i ts t o h = by i ts o.read h where
  by : (i : ℕ) (ts : List TrackState) → slice_get ts i ≡ Some t → All P ts → P t
  by i [] e h = absurd cc
  by zero (x ∷ xs) e h = let same : x ≡ t = cc in subst P same (all_head P x xs h)
  by (suc i) (x ∷ xs) e h = by i xs e (all_tail P x xs h)
