-- What an edit leaves of the facts on its tracks.
use Rattle.std.proofs.Common.{◌≡◌, ℕ, suc, ◌≤◌, List, [], ◌∷◌, All, length, map, Result, Ok, Err, refl, sym, ap, ◌∙◌, arith, subst, Bool}
use Rattle.std.proofs.lemmas.List.Elements.{All-cons}
use Rattle.composables.specs.declared.items.ItemView.{ItemView}
use Rattle.composables.specs.declared.media.Table.{Table}
use Rattle.composables.specs.declared.refusals.Done.{Done}
use Rattle.out_of_memory.specs.declared.fault.Fault.{Fault}
use Rattle.out_of_memory.specs.declared.fault.Fault.TheVariants.{Refused, Memory}
use Rattle.composables.specs.declared.refusals.Refusal.{Refusal}
use Rattle.composables.specs.Good.{IsGood}
use Rattle.composables.specs.TrackState.{TrackState}
use Rattle.edit_splice.specs.Laws.{IsWithinLimits}
use Rattle.edit_splice.specs.Splicing.{spliced_track}
use Rattle.edit_splice.proofs.Goodness.{good-spliced}
use Rattle.out_of_memory.specs.Answers.{Answers}
use Rattle.composables.specs.Limits.{track_within_limits}
use Rattle.edit_splice.specs.Standing.{StaysGood, EachStaysGood}
use Rattle.edit_splice.proofs.Limits.{within-done}
use Rattle.edit_splice.proofs.Put.{PutIn}

pub stays-self : (table : Table) (t : TrackState) → IsGood table t → StaysGood table t t
stays-self table t g = record { good = g; number = refl }

pub stays-spliced : (keep : Bool) (table : Table) (t : TrackState) (x y : ℕ) (views : List ItemView) → IsGood table t → x ≤ y → y ≤ length t.cells → PutIn table t views
    → IsWithinLimits (spliced_track keep t x y views) → StaysGood table t (spliced_track keep t x y views)
stays-spliced keep table t x y views g le within p limits = record { good = good-spliced keep table t x y views g le within p.new limits; number = refl }

-- an edit that puts items into one track
pub stays-placed : (keep : Bool) (table : Table) (t u : TrackState) (x y : ℕ) (views : List ItemView) (done : Done) (result : Result Done (Fault Refusal))
    → IsGood table t → x ≤ y → y ≤ length t.cells → PutIn table t views
    → Answers (track_within_limits (spliced_track keep t x y views) done) t u result → StaysGood table t u
stays-placed keep table t u x y views done (Ok d) g le within p a =
    let k : (u ≡ spliced_track keep t x y views) × (d ≡ done) × IsWithinLimits (spliced_track keep t x y views) = within-done (spliced_track keep t x y views) done u d a in
    subst (StaysGood table t) (sym k.0) (stays-spliced keep table t x y views g le within p k.2)
stays-placed keep table t u x y views done (Err (Refused why)) g le within p a = subst (StaysGood table t) (sym a.1) (stays-self table t g)
stays-placed keep table t u x y views done (Err Memory) g le within p a = subst (StaysGood table t) (sym a.1) (stays-self table t g)

-- a refusal leaves it as it is
pub stays-refused : (table : Table) (t u : TrackState) (why : Refusal) (result : Result Done (Fault Refusal)) → IsGood table t → Answers (Err why) t u result → StaysGood table t u
stays-refused table t u why (Ok d) g a = absurd (Prim.grind (arith, a))
stays-refused table t u why (Err (Refused r)) g a = subst (StaysGood table t) (sym a.1) (stays-self table t g)
stays-refused table t u why (Err Memory) g a = absurd (Prim.grind (arith, a.0))

-- all tracks
pub all_head : {A : Type 0} (P : A → Type 0) (x : A) (xs : List A) → All P (x ∷ xs) → P x
all_head P x xs h = h 0 x (omega arith)

pub all_tail : {A : Type 0} (P : A → Type 0) (x : A) (xs : List A) → All P (x ∷ xs) → All P xs
all_tail P x xs h k d lt = h (suc k) d (omega (arith, lt))

pub all_none : {A : Type 0} (P : A → Type 0) → All P []
all_none P k d lt = absurd (omega (arith, lt))

pub each-self : (table : Table) (ts : List TrackState) → All (IsGood table) ts → EachStaysGood table ts ts
each-self table [] h = tt
each-self table (t ∷ ts) h = (stays-self table t (all_head (IsGood table) t ts h), each-self table ts (all_tail (IsGood table) t ts h))

pub each-good : (table : Table) (ts us : List TrackState) → EachStaysGood table ts us → All (IsGood table) us
each-good table [] [] h = all_none (IsGood table)
each-good table [] (u ∷ us) h = absurd h
each-good table (t ∷ ts) [] h = absurd h
each-good table (t ∷ ts) (u ∷ us) h = All-cons (IsGood table) u us h.0.good (each-good table ts us h.1)

pub each-numbers : (table : Table) (ts us : List TrackState) → EachStaysGood table ts us → map (λ (t : TrackState). t.number) us ≡ map (λ (t : TrackState). t.number) ts
each-numbers table [] [] h = refl
each-numbers table [] (u ∷ us) h = absurd h
each-numbers table (t ∷ ts) [] h = absurd h
each-numbers table (t ∷ ts) (u ∷ us) h =
    ap (λ (n : ℕ). n ∷ map (λ (t : TrackState). t.number) us) h.0.number ∙ ap (λ (ns : List ℕ). t.number ∷ ns) (each-numbers table ts us h.1)
