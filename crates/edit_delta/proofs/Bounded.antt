-- What an edit that splices one track leaves of the facts on it.
use Rattle.std.proofs.Common.{◌≡◌, ℕ, ◌-◌, ◌<◌, ◌≤◌, List, [], ◌∷◌, Option, Some, None, IfSome, Result, Ok, Err, refl, sym, arith, subst, Bool}
use Rattle.composables.specs.declared.items.ItemView.{ItemView}
use Rattle.composables.specs.declared.media.Table.{Table}
use Rattle.composables.specs.declared.refusals.Done.{Done}
use Rattle.composables.specs.declared.refusals.Refusal.{Refusal}
use Rattle.composables.specs.Good.{IsGood}
use Rattle.composables.specs.Limits.{track_within_limits}
use Rattle.composables.specs.TrackFacts.{IsKept, NumbersBelow}
use Rattle.composables.specs.TrackState.{TrackState}
use Rattle.edit_splice.specs.Standing.{StaysGood}
use Rattle.edit_splice.specs.Laws.{IsWithinLimits}
use Rattle.edit_delta.specs.Parts.{AreParts}
use Rattle.edit_splice.specs.Splicing.{spliced_track}
use Rattle.edit_splice.proofs.Allowed.{good-parts}
use Rattle.edit_splice.proofs.Limits.{within-done}
use Rattle.edit_splice.proofs.Standing.{stays-self}
use Rattle.out_of_memory.specs.Answers.{Answers}
use Rattle.out_of_memory.specs.declared.fault.Fault.{Fault}
use Rattle.out_of_memory.specs.declared.fault.Fault.TheVariants.{Refused, Memory}

if_more : (o : Option ℕ) (n m : ℕ) → n ≤ m → IfSome o (λ i. i < n) → IfSome o (λ i. i < m)
if_more None n m le h = tt
if_more (Some i) n m le h = omega (arith, le, h)

pub below-more : (n m : ℕ) (vs : List ItemView) → n ≤ m → NumbersBelow n vs → NumbersBelow m vs
below-more n m [] le h = tt
below-more n m (v ∷ vs) le h = (if_more v.item n m le h.0, below-more n m vs le h.1)

pub parts-kept : (keep : Bool) (table : Table) (t : TrackState) (x y : ℕ) (views : List ItemView) → IsGood table t → AreParts table t x y views → IsWithinLimits (spliced_track keep t x y views) → IsKept (spliced_track keep t x y views)
parts-kept keep table t x y views g f limits = (good-parts keep table t x y views g f.order f.within f.may limits).kept

pub stays-spliced : (keep : Bool) (table : Table) (t : TrackState) (x y : ℕ) (views : List ItemView) → IsGood table t → AreParts table t x y views → IsWithinLimits (spliced_track keep t x y views) → StaysGood table t (spliced_track keep t x y views)
stays-spliced keep table t x y views g f limits = record { good = good-parts keep table t x y views g f.order f.within f.may limits; number = refl }

-- an edit that puts parts into one track
pub parts-stay : (keep : Bool) (table : Table) (t u : TrackState) (x y : ℕ) (views : List ItemView) (done : Done) (result : Result Done (Fault Refusal)) → IsGood table t → AreParts table t x y views
    → Answers (track_within_limits (spliced_track keep t x y views) done) t u result → StaysGood table t u
parts-stay keep table t u x y views done (Ok d) g f a =
    let k : (u ≡ spliced_track keep t x y views) × (d ≡ done) × IsWithinLimits (spliced_track keep t x y views) = within-done (spliced_track keep t x y views) done u d a in
    subst (StaysGood table t) (sym k.0) (stays-spliced keep table t x y views g f k.2)
parts-stay keep table t u x y views done (Err (Refused why)) g f a = subst (StaysGood table t) (sym a.1) (stays-self table t g)
parts-stay keep table t u x y views done (Err Memory) g f a = subst (StaysGood table t) (sym a.1) (stays-self table t g)
