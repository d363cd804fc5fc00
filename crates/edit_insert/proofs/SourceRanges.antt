-- Source frames that are not refused lie in their thing's range.
use Rattle.std.proofs.Common.{◌≡◌, ℕ, ◌+◌, ◌<◌, ◌≤◌, ◌^◌, Bool, true, false, cond, eqb, leb, ◌&&◌, Option, Some, None, refl, arith, slice_get}
use Rattle.std.proofs.lemmas.Bool.{leb-true}
use Rattle.frame_meaning.specs.declared.cells.What.{What}
use Rattle.composables.specs.declared.media.Table.{Table}
use Rattle.composables.specs.declared.refusals.Refusal.{Refusal}
use Rattle.composables.specs.declared.refusals.Refusal.TheVariants.{EmptyRange, MediaEnds}
use Rattle.composables.specs.Bounds.{bounds_of}
use Rattle.composables.specs.Good.{LiesIn}
use Rattle.edit_insert.specs.Sources.{refusal_in, source_refusal, suits}
use Rattle.edit_splice.proofs.Put.{Clip}

lies : (o : Option (ℕ × ℕ)) (fits : Bool) (from len : ℕ) → refusal_in o fits from len ≡ None → LiesIn o from len 0 0
lies None fits from len e = absurd (Prim.grind (arith, e))
lies (Some (low, high)) false from len e = absurd (Prim.grind (arith, e))
lies (Some (low, high)) true from len e = by (eqb len 0) (leb low from) (leb (from + len) high) refl refl e where
  by : (a b d : Bool) → leb low from ≡ b → leb (from + len) high ≡ d
      → ◌≡◌ {A = Option Refusal} (cond a (Some EmptyRange) (cond (b && d) None (Some MediaEnds))) None → (low + 0 ≤ from) × (from + len + 0 ≤ high)
  by true b d f g e = absurd (Prim.grind (arith, e))
  by false false d f g e = absurd (Prim.grind (arith, e))
  by false true false f g e = absurd (Prim.grind (arith, e))
  by false true true f g e = (omega (arith, leb-true low from f), omega (arith, leb-true (from + len) high g))

pub source-clip : (table : Table) (n : ℕ) (what : What) (from len : ℕ) → source_refusal table n what from len ≡ None → 0 < len → from + len ≤ 2 ^ 32 → Clip table what from len
source-clip table n what from len e h k =
    record { filled = h; source = k; lies = lies (bounds_of table what) (suits (slice_get table.kinds n) what) from len e }
