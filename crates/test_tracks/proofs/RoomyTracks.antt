-- Tracks of which each is roomy, one after another.
use Rattle.std.proofs.Common.{◌≡◌, ℕ, ◌+◌, ◌<◌, List, length, get_or, Bool, true, false, eqb, refl, sym, ap, ◌∙◌, arith, subst}
use Rattle.std.proofs.lemmas.Bool.{eqb-true, eqb-false}
use Rattle.std.proofs.lemmas.List.{get_or_default}
use Rattle.composables.specs.Roomy.{IsRoomy}
use Rattle.composables.specs.TrackState.{TrackState}

-- the tracks up to an index are roomy, and one more
pub one-more : (ts : List TrackState) (i : ℕ) (t : TrackState) → ((k : ℕ) (d : TrackState) → k < i → IsRoomy (get_or ts k d)) → i < length ts → t ≡ get_or ts i t → IsRoomy t
    → (k : ℕ) (d : TrackState) → k < i + 1 → IsRoomy (get_or ts k d)
one-more ts i t before h is room k d lt = by (eqb k i) refl where
  by : (b : Bool) → eqb k i ≡ b → IsRoomy (get_or ts k d)
  by true e = subst IsRoomy (is ∙ get_or_default ts i t d h ∙ ap (λ (j : ℕ). get_or ts j d) (sym (eqb-true k i e))) room
  by false e = before k d (let n = eqb-false k i e in omega (arith, n, lt))
