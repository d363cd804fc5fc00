-- The lowest track of a set, once its tracks below t were looked at.
use Rattle.std.proofs.Common.{◌≡◌, ℕ, suc, ◌+◌, ◌-◌, ◌<◌, Bool, true, false, List, ◌∷◌, refl, ap, ◌∙◌, arith, if◌then◌else◌}
use Rattle.composables.specs.TrackSets.{has_track, tracks_from}
use Rattle.edit_apply.specs.Apply.{lowest}
use Rattle.edit_apply.proofs.Sets.{tracks_after}

past_step : (c : Bool) (t : ℕ) (rest : List ℕ) → c ≡ false → lowest (if c then t ∷ rest else rest) ≡ lowest rest
past_step false t rest e = refl
past_step true t rest e = absurd (Prim.grind (arith, e))

found_step : (c : Bool) (t : ℕ) (rest : List ℕ) → c ≡ true → lowest (if c then t ∷ rest else rest) ≡ t
found_step true t rest e = refl
found_step false t rest e = absurd (Prim.grind (arith, e))

past_one : (s t n m : ℕ) → n ≡ suc m → has_track s t ≡ false → lowest (tracks_from s t n) ≡ lowest (tracks_from s (suc t) m)
past_one s t n m e f = ap (λ (k : ℕ). lowest (tracks_from s t k)) e ∙ past_step (has_track s t) t (tracks_from s (suc t) m) f

found_one : (s t n m : ℕ) → n ≡ suc m → has_track s t ≡ true → lowest (tracks_from s t n) ≡ t
found_one s t n m e f = ap (λ (k : ℕ). lowest (tracks_from s t k)) e ∙ found_step (has_track s t) t (tracks_from s (suc t) m) f

pub low-past : (s t : ℕ) → t < 32 → has_track s t ≡ false → lowest (tracks_after s t) ≡ lowest (tracks_after s (t + 1))
unfolding tracks_after
low-past s t h f = past_one s t (32 - t) (32 - suc t) (omega (arith, h)) f ∙ ap (λ (k : ℕ). lowest (tracks_from s k (32 - k))) (let e : suc t ≡ t + 1 = omega arith in e)

pub low-found : (s t : ℕ) → t < 32 → has_track s t ≡ true → lowest (tracks_after s t) ≡ t
unfolding tracks_after
low-found s t h f = found_one s t (32 - t) (32 - suc t) (omega (arith, h)) f

pub low-end : (s t : ℕ) → t ≡ 32 → lowest (tracks_after s t) ≡ 0
unfolding tracks_after
low-end s t e = ap (λ (k : ℕ). lowest (tracks_from s t k)) (let z : 32 - t ≡ 0 = omega (arith, e) in z)
