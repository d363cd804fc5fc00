-- What holds of each recording.
use Rattle.std.proofs.Common.{◌≡◌, ℕ, zero, suc, ◌+◌, List, [], ◌∷◌, ◌++◌, Some, length, slice_get, subst, arith}
use Rattle.audit_command.specs.Explained.{Each}
use Rattle.audit_command.specs.Recordings.{Recording}

pub each_map : (So To : ℕ → Recording → Type 0) → ((station : ℕ) (r : Recording) → So station r → To station r) → (station : ℕ) (rs : List Recording)
    → Each So station rs → Each To station rs
each_map So To f station [] h = tt
each_map So To f station (r ∷ rs) h = (f station r h.0, each_map So To f (station + 1) rs h.1)

pub each_at : (So : ℕ → Recording → Type 0) (station : ℕ) (rs : List Recording) (at : ℕ) (r : Recording) → slice_get rs at ≡ Some r
    → Each So station rs → So (station + at) r
each_at So station [] at r is h = absurd (Prim.grind (arith, is))
each_at So station (s ∷ rs) zero r is h =
    let here : station ≡ station + 0 = omega arith in
    subst (λ n. So n r) here (subst (So station) (one s r is) h.0) where
      one : (a b : Recording) → Some a ≡ Some b → a ≡ b
      one a b e = Prim.grind (arith, e)
each_at So station (s ∷ rs) (suc at) r is h =
    let next : station + 1 + at ≡ station + suc at = omega arith in
    subst (λ n. So n r) next (each_at So (station + 1) rs at r is h.1)

pub each_push : (So : ℕ → Recording → Type 0) (station : ℕ) (rs : List Recording) (r : Recording) → Each So station rs → So (station + length rs) r
    → Each So station (rs ++ r ∷ [])
each_push So station [] r h last =
    let here : station + 0 ≡ station = omega arith in
    (subst (λ n. So n r) here last, tt)
each_push So station (s ∷ rs) r h last =
    let next : station + suc (length rs) ≡ station + 1 + length rs = omega arith in
    (h.0, each_push So (station + 1) rs r h.1 (subst (λ n. So n r) next last))
