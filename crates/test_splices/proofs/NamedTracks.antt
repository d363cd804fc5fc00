-- Two tracks that are named.
use Rattle.std.proofs.Common.{◌≡◌, ℕ, zero, suc, ◌+◌, ◌<◌, List, [], ◌∷◌, ◌++◌, All, length, map, get_or, Bool, true, false, eqb, refl, sym, ap, ◌∙◌, arith, subst}
use Rattle.std.proofs.lemmas.Bool.{eqb-true, eqb-false}
use Rattle.std.proofs.lemmas.List.{get_or_default}
use Rattle.composables.specs.Roomy.{IsRoomy}
use Rattle.composables.specs.TrackSets.{tracks_in}
use Rattle.composables.specs.TrackState.{TrackState}

pub two-numbers : (us vs ws : List TrackState) (t u : TrackState) (n : ℕ) → us ≡ [] → vs ≡ us ++ t ∷ [] → ws ≡ vs ++ u ∷ [] → t.number ≡ 0 → u.number ≡ 1 → n ≡ 3
    → map (λ (t : TrackState). t.number) ws ≡ tracks_in n
unfolding tracks_in
two-numbers us vs ws t u n e f g zero_is one_is three =
    let both : ws ≡ t ∷ u ∷ [] = g ∙ ap (λ (l : List TrackState). l ++ u ∷ []) (f ∙ ap (λ (l : List TrackState). l ++ t ∷ []) e) in
    ap (map (λ (t : TrackState). t.number)) both
    ∙ (ap (λ (k : ℕ). k ∷ u.number ∷ []) zero_is ∙ (ap (λ (k : ℕ). 0 ∷ k ∷ []) one_is ∙ ap tracks_in (sym three)))

pub all-two : (P : TrackState → Type 0) (us vs ws : List TrackState) (t u : TrackState) → us ≡ [] → vs ≡ us ++ t ∷ [] → ws ≡ vs ++ u ∷ [] → P t → P u → All P ws
all-two P us vs ws t u e f g p q =
    let both : ws ≡ t ∷ u ∷ [] = g ∙ ap (λ (l : List TrackState). l ++ u ∷ []) (f ∙ ap (λ (l : List TrackState). l ++ t ∷ []) e) in
    subst (λ (l : List TrackState). All P l) (sym both) each where
      each : All P (t ∷ u ∷ [])
      each zero d lt = p
      each (suc zero) d lt = q
      each (suc (suc k)) d lt = absurd (omega (arith, lt))
