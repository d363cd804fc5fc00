-- Three tracks, and their numbers, for the tests.
use Rattle.std.proofs.Common.{◌≡◌, ℕ, zero, suc, ◌+◌, ◌<◌, true, false, Bool, eqb, List, [], ◌∷◌, ◌++◌, All, length, map, refl, sym, ap, ◌∙◌, arith, subst, get_or, nat_eq}
use Rattle.std.specs.List.{list_any}
use Rattle.std.proofs.lemmas.Bool.{eqb-true, eqb-false}
use Rattle.std.proofs.lemmas.List.{get_or_default}
use Rattle.std.proofs.lemmas.List.Elements.{All-cons}
use Rattle.composables.specs.Roomy.{IsRoomy}
use Rattle.composables.specs.TrackState.{TrackState}
use Rattle.composables.specs.TrackSets.{tracks_in}

pub three-are : (us vs ws xs : List TrackState) (a b d : TrackState) → us ≡ [] → vs ≡ us ++ a ∷ [] → ws ≡ vs ++ b ∷ [] → xs ≡ ws ++ d ∷ [] → xs ≡ a ∷ b ∷ d ∷ []
three-are us vs ws xs a b d e f g h =
    h ∙ ap (λ (l : List TrackState). l ++ d ∷ []) (g ∙ ap (λ (l : List TrackState). l ++ b ∷ []) (f ∙ ap (λ (l : List TrackState). l ++ a ∷ []) e))

pub three-numbers : (xs : List TrackState) (a b d : TrackState) → xs ≡ a ∷ b ∷ d ∷ [] → a.number ≡ 0 → b.number ≡ 1 → d.number ≡ 2 → map (λ (t : TrackState). t.number) xs ≡ tracks_in 7
unfolding tracks_in
three-numbers xs a b d e f g h =
    ap (map (λ (t : TrackState). t.number)) e
    ∙ (ap (λ (n : ℕ). n ∷ b.number ∷ d.number ∷ []) f ∙ (ap (λ (n : ℕ). 0 ∷ n ∷ d.number ∷ []) g ∙ ap (λ (n : ℕ). 0 ∷ 1 ∷ n ∷ []) h))

pub three-all : (P : TrackState → Type 0) (xs : List TrackState) (a b d : TrackState) → xs ≡ a ∷ b ∷ d ∷ [] → P a → P b → P d → All P xs
three-all P xs a b d e f g h =
    subst (All P) (sym e) (All-cons P a (b ∷ d ∷ []) f (All-cons P b (d ∷ []) g (All-cons P d [] h none))) where
      none : All P []
      none k d lt = absurd (omega (arith, lt))

below_three : (t : ℕ) → t < 3 → list_any (nat_eq t) (tracks_in 7) ≡ true
unfolding tracks_in
below_three zero h = refl
below_three (suc zero) h = refl
below_three (suc (suc zero)) h = refl
below_three (suc (suc (suc t))) h = absurd (omega (arith, h))

pub one-of-three : (tracks t : ℕ) → tracks ≡ 7 → t < 3 → list_any (nat_eq t) (tracks_in tracks) ≡ true
one-of-three tracks t e h = ap (λ (s : ℕ). list_any (nat_eq t) (tracks_in s)) e ∙ below_three t h
