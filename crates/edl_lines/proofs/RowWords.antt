-- The words of a line of a dissolve, one by one.
use Rattle.std.proofs.Common.{◌≡◌, ℕ, ◌<◌, ◌≤◌, List, [], ◌∷◌, Bor, length, map, get_or, refl, arith}

-- where no word is
abbrev pub no_word : Bor (List ℕ)
no_word = record { ref_ptr = (0, 0); now = [] }

pub nine_words : (ws : List (Bor (List ℕ))) → 9 ≤ length ws → length ws < 10
    → map (λ w. w.now) ws ≡ (get_or ws 0 no_word).now ∷ (get_or ws 1 no_word).now ∷ (get_or ws 2 no_word).now ∷ (get_or ws 3 no_word).now ∷ (get_or ws 4 no_word).now ∷ (get_or ws 5 no_word).now ∷ (get_or ws 6 no_word).now ∷ (get_or ws 7 no_word).now ∷ (get_or ws 8 no_word).now ∷ []
nine_words [] h k = absurd (omega (arith, h))
nine_words (a ∷ []) h k = absurd (omega (arith, h))
nine_words (a ∷ b ∷ []) h k = absurd (omega (arith, h))
nine_words (a ∷ b ∷ c ∷ []) h k = absurd (omega (arith, h))
nine_words (a ∷ b ∷ c ∷ e ∷ []) h k = absurd (omega (arith, h))
nine_words (a ∷ b ∷ c ∷ e ∷ f ∷ []) h k = absurd (omega (arith, h))
nine_words (a ∷ b ∷ c ∷ e ∷ f ∷ g ∷ []) h k = absurd (omega (arith, h))
nine_words (a ∷ b ∷ c ∷ e ∷ f ∷ g ∷ i ∷ []) h k = absurd (omega (arith, h))
nine_words (a ∷ b ∷ c ∷ e ∷ f ∷ g ∷ i ∷ j ∷ []) h k = absurd (omega (arith, h))
nine_words (a ∷ b ∷ c ∷ e ∷ f ∷ g ∷ i ∷ j ∷ m ∷ []) h k = refl
nine_words (a ∷ b ∷ c ∷ e ∷ f ∷ g ∷ i ∷ j ∷ m ∷ l ∷ ws) h k = absurd (omega (arith, k))
