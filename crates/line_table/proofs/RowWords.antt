-- The words of a row, one by one.
use Rattle.std.proofs.Common.{◌≡◌, ℕ, ◌<◌, ◌≤◌, List, [], ◌∷◌, Ok, Bor, length, map, drop, get_or, refl, arith}
use Rattle.std.proofs.lemmas.Bool.{le-leb}
use Rattle.std.proofs.lemmas.List.{length-map}
use Rattle.line_table.specs.Reading.{texts_of}
use Rattle.line_table.specs.Spelling.{at_most_of}

-- where no word is
abbrev pub no_word : Bor (List ℕ)
no_word = record { ref_ptr = (0, 0); now = [] }

pub four_words : (ws : List (Bor (List ℕ))) → 4 ≤ length ws → length ws < 5
    → map (λ w. w.now) ws ≡ (get_or ws 0 no_word).now ∷ (get_or ws 1 no_word).now ∷ (get_or ws 2 no_word).now ∷ (get_or ws 3 no_word).now ∷ []
four_words [] h k = absurd (omega (arith, h))
four_words (a ∷ []) h k = absurd (omega (arith, h))
four_words (a ∷ b ∷ []) h k = absurd (omega (arith, h))
four_words (a ∷ b ∷ c ∷ []) h k = absurd (omega (arith, h))
four_words (a ∷ b ∷ c ∷ e ∷ []) h k = refl
four_words (a ∷ b ∷ c ∷ e ∷ f ∷ ws) h k = absurd (omega (arith, k))

pub five_words : (ws : List (Bor (List ℕ))) → 5 ≤ length ws → length ws < 6
    → map (λ w. w.now) ws ≡ (get_or ws 0 no_word).now ∷ (get_or ws 1 no_word).now ∷ (get_or ws 2 no_word).now ∷ (get_or ws 3 no_word).now ∷ (get_or ws 4 no_word).now ∷ []
five_words [] h k = absurd (omega (arith, h))
five_words (a ∷ []) h k = absurd (omega (arith, h))
five_words (a ∷ b ∷ []) h k = absurd (omega (arith, h))
five_words (a ∷ b ∷ c ∷ []) h k = absurd (omega (arith, h))
five_words (a ∷ b ∷ c ∷ e ∷ []) h k = absurd (omega (arith, h))
five_words (a ∷ b ∷ c ∷ e ∷ f ∷ []) h k = refl
five_words (a ∷ b ∷ c ∷ e ∷ f ∷ g ∷ ws) h k = absurd (omega (arith, k))

pub six_words_up : (ws : List (Bor (List ℕ))) → 6 ≤ length ws
    → map (λ w. w.now) ws ≡ (get_or ws 0 no_word).now ∷ (get_or ws 1 no_word).now ∷ (get_or ws 2 no_word).now ∷ (get_or ws 3 no_word).now ∷ (get_or ws 4 no_word).now ∷ (get_or ws 5 no_word).now ∷ map (λ w. w.now) (drop 6 ws)
six_words_up [] h = absurd (omega (arith, h))
six_words_up (a ∷ []) h = absurd (omega (arith, h))
six_words_up (a ∷ b ∷ []) h = absurd (omega (arith, h))
six_words_up (a ∷ b ∷ c ∷ []) h = absurd (omega (arith, h))
six_words_up (a ∷ b ∷ c ∷ e ∷ []) h = absurd (omega (arith, h))
six_words_up (a ∷ b ∷ c ∷ e ∷ f ∷ []) h = absurd (omega (arith, h))
six_words_up (a ∷ b ∷ c ∷ e ∷ f ∷ g ∷ ws) h = refl

-- words that are few enough
pub few_words : (most : ℕ) (ws : List (Bor (List ℕ))) → length ws ≤ most → at_most_of most (texts_of ws) ≡ Ok tt
few_words most ws h =
    let count = length-map ws (λ w. w.now) in
    let low = le-leb (length (texts_of ws)) most (omega (arith, h, count)) in
    rw low refl
