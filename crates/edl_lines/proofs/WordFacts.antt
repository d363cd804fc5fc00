-- The first words of a line.
use Rattle.std.proofs.Common.{◌≡◌, ℕ, zero, suc, ◌≤◌, List, [], ◌∷◌, ◌++◌, length, take, refl, sym, ap, ◌∙◌, arith}
use Rattle.line_words.specs.declared.line.LineEnd.{LineEnd}
use Rattle.timecode12.specs.Numbers.{Counted}
use Rattle.timecode12.specs.declared.rate.SequenceRate.{SequenceRate}
use Rattle.edl_lines.specs.EventLines.{words_say}

-- ten words tell what a line says
pub kept_words : (rate : SequenceRate) (counting : Counted) (end : LineEnd) (words : List (List ℕ)) → words_say rate counting end (take 10 words) ≡ words_say rate counting end words
kept_words rate counting end [] = refl
kept_words rate counting end (a ∷ []) = refl
kept_words rate counting end (a ∷ b ∷ []) = refl
kept_words rate counting end (a ∷ b ∷ c ∷ []) = refl
kept_words rate counting end (a ∷ b ∷ c ∷ d ∷ []) = refl
kept_words rate counting end (a ∷ b ∷ c ∷ d ∷ e ∷ []) = refl
kept_words rate counting end (a ∷ b ∷ c ∷ d ∷ e ∷ f ∷ []) = refl
kept_words rate counting end (a ∷ b ∷ c ∷ d ∷ e ∷ f ∷ g ∷ []) = refl
kept_words rate counting end (a ∷ b ∷ c ∷ d ∷ e ∷ f ∷ g ∷ h ∷ []) = refl
kept_words rate counting end (a ∷ b ∷ c ∷ d ∷ e ∷ f ∷ g ∷ h ∷ i ∷ []) = refl
kept_words rate counting end (a ∷ b ∷ c ∷ d ∷ e ∷ f ∷ g ∷ h ∷ i ∷ j ∷ ws) = refl

take_front : (n : ℕ) (xs ys : List (List ℕ)) → length xs ≡ n → take n (xs ++ ys) ≡ xs
take_front zero [] ys h = refl
take_front zero (x ∷ xs) ys h = absurd (omega arith)
take_front (suc n) [] ys h = absurd (omega arith)
take_front (suc n) (x ∷ xs) ys h = ap (λ (zs : List (List ℕ)). x ∷ zs) (take_front n xs ys (omega arith))

take_whole : (n : ℕ) (xs : List (List ℕ)) → length xs ≤ n → take n (xs ++ []) ≡ xs
take_whole zero [] h = refl
take_whole zero (x ∷ xs) h = absurd (omega arith)
take_whole (suc n) [] h = refl
take_whole (suc n) (x ∷ xs) h = ap (λ (zs : List (List ℕ)). x ∷ zs) (take_whole n xs (omega arith))

-- the words so far are the first ones, where no more are kept, and where no more come
pub front_of : (n : ℕ) (xs ys zs : List (List ℕ)) → xs ++ ys ≡ zs → length xs ≡ n → xs ≡ take n zs
front_of n xs ys zs same count = sym (take_front n xs ys count) ∙ ap (take n) same

pub all_of : (n : ℕ) (xs ys zs : List (List ℕ)) → xs ++ ys ≡ zs → ys ≡ [] → length xs ≤ n → xs ≡ take n zs
all_of n xs ys zs same none count = sym (take_whole n xs count) ∙ (ap (λ (ws : List (List ℕ)). take n (xs ++ ws)) (sym none) ∙ ap (take n) same)
