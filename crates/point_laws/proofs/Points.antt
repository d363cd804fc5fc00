-- The second word of a reply is a number, and the third of news.
use Rattle.std.proofs.Common.{◌≡◌, ℕ, ◌<◌, ◌^◌, ◌⊎◌, inl, inr, List, [], ◌∷◌, ◌++◌, Some, false, bytes_eq, codes, refl, ap, ◌∙◌}
use Rattle.std.proofs.lemmas.List.{append-nil}
use Rattle.std.specs.Fmt.{decimal}
use Rattle.line_table.proofs.WrittenParts.{IsWord-decimal, IsWord-tested}
use Rattle.line_words.specs.Blanks.{IsWord, words_of}
use Rattle.line_words.proofs.DigitLaws.{number_of-decimal}
use Rattle.line_words.proofs.WordLaws.{words_of-last, words_of-word}
use Rattle.recorded_sessions.specs.Naming.{number_in, number_read, point_in, point_named}

-- a text that ends a word before it: nothing, or one that begins with a blank
abbrev pub IsApart : List ℕ → Type 0
IsApart rest = (rest ≡ []) ⊎ ((more : List ℕ) × (rest ≡ 32 ∷ more))

number_first : (n : ℕ) (words : List (List ℕ)) → n < 2 ^ 32 → number_in (decimal n ∷ words) ≡ Some n
number_first n words h = ap number_read (number_of-decimal n h)

number_words : (n : ℕ) (rest : List ℕ) → n < 2 ^ 32 → IsApart rest → number_in (words_of (decimal n ++ rest)) ≡ Some n
number_words n rest h apart = elim apart [
  | inl none ↦
      ap number_in (ap (λ r. words_of (decimal n ++ r)) none ∙ ap words_of (append-nil (decimal n)) ∙ words_of-last (decimal n) (IsWord-decimal n h))
      ∙ number_first n [] h
  | inr some ↦
      ap number_in (ap (λ r. words_of (decimal n ++ r)) some.1 ∙ words_of-word (decimal n) 32 some.0 (IsWord-decimal n h) refl)
      ∙ number_first n (words_of some.0) h
]

-- a word that is not `news`, and then a number
pub second : (word : List ℕ) → IsWord word → bytes_eq word (codes "news") ≡ false → (n : ℕ) (rest : List ℕ) → n < 2 ^ 32 → IsApart rest
    → point_named (word ++ 32 ∷ (decimal n ++ rest)) ≡ Some n
second word is other n rest h apart =
    ap point_in (words_of-word word 32 (decimal n ++ rest) is refl) ∙ rw other (number_words n rest h apart)

-- `news` and two numbers
pub third : (p n : ℕ) (rest : List ℕ) → p < 2 ^ 32 → n < 2 ^ 32 → IsApart rest
    → point_named (codes "news" ++ 32 ∷ (decimal p ++ 32 ∷ (decimal n ++ rest))) ≡ Some n
third p n rest h k apart =
    ap point_in
    (words_of-word (codes "news") 32 (decimal p ++ 32 ∷ (decimal n ++ rest)) (IsWord-tested (codes "news") refl) refl
    ∙ ap (λ words. codes "news" ∷ words) (words_of-word (decimal p) 32 (decimal n ++ rest) (IsWord-decimal p h) refl))
    ∙ number_words n rest k apart
