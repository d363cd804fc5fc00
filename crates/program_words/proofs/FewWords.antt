-- Lists of one word, of two, and of other counts.
use Rattle.std.proofs.Common.{◌≡◌, ℕ, List, [], ◌∷◌, Some, None, Option, length, slice_get, ap, arith, ◌∙◌, refl}
use Rattle.std.proofs.lemmas.Option.{same_Some}
use Rattle.program_words.specs.Notices.{notice_of}

pub one_word : (xs : List (List ℕ)) (x : List ℕ) → length xs ≡ 1 → slice_get xs 0 ≡ Some x → xs ≡ x ∷ []
one_word [] x n e = absurd (omega arith)
one_word (y ∷ []) x n e = ap (λ word. word ∷ []) (same_Some y x e)
one_word (y ∷ z ∷ ys) x n e = absurd (omega arith)

pub two_words : (xs : List (List ℕ)) (x y : List ℕ) → length xs ≡ 2 → slice_get xs 0 ≡ Some x → slice_get xs 1 ≡ Some y → xs ≡ x ∷ y ∷ []
two_words [] x y n e f = absurd (omega (arith, n))
two_words (a ∷ []) x y n e f = absurd (omega (arith, n))
two_words (a ∷ b ∷ []) x y n e f = ap (λ (w : List ℕ). w ∷ b ∷ []) (same_Some a x e) ∙ ap (λ (w : List ℕ). x ∷ w ∷ []) (same_Some b y f)
two_words (a ∷ b ∷ c ∷ xs) x y n e f = absurd (omega (arith, n))

pub other_words : (xs : List (List ℕ)) → (length xs ≡ 1 → ⊥) → (length xs ≡ 2 → ⊥) → notice_of xs ≡ None
other_words [] p q = refl
other_words (a ∷ []) p q = absurd (p (omega arith))
other_words (a ∷ b ∷ []) p q = absurd (q (omega arith))
other_words (a ∷ b ∷ c ∷ xs) p q = refl
