use Rattle.std.proofs.Common.{◌≡◌, ℕ, List, ◌∷◌, ◌++◌, Some, take, drop, refl, sym, ap, ◌∙◌, lit<}
use Rattle.std.specs.Str.Pattern.{RFindsChar}
use Rattle.std.proofs.lemmas.List.{take-append-drop}
use Rattle.std.proofs.lemmas.Str.Pattern.{NoCharPasses-char, drop_at_char}
use Rattle.crew_words.specs.Addresses.{HasNoAt}
use Rattle.crew_words.proofs.address.address_in.Goals as goal

-- a text is parted at its last `@`
parted : (word : List ℕ) (i j : ℕ) → RFindsChar 64 word (Some (i, j)) → word ≡ take i word ++ 64 ∷ drop j word
parted word i j found = sym (take-append-drop i word) ∙ ap (λ (rest : List ℕ). take i word ++ rest) (drop_at_char 64 word i j found.1 (lit< tt))

parts : (word file back : List ℕ) (i j : ℕ) → RFindsChar 64 word (Some (i, j)) → file ≡ take i word → back ≡ drop j word → (word ≡ file ++ 64 ∷ back) × HasNoAt back
parts word file back i j found front_is back_is =
    rw (front_is, back_is) (parted word i j found, λ k inside. NoCharPasses-char 64 (drop j word) k found.0 (lit< tt) inside)

pub returns-in-Some : goal.returns-in-Some
returns-in-Some c = let h = c.in-Some.ensures.cases in parts c.args.word.now _ _ h.0 h.1 h.2 h.3 h.4

pub returns-in-None : goal.returns-in-None
returns-in-None c = (refl, λ k inside. NoCharPasses-char 64 c.args.word.now k c.in-None.ensures.cases (lit< tt) inside)
