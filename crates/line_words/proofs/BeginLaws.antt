-- Where the words of a line begin and end.
use Rattle.std.proofs.Common.{◌≡◌, ℕ, ◌<◌, ◌≤◌, List, Bool, true, false, length, get_or, sym, ap, ◌∙◌, arith, inl, inr}
use Rattle.std.proofs.lemmas.Bool.{cases_lt}
use Rattle.line_words.specs.Blanks.{is_blank}

clash : (b : Bool) → b ≡ true → b ≡ false → ⊥
clash true t f = Prim.grind (arith, f)
clash false t f = Prim.grind (arith, t)

-- what begins with a byte that is no blank, and ends before a blank or with the line, has a byte
pub filled : (line : List ℕ) (start end : ℕ) → start ≤ end → start < length line → is_blank (get_or line start 0) ≡ false
    → (end < length line → is_blank (get_or line end 0) ≡ true) → start < end
filled line start end h within f ends = elim (cases_lt start end) [
  | inl lt ↦ lt
  | inr ge ↦ let same : end ≡ start = omega arith in
      absurd (clash (is_blank (get_or line start 0)) (ap (λ k. is_blank (get_or line k 0)) (sym same) ∙ ends (omega arith)) f)
]
