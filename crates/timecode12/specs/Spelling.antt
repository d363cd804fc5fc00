-- How a label is written: two digits four times, with ':' between and ':' or ';' before the frames.
use Rattle.std.specs.Prelude.{◌≡◌, ℕ, ◌+◌, ◌/◌, ◌%◌, ◌<◌, [], ◌∷◌, ◌++◌, List, ◌⊎◌}
use Rattle.timecode12.specs.declared.label.Label.{Label}

-- a number below 100 as two decimal digits
abbrev pub two_digits : ℕ → List ℕ
two_digits n = (48 + n / 10) ∷ (48 + n % 10) ∷ []

-- the mark before the frames is ':' or ';'
abbrev pub IsMark : ℕ → Type 0
IsMark mark = (mark ≡ 58) ⊎ (mark ≡ 59)

abbrev pub text_of : Label → ℕ → List ℕ
text_of label mark =
    two_digits label.hours ++ 58 ∷ two_digits label.minutes
    ++ 58 ∷ two_digits label.seconds ++ mark ∷ two_digits label.frames

pub record HasTwoDigits (label : Label) : Type 0 where
  pub hours : label.hours < 100
  pub minutes : label.minutes < 100
  pub seconds : label.seconds < 100
  pub frames : label.frames < 100

-- the text writes the label, with one mark or the other
abbrev pub Spells : List ℕ → Label → Type 0
Spells text label = HasTwoDigits label × ((text ≡ text_of label 58) ⊎ (text ≡ text_of label 59))
