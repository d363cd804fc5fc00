-- The fields of a label have two digits.
use Rattle.std.proofs.Common.{ℕ, ◌<◌, ◌≤◌, inl, inr, arith}
use Rattle.std.proofs.lemmas.Bool.{cases_lt}
use Rattle.timecode12.specs.declared.label.Label.{Label}
use Rattle.timecode12.specs.declared.rate.SequenceRate.{SequenceRate}
use Rattle.timecode12.specs.declared.rate.SequenceRate.TheVariants.{F23976, F24, F25, F2997, F30}
use Rattle.timecode12.specs.Labels.{IsLabelOf}
use Rattle.timecode12.specs.Numbers.{Counted, numbers_a_second}
use Rattle.timecode12.specs.Spelling.{HasTwoDigits}
use Rattle.timecode12.proofs.Told.{no_large}

numbers_small : (r : SequenceRate) → numbers_a_second r ≤ 30
numbers_small F23976 = omega arith
numbers_small F24 = omega arith
numbers_small F25 = omega arith
numbers_small F2997 = omega arith
numbers_small F30 = omega arith

pub two_digits : (c : Counted) (l : Label) (frame : ℕ) → IsLabelOf c frame l → HasTwoDigits l
two_digits c l frame found =
    let hours : l.hours < 100 = elim (cases_lt l.hours 24) [ inl h ↦ omega (arith, h) | inr h ↦ absurd (no_large c l frame found (inl h)) ] in
    let minutes : l.minutes < 100 = elim (cases_lt l.minutes 60) [ inl h ↦ omega (arith, h) | inr h ↦ absurd (no_large c l frame found (inr (inl h))) ] in
    let seconds : l.seconds < 100 = elim (cases_lt l.seconds 60) [ inl h ↦ omega (arith, h) | inr h ↦ absurd (no_large c l frame found (inr (inr (inl h)))) ] in
    let frames : l.frames < 100 =
    elim (cases_lt l.frames (numbers_a_second c.rate)) [ inl h ↦ omega (arith, h, numbers_small c.rate) | inr h ↦ absurd (no_large c l frame found (inr (inr (inr h)))) ]
    in record { hours = hours; minutes = minutes; seconds = seconds; frames = frames }
