-- The one first word that a word can be, by its length and some of its bytes. It is where the code looks; which first
-- word a word is says first_word_of.
use Rattle.std.specs.Prelude.{ℕ, Option, Some, None, nat_eq, if◌then◌else◌}
use Rattle.line_table.specs.declared.first_words.FirstWord.{FirstWord}
use Rattle.line_table.specs.declared.first_words.FirstWord.TheVariants as first_word

-- of four bytes, by the first
abbrev pub of_four : ℕ → Option FirstWord
of_four first =
    if nat_eq first 116 then Some first_word.Trim
    else if nat_eq first 115 then Some first_word.Slip
    else if nat_eq first 114 then Some first_word.Roll
    else if nat_eq first 102 then Some first_word.Fill
    else if nat_eq first 108 then Some first_word.Link
    else if nat_eq first 118 then Some first_word.View
    else if nat_eq first 111 then Some first_word.Otio
    else if nat_eq first 98 then Some first_word.Back
    else if nat_eq first 110 then Some first_word.News
    else None

-- of five, by the first and the fourth
abbrev pub of_five : ℕ → ℕ → Option FirstWord
of_five first fourth =
    if nat_eq first 105 then Some first_word.Items
    else if nat_eq first 112 then Some first_word.Point
    else if nat_eq first 115 then
    (if nat_eq fourth 99 then Some first_word.Slice else Some first_word.Slide)
    else None

-- of six, by the first and the second
abbrev pub of_six : ℕ → ℕ → Option FirstWord
of_six first second =
    if nat_eq first 105 then Some first_word.Insert
    else if nat_eq first 117 then Some first_word.Unlink
    else if nat_eq first 114 then
    (if nat_eq second 101 then Some first_word.Remove else Some first_word.Ripple)
    else None

-- of any length, by the first, the second and the fourth byte
abbrev pub likely : ℕ → ℕ → ℕ → ℕ → Option FirstWord
likely length first second fourth =
    if nat_eq length 4 then of_four first
    else if nat_eq length 5 then of_five first fourth
    else if nat_eq length 6 then of_six first second
    else if nat_eq length 7 then Some first_word.Extract
    else if nat_eq length 8 then Some first_word.Dissolve
    else if nat_eq length 9 then Some first_word.Overwrite
    else if nat_eq length 10 then Some first_word.Undissolve
    else None
