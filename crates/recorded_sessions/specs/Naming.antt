-- The point that a reply names, by its words.
use Rattle.std.specs.Prelude.{ℕ, Bool, false, List, [], ◌∷◌, Option, Some, None, Result, Ok, Err, bytes_eq, codes, if◌then◌else◌}
use Rattle.line_words.specs.Blanks.{words_of}
use Rattle.line_words.specs.Digits.{number_of}
use Rattle.line_words.specs.declared.numbers.NumberFault.{NumberFault}

-- the number that was read
abbrev pub number_read : Result ℕ NumberFault → Option ℕ
number_read (Ok n) = Some n
number_read (Err fault) = None

-- the number that the first of the words is
abbrev pub number_in : List (List ℕ) → Option ℕ
number_in [] = None
number_in (word ∷ words) = number_read (number_of word)

-- this is the first of the words
abbrev pub leads : List ℕ → List (List ℕ) → Bool
leads word [] = false
leads word (first ∷ words) = bytes_eq first word

-- all but the first
abbrev pub tail : List (List ℕ) → List (List ℕ)
tail [] = []
tail (word ∷ words) = words

-- the point that these words name: the second of them, and of news the third
abbrev pub point_in : List (List ℕ) → Option ℕ
point_in words = if leads (codes "news") words then number_in (tail (tail words)) else number_in (tail words)

-- the point that a reply names
abbrev pub point_named : List ℕ → Option ℕ
point_named reply = point_in (words_of reply)
