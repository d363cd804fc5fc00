-- How the parts of a line are spelled, each as what its word says, or why the word is wrong: B3 where
-- it is not spelled so, B4 where a number is past its bound, B6 where a list of tracks does not rise,
-- B1 where a word that must be `head`, `tail`, `source`, `sequence` or `keep` is another, and B2 where
-- words stand behind the last of a row.
-- This project's own protocol.
use Rattle.std.specs.Prelude.{◌≡◌, ◌⊎◌, ℕ, ℤ, ◌+◌, ◌^◌, Bool, true, false, List, [], ◌∷◌, Option, Some, None, Result, Ok, Err, length, nat_le, ◌==◌, if◌then◌else◌, bytes_eq, codes}
use Rattle.std.specs.List.{slice_split}
use Rattle.line_words.specs.Digits.{number_of, signed_of}
use Rattle.line_words.specs.declared.numbers.NumberFault.{NumberFault}
use Rattle.line_words.specs.declared.numbers.NumberFault.TheVariants.{NotANumber, TooLarge}
use Rattle.composables.specs.declared.calls.End.{End}
use Rattle.composables.specs.declared.calls.End.TheVariants.{Head, Tail}
use Rattle.composables.specs.declared.calls.FillLength.{FillLength}
use Rattle.composables.specs.declared.calls.FillLength.TheVariants.{Source, Sequence}
use Rattle.frame_meaning.specs.declared.cells.What.{What}
use Rattle.frame_meaning.specs.declared.cells.What.TheVariants.{Media, Nest}
use Rattle.line_table.specs.declared.parts.TheConstants.{LAST_TRACK}
use Rattle.protocol_parts.specs.LineFaults.{number_fault}
use Rattle.protocol_parts.specs.declared.line_fault.LineFault.{LineFault}
use Rattle.protocol_parts.specs.declared.line_fault.LineFault.TheVariants.{B1, B2, B3, B4, B6, Memory}

-- this value, or want of memory
abbrev pub IsOrMemory : {A : Type 0} → Result A LineFault → Result A LineFault → Type 0
IsOrMemory value result = (result ≡ value) ⊎ (result ≡ Err Memory)

-- which place a word names as a label, if it names one
abbrev pub Naming : Type 0
Naming = List ℕ → Option ℕ

-- go on with what was read, or end at the first fault
infixl 10 ◌>>=◌
abbrev pub ◌>>=◌ :
    {A B : Type 0} → Result A LineFault → (A → Result B LineFault) → Result B LineFault
(Ok x) >>= f = f x
(Err e) >>= f = Err e

abbrev pub number_or_fault : {A : Type 0} → Result A NumberFault → Result A LineFault
number_or_fault (Ok n) = Ok n
number_or_fault (Err fault) = Err (number_fault fault)

-- a number: decimal digits, at most 4,294,967,295
abbrev pub numeral_of : List ℕ → Result ℕ LineFault
numeral_of word = number_or_fault (number_of word)

-- a delta: digits, with or without one `-` before them, from -2,147,483,648 to 2,147,483,647
abbrev pub delta_of : List ℕ → Result ℤ LineFault
delta_of word = number_or_fault (signed_of word)

-- an end of an item, by its word
abbrev pub end_of : List ℕ → Result End LineFault
end_of word =
    if bytes_eq word (codes "head") then Ok Head
    else if bytes_eq word (codes "tail") then Ok Tail
    else Err B1

-- a word that must be this one
abbrev pub given_of : List ℕ → List ℕ → Result (Unit {0}) LineFault
given_of given word = if bytes_eq word given then Ok tt else Err B1

-- so many words at most
abbrev pub at_most_of : ℕ → List (List ℕ) → Result (Unit {0}) LineFault
at_most_of most words = if nat_le (length words) most then Ok tt else Err B2

-- whether dissolves are kept: the word behind a row, if there is one, must be `keep`
abbrev pub keep_of : List (List ℕ) → Result Bool LineFault
keep_of [] = Ok false
keep_of (word ∷ words) = given_of (codes "keep") word >>= (λ given. Ok true)

-- how much is filled, and whether dissolves are kept: `sequence`, or `source` and a number, and what
-- stands behind
abbrev pub filled_of : List ℕ → List (List ℕ) → Result (FillLength × Bool) LineFault
filled_of how [] = given_of (codes "sequence") how >>= (λ given. Ok (Sequence, false))
filled_of how (last ∷ []) =
    if bytes_eq how (codes "sequence") then keep_of (last ∷ []) >>= (λ keep. Ok (Sequence, keep))
    else given_of (codes "source") how >>= (λ given. numeral_of last >>= (λ n. Ok (Source n, false)))
filled_of how (len ∷ last ∷ words) = do
  given ← given_of (codes "source") how
  n ← numeral_of len
  keep ← keep_of (last ∷ words)
  Ok (Source n, keep)

-- a track: a number, at most 31
abbrev pub track_of : List ℕ → Result ℕ LineFault
track_of word = do
  track ← numeral_of word
  if nat_le track LAST_TRACK then Ok track else Err B4

-- tracks parted by commas (44)
abbrev pub is_comma : ℕ → Bool
is_comma byte = byte == 44

-- what stands between the commas of a list, if there is one
abbrev pub listed_in : Option (List ℕ) → List (List ℕ)
listed_in None = []
listed_in (Some list) = slice_split is_comma list

-- the set with the tracks of these words, bit t for track t: from the left, each is a track, and is
-- above the one before, that is at least `least`
abbrev pub set_with : ℕ → ℕ → List (List ℕ) → Result ℕ LineFault
set_with least set [] = Ok set
set_with least set (word ∷ words) = do
  track ← track_of word
  if nat_le least track then set_with (track + 1) (set + 2 ^ track) words else Err B6

-- a set of tracks: tracks parted by commas, strictly ascending
abbrev pub tracks_of : List ℕ → Result ℕ LineFault
tracks_of word = set_with 0 0 (slice_split is_comma word)

-- each word is a number
abbrev pub numerals_of : List (List ℕ) → Result (List ℕ) LineFault
numerals_of [] = Ok []
numerals_of (word ∷ words) = do
  first ← numeral_of word
  others ← numerals_of words
  Ok (first ∷ others)

-- numbers parted by commas
abbrev pub numbers_of : List ℕ → Result (List ℕ) LineFault
numbers_of word = numerals_of (slice_split is_comma word)

-- the place of a label, where it names one
abbrev pub place_or_fault : Option ℕ → Result ℕ LineFault
place_or_fault None = Err B3
place_or_fault (Some place) = Ok place

abbrev pub number_or_label : Result ℕ NumberFault → Option ℕ → Result ℕ LineFault
number_or_label (Ok n) label = Ok n
number_or_label (Err TooLarge) label = Err B4
number_or_label (Err NotANumber) label = place_or_fault label

-- a place: a number, or a label, of which place_at says which place it names
abbrev pub place_of : Naming → List ℕ → Result ℕ LineFault
place_of place_at word = number_or_label (number_of word) (place_at word)

-- a thing: `@` (64) and the number of a media entry, or `#` (35) and the number of a nest
abbrev pub what_of : List ℕ → Result What LineFault
what_of [] = Err B3
what_of (sign ∷ digits) =
    if sign == 64 then numeral_of digits >>= (λ n. Ok (Media n))
    else if sign == 35 then numeral_of digits >>= (λ n. Ok (Nest n))
    else Err B3
