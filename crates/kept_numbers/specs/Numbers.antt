-- The number of a station's last line among the records of a kept file. Each record begins with its station and its number.
use Rattle.std.specs.Prelude.{◌≡◌, ◌<◌, ℕ, List, [], ◌∷◌, Option, Some, None, ◌==◌, flat_map, slice_get, if◌then◌else◌}
use Rattle.line_words.specs.Blanks.{words_of}
use Rattle.journal_text.specs.LooseEntries.{number_before}

abbrev pub with_number : ℕ → Option (ℕ × List (List ℕ)) → Option (ℕ × ℕ)
with_number station None = None
with_number station (Some (number, words)) = Some (station, number)

abbrev pub with_station : Option (ℕ × List (List ℕ)) → Option (ℕ × ℕ)
with_station None = None
with_station (Some (station, words)) = with_number station (number_before words)

-- the station and the number that a line begins with, where it begins with two numbers
abbrev pub numbered : List ℕ → Option (ℕ × ℕ)
numbered line = with_station (number_before (words_of line))

-- the number, where it is of this station
abbrev pub own_number : ℕ → Option (ℕ × ℕ) → List ℕ
own_number station None = []
own_number station (Some (own, number)) = if own == station then number ∷ [] else []

-- the numbers of a station's lines among these, in order
abbrev pub numbers_of : ℕ → List (List ℕ) → List ℕ
numbers_of station lines = flat_map (λ line. own_number station (numbered line)) lines

-- the last of these, or that one where there is none
abbrev pub last_or : ℕ → List ℕ → ℕ
last_or last [] = last
last_or last (number ∷ numbers) = last_or number numbers

-- the number of a station's last line among these, 0 where it has none
abbrev pub last_number : ℕ → List (List ℕ) → ℕ
last_number station lines = last_or 0 (numbers_of station lines)

-- these are the numbers of the stations' last lines
abbrev pub AreLastNumbers : List (List ℕ) → List ℕ → Type 0
AreLastNumbers lines numbers = (station : ℕ) → station < 16 → slice_get numbers station ≡ Some (last_number station lines)
