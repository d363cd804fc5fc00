-- Where a reading stops being lawful, in the words of the grammar. A fault stands at the first byte with which nothing
-- lawful begins, or at the length where the bytes end too early; a character that is none is told at its first byte.
-- Begin says of bytes that they begin something: that it is spelled by them and some more.
use Rattle.std.specs.Prelude.{◌≡◌, ℕ, ◌+◌, ◌<◌, ◌≤◌, ◌⊎◌, List, [], ◌∷◌, ◌++◌, length, take, drop, Some}
use Rattle.std.specs.List.{AllByRecursion}
use Rattle.std.specs.Char.{IsScalar, encode_utf8}
use Rattle.json_tokens.specs.Grammar.{IsUnit}
use Rattle.json_tokens.specs.Tables.{hex_value}

-- between two characters of a text in quotes: a plain letter, an x, could stand here, and it can stand nowhere else
abbrev pub IsInQuotes : (List ℕ → Type 0) → List ℕ → Type 0
IsInQuotes Begin bytes = Begin (bytes ++ 120 ∷ [])

abbrev pub IsHexadecimal : ℕ → Type 0
IsHexadecimal b = (value : ℕ) × (hex_value b ≡ Some value)

-- An escape whose four digits are not all there yet. Which character it stands for is asked of all four.
pub record IsUnfinished (Begin : List ℕ → Type 0) (bytes : List ℕ) : Type 0 where
  pub before : List ℕ
  pub digits : List ℕ
  pub bytes_are : bytes ≡ before ++ 92 ∷ 117 ∷ digits
  pub in_quotes : IsInQuotes Begin before
  pub few : length digits < 4
  pub hexadecimal : AllByRecursion IsHexadecimal digits

abbrev pub IsLawful : (List ℕ → Type 0) → List ℕ → Type 0
IsLawful Begin bytes = Begin bytes ⊎ IsUnfinished Begin bytes

-- The bytes before are lawful, and with the byte there they are not; or the bytes end there.
pub record StopsAt (Begin : List ℕ → Type 0) (bytes : List ℕ) (stop : ℕ) : Type 0 where
  pub within : stop ≤ length bytes
  pub lawful : IsLawful Begin (take stop bytes)
  pub no_more : stop < length bytes → IsLawful Begin (take (stop + 1) bytes) → ⊥

-- The bytes begin none, and with another last byte they would.
abbrev pub IsBroken : (List ℕ → Type 0) → List ℕ → Type 0
IsBroken Begin bytes = (before : List ℕ) × (last other : ℕ) × (bytes ≡ before ++ last ∷ []) × Begin (before ++ other ∷ []) × (Begin bytes → ⊥)

-- bytes that begin the escape of the second half of a pair
abbrev pub BeginsSecond : List ℕ → Type 0
BeginsSecond bytes = (rest digits : List ℕ) × (unit : ℕ) × IsUnit digits unit × (0xdc00 ≤ unit) × (unit < 0xe000) × (bytes ++ rest ≡ 92 ∷ 117 ∷ digits)

-- a second half, where no first one stands before it, or a first half, and a second one breaks off behind it
abbrev pub IsAlone : ℕ → List ℕ → Type 0
IsAlone unit behind = ((0xdc00 ≤ unit) × (unit < 0xe000) × (behind ≡ [])) ⊎ ((0xd800 ≤ unit) × (unit < 0xdc00) × IsBroken BeginsSecond behind)

-- An escape of one half of a pair begins at start, and at stop a byte shows that it is alone.
pub record IsLoneHalf (Begin : List ℕ → Type 0) (bytes : List ℕ) (start stop : ℕ) : Type 0 where
  pub digits : List ℕ
  pub unit : ℕ
  pub behind : List ℕ
  pub in_quotes : IsInQuotes Begin (take start bytes)
  pub code : IsUnit digits unit
  pub alone : IsAlone unit behind
  pub escape : drop start (take (stop + 1) bytes) ≡ 92 ∷ 117 ∷ (digits ++ behind)
  pub inside : stop < length bytes

-- bytes that begin a character in UTF-8
abbrev pub BeginsCharacter : List ℕ → Type 0
BeginsCharacter bytes = (rest : List ℕ) × (c : ℕ) × IsScalar c × (bytes ++ rest ≡ encode_utf8 c)

-- A character in UTF-8 begins at start, and breaks off at stop.
pub record IsBadSequence (Begin : List ℕ → Type 0) (bytes : List ℕ) (start stop : ℕ) : Type 0 where
  pub in_quotes : IsInQuotes Begin (take start bytes)
  pub from : start ≤ stop
  pub inside : stop < length bytes
  pub broken : IsBroken BeginsCharacter (drop start (take (stop + 1) bytes))

-- A bracket stands there with which bytes begin that have a level more.
pub record IsTooDeep (Deeper : List ℕ → Type 0) (bytes : List ℕ) (stop : ℕ) : Type 0 where
  pub inside : stop < length bytes
  pub bracket : (drop stop (take (stop + 1) bytes) ≡ 91 ∷ []) ⊎ (drop stop (take (stop + 1) bytes) ≡ 123 ∷ [])
  pub deeper : Deeper (take (stop + 1) bytes)
