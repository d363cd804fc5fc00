-- What a kept file consists of: a header, records, each a line behind a plus, and a gate.
use Rattle.std.specs.Prelude.{◌≡◌, ◌≢◌, ◌⊎◌, ℕ, ◌<◌, ◌≤◌, List, [], ◌∷◌, ◌++◌, length, take, codes}
use Rattle.std.specs.List.{flat_map, AllByRecursion}

-- the first 18 bytes
abbrev pub header : List ℕ
header = codes "cutroom journal 1" ++ 10 ∷ []

-- a line of a record has 1 to 1,024 bytes and no line feed
pub record IsLine (line : List ℕ) : Type 0 where
  pub some : 0 < length line
  pub most : length line ≤ 1024
  pub one : AllByRecursion (λ byte. byte ≢ 10) line

-- a plus, the line, and a line feed
abbrev pub record_of : List ℕ → List ℕ
record_of line = 43 ∷ (line ++ 10 ∷ [])

abbrev pub records_of : List (List ℕ) → List ℕ
records_of lines = flat_map record_of lines

-- header and records, up to the gate
abbrev pub front_of : List (List ℕ) → List ℕ
front_of lines = header ++ records_of lines

-- The gate is any byte but a plus, and what follows it does not count.
pub record HasLines (bytes : List ℕ) (lines : List (List ℕ)) : Type 0 where
  pub gate : ℕ
  pub rest : List ℕ
  pub closed : gate ≢ 43
  pub are_lines : AllByRecursion IsLine lines
  pub parts : bytes ≡ front_of lines ++ gate ∷ rest

-- These are the lines of the file's records. A file of at most 19 bytes counts as new and has none.
abbrev pub Kept : List ℕ → List (List ℕ) → Type 0
Kept bytes lines = ((length bytes ≤ 19) × (lines ≡ [])) ⊎ ((19 < length bytes) × HasLines bytes lines)

-- no whole record begins these bytes
abbrev pub NoRecord : List ℕ → Type 0
NoRecord bytes = (line after : List ℕ) → IsLine line → bytes ≡ record_of line ++ after → ⊥

-- the end, or a plus that begins no whole record
abbrev pub IsBroken : List ℕ → Type 0
IsBroken bytes = (bytes ≡ []) ⊎ ((more : List ℕ) × (bytes ≡ 43 ∷ more) × NoRecord bytes)

-- behind whole records there is neither a record nor a gate
pub record BreaksAt (bytes : List ℕ) (at : ℕ) : Type 0 where
  pub lines : List (List ℕ)
  pub rest : List ℕ
  pub are_lines : AllByRecursion IsLine lines
  pub parts : bytes ≡ front_of lines ++ rest
  pub broken : IsBroken rest
  pub place : at ≡ length (front_of lines)

-- The file is longer than 19 bytes and no kept file: its header is wrong, which is told as place 0, or it breaks off.
abbrev pub IsDamagedAt : List ℕ → ℕ → Type 0
IsDamagedAt bytes at = (19 < length bytes) × (((take 18 bytes ≢ header) × (at ≡ 0)) ⊎ BreaksAt bytes at)
