-- Who the stations are: a file with a line NAME KEY for each, in order.
use Rattle.std.specs.Prelude.{◌≡◌, ◌≢◌, ℕ, ◌+◌, List, [], ◌∷◌, ◌++◌, Bool, ◌||◌, ◌&&◌, Option, Some, None, Result, Ok, Err, length, take, position, nat_le, nat_lt, bytes_eq, ◌==◌, if◌then◌else◌}
use Rattle.std.specs.Char.{is_ascii_alphanumeric}
use Rattle.std.specs.List.{AllByRecursion, list_all, list_any, slice_split}
use Rattle.sha2.specs.Sha256.{sha256}
use Rattle.line_words.specs.Blanks.{words_of}
use Rattle.line_words.specs.Lines.{is_lf, without_cr}
use Rattle.crew_words.specs.declared.crew.CrewFault.{CrewFault}
use Rattle.crew_words.specs.declared.crew.CrewFault.TheVariants.{Line, Twice, Few, Long, Memory}
use Rattle.crew_words.specs.declared.crew.TheConstants.{LONGEST_KEY, LONGEST_NAME, MOST_BYTES, SHORTEST_KEY}

-- a station: its name, and the SHA-256 sum of its key
pub record MemberState : Type 0 where
  pub name : List ℕ
  pub sum : List ℕ

-- ---- the words of a line

-- a letter or digit, `.`, `_` or `-`
abbrev pub is_plain : ℕ → Bool
is_plain byte = is_ascii_alphanumeric byte || byte == 46 || byte == 95 || byte == 45

abbrev pub are_plain : List ℕ → Bool
are_plain word = list_all is_plain word

abbrev pub is_name : List ℕ → Bool
is_name word = nat_lt 0 (length word) && nat_le (length word) LONGEST_NAME && are_plain word

abbrev pub is_key : List ℕ → Bool
is_key word = nat_le SHORTEST_KEY (length word) && nat_le (length word) LONGEST_KEY && are_plain word

abbrev pub is_hash : ℕ → Bool
is_hash byte = byte == 35

-- what stands before this place, or all
abbrev pub up_to : Option ℕ → List ℕ → List ℕ
up_to None line = line
up_to (Some at) line = take at line

-- what counts of a line: what stands before its first `#`, without a carriage return at its end
abbrev pub told_part : List ℕ → List ℕ
told_part line = without_cr (up_to (position is_hash line) line)

-- ---- the lines of a file

abbrev pub has_name : List ℕ → MemberState → Bool
has_name name member = bytes_eq member.name name

-- a member more, by the line of this number
abbrev pub with_member : List MemberState → ℕ → List ℕ → List ℕ → Result (List MemberState) CrewFault
with_member crew number name key =
    if is_name name && is_key key
    then (if list_any (has_name name) crew then Err (Twice number) else Ok (crew ++ record { name = name; sum = sha256 key } ∷ []))
    else Err (Line number)

-- the crew after a line of these words; a line without a word does not count
abbrev pub words_read : List MemberState → ℕ → List (List ℕ) → Result (List MemberState) CrewFault
words_read crew number [] = Ok crew
words_read crew number (name ∷ []) = Err (Line number)
words_read crew number (name ∷ key ∷ []) = with_member crew number name key
words_read crew number (name ∷ key ∷ more ∷ words) = Err (Line number)

abbrev pub line_read : List MemberState → ℕ → List ℕ → Result (List MemberState) CrewFault
line_read crew number line = words_read crew number (words_of (told_part line))

abbrev pub goes_on : Result (List MemberState) CrewFault → (List MemberState → Result (List MemberState) CrewFault) → Result (List MemberState) CrewFault
goes_on (Ok crew) next = next crew
goes_on (Err fault) next = Err fault

-- after all of these lines, of which the first has this number: the first fault is told
abbrev pub lines_read : List MemberState → ℕ → List (List ℕ) → Result (List MemberState) CrewFault
lines_read crew number [] = Ok crew
lines_read crew number (line ∷ lines) = goes_on (line_read crew number line) (λ more. lines_read more (number + 1) lines)

-- enough members for so many stations
abbrev pub with_enough : ℕ → List MemberState → Result (List MemberState) CrewFault
with_enough stations crew = if nat_le stations (length crew) then Ok crew else Err (Few (length crew) stations)

-- the crew of a file for so many stations, or its first fault
abbrev pub crew_read : ℕ → List ℕ → Result (List MemberState) CrewFault
crew_read stations text =
    if nat_le (length text) MOST_BYTES then goes_on (lines_read [] 1 (slice_split is_lf text)) (with_enough stations) else Err Long

-- why there is no crew: a fault of its file, or no memory
abbrev pub IsNoCrew : Result (List MemberState) CrewFault → CrewFault → Type 0
IsNoCrew read (Line number) = read ≡ Err (Line number)
IsNoCrew read (Twice number) = read ≡ Err (Twice number)
IsNoCrew read (Few there wanted) = read ≡ Err (Few there wanted)
IsNoCrew read Long = read ≡ Err Long
IsNoCrew read Memory = Unit {0}

-- ---- who sits down

-- whose name and key these are
abbrev pub is_member : List ℕ → List ℕ → MemberState → Bool
is_member name key member = bytes_eq member.name name && bytes_eq member.sum (sha256 key)

-- the number of the station that has this name and this key
abbrev pub station_of : List MemberState → List ℕ → List ℕ → Option ℕ
station_of crew name key = position (is_member name key) crew

-- no two have one name
abbrev pub HaveOwnNames : List MemberState → Type 0
HaveOwnNames [] = Unit {0}
HaveOwnNames (member ∷ crew) = AllByRecursion (λ other. other.name ≢ member.name) crew × HaveOwnNames crew
