-- Words that name the files that were recorded of stations, of each in its turn: LINES, what it sent, REPLIES, what it got,
-- and `cut` where its session ended by a fault. So a file LINES whose name is `cut` is named first, or as `./cut`.
use Rattle.std.specs.Prelude.{ℕ, Bool, true, false, List, [], ◌∷◌, Option, Some, None, codes, bytes_eq, drop, option_map, if◌then◌else◌}
use Rattle.command_words.specs.declared.records.RecordNames.{RecordNames}

-- the files of a station, by their names, and whether its session was cut short
pub record Named : Type 0 where
  pub lines : List ℕ
  pub replies : List ℕ
  pub cut : Bool

-- as the code has it
abbrev pub named_by : RecordNames → Named
named_by names = record { lines = names.lines.now; replies = names.replies.now; cut = names.is_cut }

-- whether the first of the words is `cut`
abbrev pub is_cut : List (List ℕ) → Bool
is_cut [] = false
is_cut (word ∷ words) = bytes_eq word (codes "cut")

-- a record, and the words after it
abbrev pub Record : Type 0
Record = Named × List (List ℕ)

abbrev pub told_record : List (List ℕ) → RecordNames × ℕ → Record
told_record words found = (named_by found.0, drop found.1 words)

-- the record of two names, which `cut` follows or not
abbrev pub record_so : List ℕ → List ℕ → List (List ℕ) → Bool → Record
record_so lines replies words true = (record { lines = lines; replies = replies; cut = true }, drop 1 words)
record_so lines replies words false = (record { lines = lines; replies = replies; cut = false }, words)

-- the first record that the words name
abbrev pub first_record : List (List ℕ) → Option Record
first_record [] = None
first_record (word ∷ []) = None
first_record (lines ∷ replies ∷ words) = Some (record_so lines replies words (is_cut words))

-- a record before the others
abbrev pub with_record : Named → Option (List Named) → Option (List Named)
with_record first others = option_map (λ records. first ∷ records) others

-- the records that the words name; none where the last of them has one name alone
abbrev pub records_in : List (List ℕ) → Option (List Named)
records_in [] = Some []
records_in (word ∷ []) = None
records_in (lines ∷ replies ∷ []) = Some (record { lines = lines; replies = replies; cut = false } ∷ [])
records_in (lines ∷ replies ∷ word ∷ words) =
    if bytes_eq word (codes "cut") then with_record (record { lines = lines; replies = replies; cut = true }) (records_in words)
    else with_record (record { lines = lines; replies = replies; cut = false }) (records_in (word ∷ words))

abbrev pub or_none : Option (List Named) → List Named
or_none None = []
or_none (Some records) = records

-- the records that the words of an audit name, after its first five words
abbrev pub records_of : List (List ℕ) → List Named
records_of words = or_none (records_in (drop 5 words))
