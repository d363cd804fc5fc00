-- Why words are no command: from left to right the first word that does not say what it has to say there, or that nothing
-- is to say, or else what no word says any more.
use Rattle.std.specs.Prelude.{ℕ, zero, suc, Bool, true, false, ◌&&◌, List, [], ◌∷◌, Option, Some, None, Result, Ok, Err, is_some, length, nat_le, drop, slice_get, codes, bytes_eq, if◌then◌else◌, option_map}
use Rattle.line_words.specs.Digits.{number_of}
use Rattle.line_words.specs.declared.numbers.NumberFault.{NumberFault}
use Rattle.command_words.specs.declared.names.RowFault.{RowFault}
use Rattle.command_words.specs.declared.word_faults.Part.{Part}
use Rattle.command_words.specs.declared.word_faults.Part.TheVariants as part
use Rattle.command_words.specs.declared.word_faults.WordFault.{WordFault}
use Rattle.command_words.specs.declared.word_faults.WordFault.TheVariants as fault
use Rattle.command_words.specs.declared.word_faults.TheConstants.{PLAIN_PARTS, ROOM_PARTS, HALL_PARTS, CUT_PARTS, TAPE_PARTS, IMPORT_PARTS, AUDIT_PARTS, MADE_PARTS}
use Rattle.command_words.specs.Commands.{counting_of, number_within, rate_of_word, least_tracks, most_tracks, most_reels, least_stations, most_stations, least_lines, most_lines}
use Rattle.command_words.specs.Names.{first_fault}
use Rattle.command_words.specs.Records.{is_cut}

-- a word and what is wrong with it; it is empty where it is missing
abbrev pub Faulty : Type 0
Faulty = List ℕ × WordFault

abbrev pub is_number : Result ℕ NumberFault → Bool
is_number (Ok n) = true
is_number (Err fault) = false

-- whether a word says this; DROP goes by the RATE before it
abbrev pub says : Part → List ℕ → List ℕ → Bool
says part.Document before word = true
says part.List before word = true
says part.Journal before word = true
says part.Address before word = true
says part.Rate before word = is_some (rate_of_word word)
says part.Drop before word = is_some (counting_of before word)
says part.Stations before word = is_some (number_within word least_stations most_stations)
says part.Tracks before word = is_some (number_within word least_tracks most_tracks)
says part.Reels before word = is_some (number_within word 0 most_reels)
says part.Point before word = is_number (number_of word)
says part.Number before word = is_number (number_of word)
says part.Count before word = is_some (number_within word least_lines most_lines)
says part.Naming before word = true
says part.Row before word = true
says part.Lines before word = true
says part.Replies before word = true

-- the fault of words that are to say these parts, one each, after a word
abbrev pub parts_fault : List Part → List ℕ → List (List ℕ) → Option Faulty
parts_fault [] before words = None
parts_fault (part ∷ parts) before [] = Some ([], fault.Missing part)
parts_fault (part ∷ parts) before (word ∷ words) = if says part before word then parts_fault parts word words else Some (word, fault.Wrong part)

abbrev pub or_else : Option Faulty → Option Faulty → Option Faulty
or_else None later = later
or_else (Some first) later = Some first

-- the fault of words where none is to stand
abbrev pub beyond : List (List ℕ) → Option Faulty
beyond [] = None
beyond (word ∷ words) = Some (word, fault.Beyond)

-- of a command that has these parts and no more
abbrev pub whole_fault : List Part → List (List ℕ) → Option Faulty
whole_fault parts [] = None
whole_fault parts (first ∷ words) = or_else (parts_fault parts first words) (beyond (drop (length parts) words))

abbrev pub of_row : List ℕ × RowFault → Faulty
of_row row = (row.0, fault.Row row.1)

-- of the words after `names`
abbrev pub rows_fault : List (List ℕ) → Option Faulty
rows_fault [] = Some ([], fault.Missing part.Row)
rows_fault (word ∷ words) = option_map of_row (first_fault [] (word ∷ words))

-- of the words after POINT
abbrev pub naming_fault : List (List ℕ) → Option Faulty
naming_fault [] = None
naming_fault (word ∷ words) =
    if bytes_eq word (codes "numbered") then beyond words else
    if bytes_eq word (codes "names") then rows_fault words else Some (word, fault.Wrong part.Naming)

abbrev pub list_fault : List (List ℕ) → Option Faulty
list_fault [] = None
list_fault (first ∷ words) = or_else (parts_fault CUT_PARTS.now first words) (naming_fault (drop 5 words))

-- of words that are to name so many more records at most, of two names each, which `cut` follows or not
abbrev pub more_fault : ℕ → List (List ℕ) → Option Faulty
more_fault zero words = beyond words
more_fault (suc n) [] = None
more_fault (suc n) (lines ∷ []) = Some ([], fault.Missing part.Replies)
more_fault (suc n) (lines ∷ replies ∷ words) = if is_cut words then more_fault n (drop 1 words) else more_fault n words

-- of words that are to name one record at least, and as many as there may be
abbrev pub records_fault : List (List ℕ) → Option Faulty
records_fault [] = Some ([], fault.Missing part.Lines)
records_fault (word ∷ words) = more_fault most_stations (word ∷ words)

abbrev pub audit_fault : List (List ℕ) → Option Faulty
audit_fault [] = None
audit_fault (first ∷ words) = or_else (parts_fault AUDIT_PARTS.now first words) (records_fault (drop 4 words))

-- whether words that begin with `run` mean a plain room: there are at most two after it, of which the first is a number
abbrev pub is_plain : Option (List ℕ) → Bool
is_plain None = false
is_plain (Some word) = is_number (number_of word)

abbrev pub run_parts : List (List ℕ) → List Part
run_parts words = if nat_le (length words) 3 && is_plain (slice_get words 1) then PLAIN_PARTS.now else ROOM_PARTS.now

-- the fault of words that begin so, where a command does
abbrev pub fault_by : List ℕ → List (List ℕ) → Option Faulty
fault_by first words =
    if bytes_eq first (codes "run") then whole_fault (run_parts words) words else
    if bytes_eq first (codes "serve") then whole_fault HALL_PARTS.now words else
    if bytes_eq first (codes "store") then whole_fault HALL_PARTS.now words else
    if bytes_eq first (codes "list") then list_fault words else
    if bytes_eq first (codes "tape") then whole_fault TAPE_PARTS.now words else
    if bytes_eq first (codes "import") then whole_fault IMPORT_PARTS.now words else
    if bytes_eq first (codes "follow") then whole_fault ROOM_PARTS.now words else
    if bytes_eq first (codes "audit") then audit_fault words else
    if bytes_eq first (codes "make") then whole_fault MADE_PARTS.now words else None

-- the fault of words
abbrev pub fault_of : List (List ℕ) → Option Faulty
fault_of [] = None
fault_of (first ∷ words) = fault_by first (first ∷ words)
