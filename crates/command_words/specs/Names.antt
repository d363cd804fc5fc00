-- Words that say how reels are named in a list. Each is TEXT=NAME, cut at its last `=`: the reel whose name in the document is
-- TEXT is NAME in the list. No TEXT is empty, each NAME fits a list that is written, and no TEXT and no NAME stands twice.
use Rattle.std.specs.Prelude.{ℕ, not, ◌==◌, List, [], ◌∷◌, ◌++◌, Option, Some, None, length, if◌then◌else◌}
use Rattle.std.specs.Path.{rsplit_once}
use Rattle.reel_names.specs.Names.{fits}
use Rattle.reel_names.specs.Tables.{NamedText, has_text, is_named}
use Rattle.command_words.specs.declared.names.RowFault.{RowFault}
use Rattle.command_words.specs.declared.names.RowFault.TheVariants.{Again, NoText, Taken, Unfit}

abbrev pub row_of_parts : Option (List ℕ × List ℕ) → NamedText
row_of_parts None = record { text = []; name = [] }
row_of_parts (Some parts) = record { text = parts.0; name = parts.1 }

-- a word cut at its last `=`; one without has no text
abbrev pub row_of : List ℕ → NamedText
row_of word = row_of_parts (rsplit_once 61 word)

-- why a row can't stand behind others: its text is empty, its name does not fit, its text is there, its name is there
abbrev pub word_fault : List NamedText → NamedText → Option RowFault
word_fault earlier row =
    if length row.text == 0 then Some NoText else
    if not (fits row.name) then Some Unfit else
    if has_text earlier row.text then Some Again else
    if is_named earlier row.name then Some Taken else None

abbrev pub or_later : List ℕ → Option RowFault → Option (List ℕ × RowFault) → Option (List ℕ × RowFault)
or_later word None later = later
or_later word (Some fault) later = Some (word, fault)

-- the first of these words that can't stand behind the rows before it, and why
abbrev pub first_fault : List NamedText → List (List ℕ) → Option (List ℕ × RowFault)
first_fault earlier [] = None
first_fault earlier (word ∷ words) = or_later word (word_fault earlier (row_of word)) (first_fault (earlier ++ row_of word ∷ []) words)
