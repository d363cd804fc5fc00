-- What the first line of a connection asks for.
use Rattle.std.specs.Prelude.{ℕ, List, [], ◌∷◌, Result, Ok, Err, bytes_eq, codes, if◌then◌else◌}
use Rattle.line_words.specs.Blanks.{words_of}
use Rattle.line_words.specs.Digits.{number_of}
use Rattle.line_words.specs.Lines.{without_cr}
use Rattle.line_words.specs.declared.numbers.NumberFault.{NumberFault}
use Rattle.crew_words.specs.declared.entry.Entry.{Entry}
use Rattle.crew_words.specs.declared.entry.Entry.TheVariants as entry

-- `sit NAME KEY GOT`, `ping`, or anything else
pub data Asked : Type 0 where
  Sits : (name : List ℕ) → (key : List ℕ) → (got : ℕ) → Asked
  Pings : Asked
  AsksNothing : Asked

abbrev pub sit_by : List ℕ → List ℕ → Result ℕ NumberFault → Asked
sit_by name key (Ok got) = Sits name key got
sit_by name key (Err fault) = AsksNothing

-- the words after `sit`
abbrev pub sit_asked : List (List ℕ) → Asked
sit_asked [] = AsksNothing
sit_asked (name ∷ []) = AsksNothing
sit_asked (name ∷ key ∷ []) = AsksNothing
sit_asked (name ∷ key ∷ got ∷ []) = sit_by name key (number_of got)
sit_asked (name ∷ key ∷ got ∷ more ∷ words) = AsksNothing

-- those after `ping`
abbrev pub ping_asked : List (List ℕ) → Asked
ping_asked [] = Pings
ping_asked (more ∷ words) = AsksNothing

abbrev pub words_ask : List (List ℕ) → Asked
words_ask [] = AsksNothing
words_ask (word ∷ words) =
    if bytes_eq word (codes "sit") then sit_asked words else if bytes_eq word (codes "ping") then ping_asked words else AsksNothing

-- a line without its line feed, with a carriage return or without
abbrev pub asked_by : List ℕ → Asked
asked_by line = words_ask (words_of (without_cr line))

-- what an entry says
abbrev pub said_by : Entry → Asked
said_by (entry.Sit name key got) = Sits name.now key.now got
said_by entry.Ping = Pings
said_by entry.Nothing = AsksNothing
