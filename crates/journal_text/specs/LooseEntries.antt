-- An entry by the words of a line, however it is spelled: a station, a number and the words of a step, which that
-- station asks for. And news by the words of a line: `news`, two numbers and the words of an entry, where there is one.
use Rattle.std.specs.Prelude.{ℕ, List, [], ◌∷◌, Option, Some, None, Result, Ok, Err, bytes_eq, codes, nat_le, nat_lt, if◌then◌else◌}
use Rattle.line_words.specs.Digits.{number_of}
use Rattle.line_words.specs.declared.numbers.NumberFault.{NumberFault}
use Rattle.edit_calls.specs.declared.asks.Call.{Call}
use Rattle.room_core.specs.declared.entry.Entry.{Entry}
use Rattle.take_back.specs.Steps.{asked_by}
use Rattle.take_back.specs.declared.step.Step.{Step}
use Rattle.journal_text.specs.declared.journal_reading.TheConstants.{LAST_STATION}
use Rattle.journal_text.specs.declared.news_reply.News.{News as Told}
use Rattle.line_table.specs.declared.lines.Line.{Line}
use Rattle.line_table.specs.declared.lines.Line.TheVariants.{Edit, Ask, Point, Otio, News}
use Rattle.protocol_parts.specs.declared.line_fault.LineFault.{LineFault}
use Rattle.line_table.specs.Reading.{line_of_words}
use Rattle.line_table.specs.Spelling.{Naming}

abbrev pub with_rest : Result ℕ NumberFault → List (List ℕ) → Option (ℕ × List (List ℕ))
with_rest (Ok n) words = Some (n, words)
with_rest (Err fault) words = None

-- the number that the first word is, and the words behind it
abbrev pub number_before : List (List ℕ) → Option (ℕ × List (List ℕ))
number_before [] = None
number_before (word ∷ words) = with_rest (number_of word) words

abbrev pub step_in : Result Line LineFault → Option (Step Call)
step_in (Ok (Edit step)) = Some step
step_in (Ok (Ask ask)) = None
step_in (Ok Point) = None
step_in (Ok (Otio n)) = None
step_in (Ok (News n)) = None
step_in (Err fault) = None

infixl 10 ◌>>=◌
abbrev pub ◌>>=◌ : {A B : Type 0} → Option A → (A → Option B) → Option B
(Some x) >>= f = f x
None >>= f = None

-- the entry of these words, where its station is at most 15
abbrev pub loose_entry : Naming → List (List ℕ) → Option (Entry (Step Call))
loose_entry place_at words = do
  station ← number_before words
  number ← number_before station.1
  step ← step_in (line_of_words place_at number.1)
  if nat_le station.0 LAST_STATION
      then Some (record { station = station.0; number = number.0; call = asked_by station.0 step })
      else None

-- the news of these two numbers, and of the words of an entry where the place is one of the journal's
abbrev pub loose_told : Naming → ℕ → ℕ → List (List ℕ) → Option Told
loose_told place_at place length words =
    if nat_lt place length
    then loose_entry place_at words
    >>= (λ entry. Some (record { place = place; length = length; entry = Some entry }))
    else Some (record { place = place; length = length; entry = None })

abbrev pub loose_numbers : Naming → List (List ℕ) → Option Told
loose_numbers place_at words = do
  place ← number_before words
  length ← number_before place.1
  loose_told place_at place.0 length.0 length.1

-- the news of these words, of which the first is `news`
abbrev pub loose_news : Naming → List (List ℕ) → Option Told
loose_news place_at [] = None
loose_news place_at (first ∷ words) =
    if bytes_eq first (codes "news") then loose_numbers place_at words else None
