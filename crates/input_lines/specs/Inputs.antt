-- How an input of lines ends, where `goes a b lines` says that a taker has come from a to b by these lines, `stops a n line
-- why` that it stops so at this line, the n-th, `ends line` that it takes this last line without a line feed, and `cuts n
-- line why` that it stops so at it.
use Rattle.std.specs.Prelude.{◌≡◌, ℕ, ◌+◌, ◌-◌, ◌<◌, ◌≤◌, ◌⊎◌, List, [], ◌∷◌, ◌++◌, All, Some, Option, IfSome, Result, Ok, Err, length, take}
use Rattle.line_words.specs.Lines.{Line, last_line, lines_of}
use Rattle.line_words.specs.Pieces.{ended, pending_after}
use Rattle.room_ports.specs.Bytes.{Gives}
use Rattle.room_ports.specs.Counts.{HasRisen}
use Rattle.input_lines.specs.declared.taking.InputStop.{InputStop}
use Rattle.input_lines.specs.declared.taking.InputStop.TheVariants.{ReadFault, TooMuch, Stopped}

-- the most bytes of an input: 64 MiB
abbrev pub most_input : ℕ
most_input = 67108864

-- the most bytes of one read
abbrev pub most_read : ℕ
most_read = 8192

-- where the input tells its bytes, they are these, and none is left
abbrev pub GivesAll : Option (List ℕ) → Option (List ℕ) → List ℕ → Type 0
GivesAll before after got = IfSome before (λ bytes. (bytes ≡ got) × (after ≡ Some []))

-- these lines and one more are among those that a piece ends, up to and with that one
abbrev pub IsAmong : Line → List ℕ → List Line → Line → Type 0
IsAmong pending piece before line = (others : List Line) × (ended pending piece ≡ before ++ line ∷ others)

module _ {T E : Type 0} (goes : T → T → List Line → Type 0) (stops : T → ℕ → Line → E → Type 0) where
  -- after so many lines these were taken too, and at the next one the taker stops so
  abbrev pub StopsAfter : T → ℕ → E → List Line → Line → Type 0
  StopsAfter a count why lines line = (there : T) × goes a there lines × stops there (count + length lines + 1) line why

  -- Nothing was read after the piece in which the line ended at which the taker stopped.
  pub record StopsInPiece (a : T) (why : E) (before after : Option (List ℕ)) : Type 0 where
    pub taken : List ℕ
    pub piece : List ℕ
    pub gives : Gives before after (taken ++ piece)
    pub one_read : length piece ≤ most_read
    pub within : length taken ≤ most_input
    pub earlier : List Line
    pub line : Line
    pub among : IsAmong (pending_after (Some []) taken) (take (most_input - length taken) piece) earlier line
    pub stopped : StopsAfter a 0 why (ended (Some []) taken ++ earlier) line

  -- within a piece
  abbrev pub StopsWithin : T → ℕ → Line → List ℕ → E → Type 0
  StopsWithin a count pending piece why = (before : List Line) × (line : Line) × IsAmong pending piece before line × StopsAfter a count why before line

module _ {T E : Type 0} (goes : T → T → List Line → Type 0) (cuts : ℕ → Line → E → Type 0) where
  -- The input was read to its end, and the taker stopped at the last line, which has no line feed.
  pub record StopsAtEnd (a : T) (why : E) (before after : Option (List ℕ)) : Type 0 where
    pub got : List ℕ
    pub gives : GivesAll before after got
    pub within : length got ≤ most_input
    pub line : Line
    pub last : last_line (pending_after (Some []) got) ≡ line ∷ []
    pub there : T
    pub taken : goes a there (ended (Some []) got)
    pub cut : cuts (length (ended (Some []) got) + 1) line why

-- all lines were taken, and the last one may have no line feed
pub record AllTaken {T : Type 0} (goes : T → T → List Line → Type 0) (ends : Line → Type 0) (a b : T) (before after : Option (List ℕ)) : Type 0 where
  pub got : List ℕ
  pub gives : GivesAll before after got
  pub within : length got ≤ most_input
  pub taken : goes a b (lines_of got)
  pub last : All ends (last_line (pending_after (Some []) got))

-- the lines that ended in the first 64 MiB were taken; the read that passed these was the last
pub record TakenInPart {T : Type 0} (goes : T → T → List Line → Type 0) (a b : T) (before after : Option (List ℕ)) : Type 0 where
  pub got : List ℕ
  pub gives : Gives before after got
  pub more : most_input < length got
  pub within : length got ≤ most_input + most_read
  pub taken : goes a b (ended (Some []) (take most_input got))

module _ {T E : Type 0} (goes : T → T → List Line → Type 0) (stops : T → ℕ → Line → E → Type 0)
    (ends : Line → Type 0) (cuts : ℕ → Line → E → Type 0) (a b : T) (before after : Option (List ℕ)) (old new : ℕ) where
  abbrev pub InputEnds : Result (Unit {0}) (InputStop E) → Type 0
  InputEnds (Ok done) = (new ≡ old) × AllTaken goes ends a b before after
  InputEnds (Err ReadFault) = HasRisen old new
  InputEnds (Err TooMuch) = (new ≡ old) × TakenInPart goes a b before after
  InputEnds (Err (Stopped why)) =
      (new ≡ old) × (StopsInPiece goes stops a why before after ⊎ StopsAtEnd goes cuts a why before after)

-- the last lines, of which there is one at most, after so many
abbrev pub EndsWith : {T E : Type 0} → (T → T → List Line → Type 0) → (Line → Type 0) → (ℕ → Line → E → Type 0)
    → T → T → ℕ → List Line → Result (Unit {0}) (InputStop E) → Type 0
EndsWith goes ends cuts a b count lines (Ok done) = goes a b lines × All ends lines
EndsWith goes ends cuts a b count lines (Err ReadFault) = ⊥
EndsWith goes ends cuts a b count lines (Err TooMuch) = ⊥
EndsWith goes ends cuts a b count lines (Err (Stopped why)) = (line : Line) × (lines ≡ line ∷ []) × cuts (count + 1) line why
