-- A text that comes in pieces: the bytes that wait for their line feed, and the lines that end within a piece.
use Rattle.std.specs.Prelude.{◌++◌, [], ◌∷◌, ℕ, List, Some, None, if◌then◌else◌}
use Rattle.line_words.specs.Lines.{Line, is_lf, limited, ended_line, last_line}

-- what callers see of a reader of lines: the bytes since the last line feed, None where they are too many,
-- and the bytes of the line that ended last, none where that line was too long
pub record Reading : Type 0 where
  pub pending : Line
  pub last : List ℕ

-- bytes without a line feed behind what is pending
abbrev pub grown : Line → List ℕ → Line
grown None bytes = None
grown (Some pending) bytes = limited (pending ++ bytes)

-- what is pending after a piece
abbrev pub pending_after : Line → List ℕ → Line
pending_after pending [] = pending
pending_after pending (byte ∷ bytes) = if is_lf byte then pending_after (Some []) bytes else pending_after (grown pending (byte ∷ [])) bytes

-- the lines that end within a piece
abbrev pub ended : Line → List ℕ → List Line
ended pending [] = []
ended pending (byte ∷ bytes) = if is_lf byte then ended_line pending ∷ ended (Some []) bytes else ended (grown pending (byte ∷ [])) bytes

-- the lines of a text that comes in these pieces
abbrev pub lines_in_pieces : Line → List (List ℕ) → List Line
lines_in_pieces pending [] = last_line pending
lines_in_pieces pending (piece ∷ pieces) = ended pending piece ++ lines_in_pieces (pending_after pending piece) pieces
