-- What a reader tells of the lines that end.
use Rattle.std.specs.Prelude.{[], ◌∷◌, ℕ, List, Option, Some, None}
use Rattle.line_words.specs.Lines.{Line}
use Rattle.line_words.specs.declared.line.LineEnd.{LineEnd}
use Rattle.line_words.specs.declared.line.LineEnd.TheVariants.{Whole, TooLong}

-- the line that ended so, where these bytes are the reader's last line
abbrev pub line_told : LineEnd → List ℕ → Line
line_told Whole bytes = Some bytes
line_told TooLong bytes = None

-- the line that was told, if one was
abbrev pub lines_told : Option LineEnd → List ℕ → List Line
lines_told None bytes = []
lines_told (Some end) bytes = line_told end bytes ∷ []
