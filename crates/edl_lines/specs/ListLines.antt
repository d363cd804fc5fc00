-- The lines of an edit decision list: what stands between its line feeds, and behind the last of them. A carriage return
-- before a line feed is no part of the line, but counts for its length.
use Rattle.std.specs.Prelude.{ℕ, List, [], ◌∷◌, Option, Some, None, length, nat_le, if◌then◌else◌}
use Rattle.std.specs.List.{slice_split}
use Rattle.line_words.specs.declared.TheConstants.{MAX_LINE}
use Rattle.line_words.specs.declared.line.LineEnd.{LineEnd}
use Rattle.line_words.specs.declared.line.LineEnd.TheVariants.{Whole, TooLong}
use Rattle.line_words.specs.Lines.{is_lf, without_cr}

-- a line, and whether it is too long for an event: over 1,024 bytes
pub record ListLine : Type 0 where
  pub text : List ℕ
  pub end : LineEnd

abbrev pub end_of : List ℕ → LineEnd
end_of part = if nat_le (length part) MAX_LINE then Whole else TooLong

-- a line behind which a line feed stands, and the last, behind which none does
abbrev pub ended_line : List ℕ → ListLine
ended_line part = record { text = without_cr part; end = end_of part }

abbrev pub last_line : List ℕ → ListLine
last_line part = record { text = part; end = end_of part }

abbrev pub lines_from : List (List ℕ) → List ListLine
lines_from [] = []
lines_from (part ∷ []) = last_line part ∷ []
lines_from (part ∷ next ∷ parts) = ended_line part ∷ lines_from (next ∷ parts)

abbrev pub list_lines : List ℕ → List ListLine
list_lines bytes = lines_from (slice_split is_lf bytes)

-- the lines behind a line feed, if there is one
abbrev pub lines_behind : Option (List ℕ) → List ListLine
lines_behind None = []
lines_behind (Some bytes) = list_lines bytes
