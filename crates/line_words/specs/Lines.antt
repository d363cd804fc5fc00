-- The lines of a text: what stands between its line feeds, as POSIX has it, with a carriage return before the line feed
-- left out. A line has at most 1,024 bytes before its line feed.
use Rattle.std.specs.Prelude.{[], ◌∷◌, ℕ, List, Option, Some, None, Bool, length, nat_le, slice_index, take, ◌-◌, if◌then◌else◌, ◌==◌}
use Rattle.std.specs.List.{slice_split}
use Rattle.line_words.specs.declared.TheConstants.{MAX_LINE}

-- the bytes of a line, or None where there are too many
abbrev pub Line : Type 0
Line = Option (List ℕ)

-- a line feed
abbrev pub is_lf : ℕ → Bool
is_lf byte = byte == 10

abbrev pub limited : List ℕ → Line
limited bytes = if nat_le (length bytes) MAX_LINE then Some bytes else None

-- all but a carriage return at the end
abbrev pub without_cr : List ℕ → List ℕ
without_cr bytes = if slice_index bytes (length bytes - 1) == 13 then take (length bytes - 1) bytes else bytes

-- a line behind which a line feed stands: its carriage return counts for its length, and is no part of it
abbrev pub ended_line : Line → Line
ended_line None = None
ended_line (Some bytes) = Some (without_cr bytes)

-- what stands behind the last line feed is a line where it has a byte, and keeps all its bytes
abbrev pub last_line : Line → List Line
last_line None = None ∷ []
last_line (Some []) = []
last_line (Some (byte ∷ bytes)) = Some (byte ∷ bytes) ∷ []

-- the lines of the parts between line feeds: behind each part but the last stands a line feed
abbrev pub lines_from : List (List ℕ) → List Line
lines_from [] = []
lines_from (part ∷ []) = last_line (limited part)
lines_from (part ∷ next ∷ parts) = ended_line (limited part) ∷ lines_from (next ∷ parts)

abbrev pub lines_of : List ℕ → List Line
lines_of text = lines_from (slice_split is_lf text)
