-- Texts of lines, each of which a line feed ends.
use Rattle.std.specs.Prelude.{ℕ, zero, suc, ◌+◌, ◌-◌, List, [], ◌∷◌, ◌++◌, length, take, if◌then◌else◌}
use Rattle.line_words.specs.Lines.{is_lf}
use Rattle.line_words.specs.declared.TheConstants.{MAX_LINE}

-- how many lines end in a text
abbrev pub lines_in : List ℕ → ℕ
lines_in [] = 0
lines_in (byte ∷ bytes) = if is_lf byte then suc (lines_in bytes) else lines_in bytes

-- what stands after the first n lines of a text; nothing where it has fewer
abbrev pub after_lines : ℕ → List ℕ → List ℕ
after_lines zero text = text
after_lines (suc n) [] = []
after_lines (suc n) (byte ∷ bytes) = if is_lf byte then after_lines n bytes else after_lines (suc n) bytes

-- how many bytes the first n lines of a text have
abbrev pub bytes_of_lines : ℕ → List ℕ → ℕ
bytes_of_lines n text = length text - length (after_lines n text)

-- Lines, each with a line feed at its end.
abbrev pub text_of : List (List ℕ) → List ℕ
text_of [] = []
text_of (line ∷ lines) = (line ++ 10 ∷ []) ++ text_of lines

-- A line as it is kept: one byte more than a line may have is enough to see that it is too long.
abbrev pub shortened : List ℕ → List ℕ
shortened line = take (MAX_LINE + 1) line

-- The lines that end in bytes which come after those that are pending, each as it is kept.
abbrev pub ended : List ℕ → List ℕ → List (List ℕ)
ended pending [] = []
ended pending (byte ∷ bytes) = if is_lf byte then pending ∷ ended [] bytes else ended (shortened (pending ++ byte ∷ [])) bytes

-- what is pending after them
abbrev pub pending_after : List ℕ → List ℕ → List ℕ
pending_after pending [] = pending
pending_after pending (byte ∷ bytes) = if is_lf byte then pending_after [] bytes else pending_after (shortened (pending ++ byte ∷ [])) bytes
