-- Lines that are appended at once, and the bytes that are written for them.
use Rattle.std.specs.Prelude.{ℕ, Bool, true, false, ◌<◌, List, [], ◌∷◌, ◌++◌, length, drop, ◌==◌, if◌then◌else◌}
use Rattle.std.specs.List.{AllByRecursion}
use Rattle.journal_file.specs.Layout.{IsLine, records_of}

-- one line or more
abbrev pub IsBatch : List (List ℕ) → Type 0
IsBatch batch = AllByRecursion IsLine batch × (0 < length batch)

-- What is written behind the closed gate: each line with a line feed, a plus between two, and the next gate. So the
-- gate is all that has to be opened for their records to count.
abbrev pub piece_of : List (List ℕ) → List ℕ
piece_of batch = drop 1 (records_of batch) ++ 45 ∷ []

-- what is kept for a batch: nothing for none
abbrev pub bytes_of : List (List ℕ) → List ℕ
bytes_of [] = []
bytes_of (l ∷ ls) = piece_of (l ∷ ls)

-- The lines of such bytes, where those of a line begin, or the byte before it stands first.
unfoldable pub lines_from : Bool → List ℕ → List ℕ → List (List ℕ)
lines_from begun line [] = []
lines_from false line (b ∷ bs) = lines_from true [] bs
lines_from true line (b ∷ bs) = if b == 10 then line ∷ lines_from false [] bs else lines_from true (line ++ b ∷ []) bs

abbrev pub lines_in : List ℕ → List (List ℕ)
lines_in bytes = lines_from true [] bytes
