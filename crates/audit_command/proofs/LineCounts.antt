-- How many lines and replies texts have.
use Rattle.std.proofs.Common.{ℕ, zero, suc, ◌+◌, ◌≤◌, List, [], ◌∷◌, Some, None, length, arith}
use Rattle.std.proofs.lemmas.List.Splits.{length-slice_split}
use Rattle.std.proofs.lemmas.List.Sums.{count_by-le-length}
use Rattle.std.specs.List.{slice_split}
use Rattle.line_words.specs.Lines.{Line, is_lf, last_line, limited, lines_from, lines_of}
use Rattle.recorded_sessions.specs.Recordings.{but_last, replies_of}

last_few : (line : Line) → length (last_line line) ≤ 1
last_few None = omega arith
last_few (Some []) = omega arith
last_few (Some (byte ∷ bytes)) = omega arith

lines_few : (parts : List (List ℕ)) → length (lines_from parts) ≤ length parts
lines_few [] = omega arith
lines_few (part ∷ []) = omega (arith, last_few (limited part))
lines_few (part ∷ next ∷ parts) = omega (arith, lines_few (next ∷ parts))

but_last_few : {A : Type 0} (xs : List A) (n : ℕ) → length xs ≤ n + 1 → length (but_last xs) ≤ n
but_last_few [] n h = omega arith
but_last_few (x ∷ []) n h = omega arith
but_last_few (x ∷ y ∷ ys) zero h = absurd (omega (arith, h))
but_last_few (x ∷ y ∷ ys) (suc n) h = omega (arith, but_last_few (y ∷ ys) n (omega (arith, h)))

parts_few : (text : List ℕ) → length (slice_split is_lf text) ≤ length text + 1
parts_few text = omega (arith, length-slice_split is_lf text, count_by-le-length is_lf text)

pub few_lines : (text : List ℕ) → length (lines_of text) ≤ length text + 1
few_lines text = omega (arith, lines_few (slice_split is_lf text), parts_few text)

pub few_replies : (text : List ℕ) → length (replies_of text) ≤ length text
few_replies text = but_last_few (slice_split is_lf text) (length text) (parts_few text)
