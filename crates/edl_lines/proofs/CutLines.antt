-- The first line of some bytes, and those behind it.
use Rattle.std.proofs.Common.{◌≡◌, ℕ, ◌+◌, ◌<◌, Bool, true, false, List, [], ◌∷◌, Some, None, length, take, drop, nat_lt, if◌then◌else◌, refl, ap, ◌∙◌, arith}
use Rattle.std.specs.List.{slice_split, position, position_or_len}
use Rattle.std.proofs.lemmas.Bool.{ltb-true, ltb-false}
use Rattle.std.proofs.lemmas.List.Sums.{fails_before_first}
use Rattle.std.proofs.lemmas.List.Splits.{length-slice_split, slice_split_first, slice_split_none}
use Rattle.line_words.specs.Lines.{is_lf}
use Rattle.edl_lines.specs.ListLines.{ended_line, last_line, lines_from, list_lines}

place_told : (b : Bool) (n i : ℕ) → (if b then Some n else None) ≡ Some i → (b ≡ true) × (n ≡ i)
place_told true n i h = (refl, cc)
place_told false n i h = absurd cc

place_none : (b : Bool) (n : ℕ) → (if b then Some n else None) ≡ None → b ≡ false
place_none true n h = absurd cc
place_none false n h = refl

split_some : (p : ℕ → Bool) (xs : List ℕ) (i : ℕ) → position p xs ≡ Some i → slice_split p xs ≡ take i xs ∷ slice_split p (drop (i + 1) xs)
split_some p xs i h =
    let told = place_told (nat_lt (position_or_len p xs) (length xs)) (position_or_len p xs) i h in
    slice_split_first p xs 0 (ltb-true _ _ told.0) ∙ ap (λ n. take n xs ∷ slice_split p (drop (n + 1) xs)) told.1

split_none : (p : ℕ → Bool) (xs : List ℕ) → position p xs ≡ None → slice_split p xs ≡ xs ∷ []
split_none p xs h =
    let past = ltb-false _ _ (place_none (nat_lt (position_or_len p xs) (length xs)) (position_or_len p xs) h) in
    slice_split_none p xs (λ k d inside. fails_before_first p xs k d (omega (arith, past, inside)))

lines_more : (part : List ℕ) (parts : List (List ℕ)) → 0 < length parts → lines_from (part ∷ parts) ≡ ended_line part ∷ lines_from parts
lines_more part [] h = absurd (omega arith)
lines_more part (next ∷ parts) h = refl

pub line_ended : (bytes : List ℕ) (at : ℕ) → position is_lf bytes ≡ Some at → list_lines bytes ≡ ended_line (take at bytes) ∷ list_lines (drop (at + 1) bytes)
line_ended bytes at h =
    let some : 0 < length (slice_split is_lf (drop (at + 1) bytes)) = omega (arith, length-slice_split is_lf (drop (at + 1) bytes)) in
    ap lines_from (split_some is_lf bytes at h) ∙ lines_more (take at bytes) (slice_split is_lf (drop (at + 1) bytes)) some

pub line_last : (bytes : List ℕ) → position is_lf bytes ≡ None → list_lines bytes ≡ last_line bytes ∷ []
line_last bytes h = ap lines_from (split_none is_lf bytes h)
