-- The texts that were recorded of a station: what it sent, and what it got.
use Rattle.std.specs.Prelude.{ℕ, List, [], ◌∷◌, Option, option_map}
use Rattle.std.specs.Borrow.{Bor}
use Rattle.std.specs.List.{slice_split}
use Rattle.line_words.specs.Lines.{Line, is_lf}

-- all but the last
abbrev pub but_last : {A : Type 0} → List A → List A
but_last [] = []
but_last (x ∷ []) = []
but_last (x ∷ y ∷ ys) = x ∷ but_last (y ∷ ys)

-- The replies of a text: what stands before each of its line feeds. What stands behind the last one is a reply that was
-- cut short, and counts as none.
abbrev pub replies_of : List ℕ → List (List ℕ)
replies_of text = but_last (slice_split is_lf text)

-- a line as the code has it
abbrev pub line_seen : Option (Bor (List ℕ)) → Line
line_seen line = option_map (λ text. text.now) line
