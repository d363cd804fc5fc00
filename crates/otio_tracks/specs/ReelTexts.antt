-- The names of the reels of a table are texts.
use Rattle.std.specs.Prelude.{ℕ, List}
use Rattle.std.specs.List.{All}
use Rattle.std.specs.Str.{IsUtf8}

-- each name is UTF-8, as all texts of the program are
abbrev pub AreTexts : List (List ℕ) → Type 0
AreTexts names = All IsUtf8 names
