-- A thing as text.
use Rattle.std.specs.Prelude.{ℕ, List, ◌++◌, codes, decimal}
use Rattle.frame_meaning.specs.declared.cells.What.{What}
use Rattle.frame_meaning.specs.declared.cells.What.TheVariants.{Media, Nest}

-- `@` and the number of a media entry, or `#` and the number of a nest
abbrev pub what_text : What → List ℕ
what_text (Media m) = codes "@" ++ decimal m
what_text (Nest n) = codes "#" ++ decimal n
