-- Lists whose reels have names from a table that the words give.
use Rattle.std.specs.Prelude.{ℕ, Bool, ◌&&◌, List, [], Option, Some, None, codes, drop, map, slice_get, if◌then◌else◌}
use Rattle.reel_names.specs.Tables.{TableAndNames}
use Rattle.command_words.specs.Commands.{asks_for_list, command_of, is_word}
use Rattle.command_words.specs.Names.{row_of}

-- a list is asked for, and its seventh word says that names of reels follow
abbrev pub wants_table : List (List ℕ) → Bool
wants_table words = asks_for_list (command_of words) && is_word (slice_get words 6) (codes "names")

-- the namer of such a list: a table of the rows that its words give, in order, and no name given
abbrev pub table_asked : List (List ℕ) → Option TableAndNames
table_asked words = if wants_table words then Some (record { table = map row_of (drop 7 words); given = [] }) else None
