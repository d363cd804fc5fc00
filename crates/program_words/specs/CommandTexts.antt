-- The commands by their names.
use Rattle.std.specs.Prelude.{ℕ, map, Bool, ◌||◌, ◌==◌, List, [], ◌∷◌, Option, Some, None, bytes_eq, length, nat_le, if◌then◌else◌}
use Rattle.program_words.specs.declared.commands.CommandText.{CommandText}
use Rattle.program_words.specs.declared.commands.TheConstants.{COMMANDS}

-- a command: its name, how it is called, and its page
abbrev pub Row : Type 0
Row = List ℕ × (List ℕ × List ℕ)

abbrev pub told_row : CommandText → Row
told_row row = (row.name.now, (row.usage.now, row.page.now))

-- the command of a name
abbrev pub row_named : List Row → List ℕ → Option Row
row_named [] name = None
row_named (row ∷ rows) name = if bytes_eq row.0 name then Some row else row_named rows name

-- whether two words are one letter off each other: after what both begin with, one has another letter, or one more
abbrev pub is_near : List ℕ → List ℕ → Bool
is_near [] word = nat_le (length word) 1
is_near (a ∷ name) [] = nat_le (length (a ∷ name)) 1
is_near (a ∷ name) (b ∷ word) =
    if a == b then is_near name word else bytes_eq name word || (bytes_eq name (b ∷ word) || bytes_eq (a ∷ name) word)

-- the first command whose name is near a word
abbrev pub row_near : List Row → List ℕ → Option Row
row_near [] word = None
row_near (row ∷ rows) word = if is_near row.0 word then Some row else row_near rows word

abbrev pub all_commands : List Row
all_commands = map (λ r. (r.0.now, (r.1.now, r.2.now))) COMMANDS

-- the same of all commands
unfoldable pub command_named : List ℕ → Option Row
command_named = row_named all_commands

unfoldable pub command_near : List ℕ → Option Row
command_near = row_near all_commands
