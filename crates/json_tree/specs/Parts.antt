-- What stands in a value, by its kind.
use Rattle.std.specs.Prelude.{ℕ, ℤ, List, Option, Some, None}
use Rattle.json_tree.specs.Tree.{Tree, Kind, At, Numeral_of, Text_of, List_of, Object_of, in_trees, in_members, last_named}

-- how many bytes of the text stand before a value
abbrev pub place_of : Tree → ℕ
place_of (At at kind) = at

abbrev pub kind_in : Tree → Kind
kind_in (At at kind) = kind

-- the last member of a name, where the value is an object
abbrev pub member_in : List ℕ → Kind → Option Tree
member_in name (Object_of ms) = last_named name (in_members ms)
member_in name _ = None

-- the values of a list
abbrev pub items_in : Kind → Option (List Tree)
items_in (List_of ts) = Some (in_trees ts)
items_in _ = None

-- the characters of a text
abbrev pub text_in : Kind → Option (List ℕ)
text_in (Text_of s) = Some s
text_in _ = None

-- the number m/10^p of a numeral, as (m, p), where it is kept
abbrev pub numeral_in : Kind → Option (ℤ × ℕ)
numeral_in (Numeral_of m p) = Some (m, p)
numeral_in _ = None
