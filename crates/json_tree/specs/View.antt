-- A value of the program, as the tree that it is.
use Rattle.std.specs.Prelude.{ℕ, List}
use Rattle.json_tree.specs.Tree.{Tree, Kind, At, Null, Bool_of, Numeral_of, Wide, Text_of, List_of, Object_of, trees, members}
use Rattle.json_tree.specs.declared.tree.Json.{Json}
use Rattle.json_tree.specs.declared.tree.Value.{Value}
use Rattle.json_tree.specs.declared.tree.Member.{Member}
use Rattle.json_tree.specs.declared.tree.Value.TheVariants as value

abbrev pub kind_of : Value → Kind
kind_of value.Null = Null
kind_of (value.Bool b) = Bool_of b
kind_of (value.Numeral n) = Numeral_of n.mantissa n.places
kind_of value.Wide = Wide
kind_of (value.Text s) = Text_of s
kind_of (value.List ts) = List_of (trees ts)
kind_of (value.Object ms) = Object_of (members ms)

abbrev pub tree_of : Json → Tree
tree_of j = At j.at (kind_of j.value)

abbrev pub member_of : Member → List ℕ × Tree
member_of m = (m.name, tree_of m.value)
