-- What stands in a list or an object is smaller than it.
use Rattle.std.specs.Prelude.{◌≤◌, max, List, [], ◌∷◌, map}
use Rattle.std.proofs.Common.{arith}
use denote.Param.Weighed.{most}
use Rattle.json_tree.specs.Size.{kind_size, items_size, named_size}
use Rattle.json_tree.specs.View.{kind_of, tree_of, member_of}
use Rattle.json_tree.specs.declared.tree.Json.{Json}
use Rattle.json_tree.specs.declared.tree.Value.{Value}
use Rattle.json_tree.specs.declared.tree.Member.{Member}
use Rattle.json_tree.specs.declared.tree.Value.TheVariants as value
use Rattle.json_tree.specs.declared.tree.Items.TheDeep.{deep-Value, deep-Json, deep-Member}

value_falls : (v : Value) → deep-Value v ≤ kind_size (kind_of v)
value_falls value.Null = omega arith
value_falls (value.Bool b) = omega arith
value_falls (value.Numeral n) = omega arith
value_falls value.Wide = omega arith
value_falls (value.Text s) = omega arith
value_falls (value.List ts) = omega arith
value_falls (value.Object ms) = omega arith

pub items_fall : (js : List Json) → max (most deep-Json js) 0 ≤ items_size (map tree_of js)
items_fall [] = omega arith
items_fall (j ∷ js) = omega (arith, items_fall js, value_falls j.value)

pub members_fall : (ms : List Member) → max (most deep-Member ms) 0 ≤ named_size (map member_of ms)
members_fall [] = omega arith
members_fall (m ∷ ms) = omega (arith, members_fall ms, value_falls m.value.value)
