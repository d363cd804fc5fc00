-- The size of a tree: a list and an object have one more than what stands in them.
use Rattle.std.specs.Prelude.{ℕ, ◌+◌, List}
use Rattle.json_tree.specs.Tree.{Tree, Kind, Trees, Members, At, List_of, Object_of, no_trees, more_trees, no_members, more_members, trees, members}

abbrev mutual
  pub tree_size : Tree → ℕ
  tree_size (At at kind) = kind_size kind

  pub kind_size : Kind → ℕ
  kind_size (List_of ts) = trees_size ts + 1
  kind_size (Object_of ms) = members_size ms + 1
  kind_size _ = 0

  pub trees_size : Trees → ℕ
  trees_size no_trees = 0
  trees_size (more_trees t ts) = tree_size t + trees_size ts

  pub members_size : Members → ℕ
  members_size no_members = 0
  members_size (more_members n t ms) = tree_size t + members_size ms

abbrev pub items_size : List Tree → ℕ
items_size ts = trees_size (trees ts)

abbrev pub named_size : List (List ℕ × Tree) → ℕ
named_size ms = members_size (members ms)
