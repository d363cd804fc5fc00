-- JSON values, as data: what a text in JSON stands for (RFC 8259), with the place of each value in the text.
use Rattle.std.specs.Prelude.{ℕ, ℤ, Bool, List, [], ◌∷◌, Option, Some, None, if◌then◌else◌}
use Rattle.std.specs.Option.{option_or}
use Rattle.std.specs.Str.{bytes_eq}

mutual
  -- a value, and how many bytes of the text stand before it
  pub data Tree : Type 0 where
    At : ℕ → Kind → Tree

  -- A numeral is the fraction m/10^p. Wide is a numeral of more digits than are kept.
  pub data Kind : Type 0 where
    Null : Kind
    Bool_of : Bool → Kind
    Numeral_of : ℤ → ℕ → Kind
    Wide : Kind
    Text_of : List ℕ → Kind
    List_of : Trees → Kind
    Object_of : Members → Kind

  pub data Trees : Type 0 where
    no_trees : Trees
    more_trees : Tree → Trees → Trees

  pub data Members : Type 0 where
    no_members : Members
    more_members : List ℕ → Tree → Members → Members

abbrev pub trees : List Tree → Trees
trees [] = no_trees
trees (t ∷ ts) = more_trees t (trees ts)

abbrev pub members : List (List ℕ × Tree) → Members
members [] = no_members
members (m ∷ ms) = more_members m.0 m.1 (members ms)

abbrev pub in_trees : Trees → List Tree
in_trees no_trees = []
in_trees (more_trees t ts) = t ∷ in_trees ts

abbrev pub in_members : Members → List (List ℕ × Tree)
in_members no_members = []
in_members (more_members n t ms) = (n, t) ∷ in_members ms

-- the last of the name
abbrev pub last_named : List ℕ → List (List ℕ × Tree) → Option Tree
last_named name [] = None
last_named name (m ∷ ms) = option_or (last_named name ms) (if bytes_eq m.0 name then Some m.1 else None)
