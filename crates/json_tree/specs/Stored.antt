-- A tree as a tree of numbers, from which it comes back: what a model of a list of trees needs.
use Rattle.std.specs.Prelude.{◌≡◌, ℕ, zero, suc, ℤ, pos, negsuc, Bool, true, false, List, [], ◌∷◌, refl}
use Rattle.std.proofs.Common.{ap}
use Rattle.std.specs.Coded.{Coded, code_by, coded×, coded_ℕ, coded_list}
use base.Stored.{Gv, gnil, gnum, gcons}
use denote.Struct.Codes.{itself}
use Rattle.json_tree.specs.Tree.{Tree, Kind, Trees, Members, At, Null, Bool_of, Numeral_of, Wide, Text_of, List_of, Object_of, no_trees, more_trees, no_members, more_members}

abbrev to_bytes : List ℕ → Gv
to_bytes [] = gnil
to_bytes (b ∷ bs) = gcons (gnum b) (to_bytes bs)

abbrev to_int : ℤ → Gv
to_int (pos n) = gcons gnil (gnum n)
to_int (negsuc n) = gnum n

abbrev to_bool : Bool → Gv
to_bool true = gcons gnil gnil
to_bool false = gnil

abbrev mutual
  to_tree : Tree → Gv
  to_tree (At at kind) = gcons (gnum at) (to_kind kind)

  to_kind : Kind → Gv
  to_kind Null = gnil
  to_kind (Bool_of b) = gcons (gnum 0) (to_bool b)
  to_kind (Numeral_of m p) = gcons (gnum 1) (gcons (to_int m) (gnum p))
  to_kind Wide = gnum 0
  to_kind (Text_of s) = gcons (gnum 2) (to_bytes s)
  to_kind (List_of ts) = gcons (gnum 3) (to_trees ts)
  to_kind (Object_of ms) = gcons (gnum 4) (to_members ms)

  to_trees : Trees → Gv
  to_trees no_trees = gnil
  to_trees (more_trees t ts) = gcons (to_tree t) (to_trees ts)

  to_members : Members → Gv
  to_members no_members = gnil
  to_members (more_members n t ms) = gcons (gcons (to_bytes n) (to_tree t)) (to_members ms)

abbrev number : Gv → ℕ
number gnil = 0
number (gnum n) = n
number (gcons a b) = 0

abbrev from_bytes : Gv → List ℕ
from_bytes gnil = []
from_bytes (gnum n) = []
from_bytes (gcons a b) = number a ∷ from_bytes b

abbrev from_int : Gv → ℤ
from_int gnil = pos 0
from_int (gnum n) = negsuc n
from_int (gcons a b) = pos (number b)

abbrev from_bool : Gv → Bool
from_bool gnil = false
from_bool (gnum n) = false
from_bool (gcons a b) = true

abbrev from_numeral : Gv → Kind
from_numeral gnil = Null
from_numeral (gnum n) = Null
from_numeral (gcons m p) = Numeral_of (from_int m) (number p)

abbrev mutual
  from_tree : Gv → Tree
  from_tree gnil = At 0 Null
  from_tree (gnum n) = At 0 Null
  from_tree (gcons a b) = At (number a) (from_kind b)

  from_kind : Gv → Kind
  from_kind gnil = Null
  from_kind (gnum n) = Wide
  from_kind (gcons gnil b) = Null
  from_kind (gcons (gcons x y) b) = Null
  from_kind (gcons (gnum zero) b) = Bool_of (from_bool b)
  from_kind (gcons (gnum (suc zero)) b) = from_numeral b
  from_kind (gcons (gnum (suc (suc zero))) b) = Text_of (from_bytes b)
  from_kind (gcons (gnum (suc (suc (suc zero)))) b) = List_of (from_trees b)
  from_kind (gcons (gnum (suc (suc (suc (suc n))))) b) = Object_of (from_members b)

  from_trees : Gv → Trees
  from_trees gnil = no_trees
  from_trees (gnum n) = no_trees
  from_trees (gcons a b) = more_trees (from_tree a) (from_trees b)

  from_members : Gv → Members
  from_members gnil = no_members
  from_members (gnum n) = no_members
  from_members (gcons gnil b) = no_members
  from_members (gcons (gnum n) b) = no_members
  from_members (gcons (gcons n t) b) = more_members (from_bytes n) (from_tree t) (from_members b)

bytes_back : (s : List ℕ) → from_bytes (to_bytes s) ≡ s
bytes_back [] = refl
bytes_back (b ∷ bs) = ap (λ r. b ∷ r) (bytes_back bs)

int_back : (z : ℤ) → from_int (to_int z) ≡ z
int_back (pos n) = refl
int_back (negsuc n) = refl

bool_back : (b : Bool) → from_bool (to_bool b) ≡ b
bool_back true = refl
bool_back false = refl

mutual
  pub tree_back : (t : Tree) → from_tree (to_tree t) ≡ t
  tree_back (At at kind) = ap (At at) (kind_back kind)

  kind_back : (k : Kind) → from_kind (to_kind k) ≡ k
  kind_back Null = refl
  kind_back (Bool_of b) = ap Bool_of (bool_back b)
  kind_back (Numeral_of m p) = ap (λ z. Numeral_of z p) (int_back m)
  kind_back Wide = refl
  kind_back (Text_of s) = ap Text_of (bytes_back s)
  kind_back (List_of ts) = ap List_of (trees_back ts)
  kind_back (Object_of ms) = ap Object_of (members_back ms)

  trees_back : (ts : Trees) → from_trees (to_trees ts) ≡ ts
  trees_back no_trees = refl
  trees_back (more_trees t ts) = λ i. more_trees (tree_back t i) (trees_back ts i)

  members_back : (ms : Members) → from_members (to_members ms) ≡ ms
  members_back no_members = refl
  members_back (more_members n t ms) = λ i. more_members (bytes_back n i) (tree_back t i) (members_back ms i)

abbrev pub tree_code : Coded Tree
tree_code = code_by Gv itself to_tree from_tree tree_back

abbrev pub trees_code : Coded (List Tree)
trees_code = coded_list tree_code

abbrev pub members_code : Coded (List (List ℕ × Tree))
members_code = coded_list (coded× (coded_list coded_ℕ) tree_code)
