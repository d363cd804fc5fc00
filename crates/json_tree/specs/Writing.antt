-- The canonical text of a tree: no blanks, and one way to write each value.
use Rattle.std.specs.Prelude.{ℕ, zero, suc, ◌+◌, ◌/◌, ◌%◌, ◌^◌, ℤ, pos, negsuc, unsigned_abs, true, false, List, [], ◌∷◌, ◌++◌, nat_lt, ◌==◌, ◌||◌, if◌then◌else◌, codes}
use Rattle.std.specs.List.{flat_map}
use Rattle.json_tree.specs.Tree.{Tree, Kind, Trees, Members, At, Null, Bool_of, Numeral_of, Wide, Text_of, List_of, Object_of, no_trees, more_trees, no_members, more_members}

abbrev pub hex_digit : ℕ → ℕ
hex_digit n = if nat_lt n 10 then 48 + n else 87 + n

-- a quote and a backslash behind a backslash, a control character by its code
abbrev pub escaped : ℕ → List ℕ
escaped b = if (b == 34) || (b == 92) then 92 ∷ b ∷ []
    else (if nat_lt b 32 then 92 ∷ 117 ∷ 48 ∷ 48 ∷ (48 + b / 16) ∷ hex_digit (b % 16) ∷ []
    else b ∷ [])

abbrev pub quoted : List ℕ → List ℕ
quoted s = 34 ∷ (flat_map escaped s ++ 34 ∷ [])

-- the last digits of a number, so many of them
abbrev pub last_digits : ℕ → ℕ → List ℕ
last_digits n zero = []
last_digits n (suc place) = (48 + n / 10 ^ place % 10) ∷ last_digits n place

-- how many digits a number has, from count on and before count + more
unfoldable pub digits_needed : ℕ → ℕ → ℕ → ℕ
digits_needed n zero count = count
digits_needed n (suc more) count = if nat_lt n (10 ^ count) then count else digits_needed n more (count + 1)

-- the digits of a number below 10^18
unfoldable pub whole_text : ℕ → List ℕ
whole_text n = last_digits n (digits_needed n 17 1)

abbrev pub sign_text : ℤ → List ℕ
sign_text (pos n) = []
sign_text (negsuc n) = 45 ∷ []

abbrev pub places_text : ℕ → ℕ → List ℕ
places_text n zero = 48 ∷ []
places_text n (suc places) = last_digits n (suc places)

-- at least one digit behind the point
unfoldable pub numeral_text : ℤ → ℕ → List ℕ
numeral_text m places = sign_text m ++ whole_text (unsigned_abs m / 10 ^ places) ++ 46 ∷ places_text (unsigned_abs m % 10 ^ places) places

-- with a comma before each
abbrev pub commas : List (List ℕ) → List ℕ
commas [] = []
commas (x ∷ xs) = 44 ∷ (x ++ commas xs)

-- with commas between them
abbrev pub joined : List (List ℕ) → List ℕ
joined [] = []
joined (x ∷ xs) = x ++ commas xs

abbrev mutual
  pub tree_text : Tree → List ℕ
  tree_text (At at kind) = kind_text kind

  pub kind_text : Kind → List ℕ
  kind_text Null = codes "null"
  kind_text (Bool_of true) = codes "true"
  kind_text (Bool_of false) = codes "false"
  kind_text (Numeral_of m p) = numeral_text m p
  kind_text Wide = []
  kind_text (Text_of s) = quoted s
  kind_text (List_of ts) = 91 ∷ (joined (trees_texts ts) ++ 93 ∷ [])
  kind_text (Object_of ms) = 123 ∷ (joined (members_texts ms) ++ 125 ∷ [])

  pub trees_texts : Trees → List (List ℕ)
  trees_texts no_trees = []
  trees_texts (more_trees t ts) = tree_text t ∷ trees_texts ts

  pub members_texts : Members → List (List ℕ)
  members_texts no_members = []
  members_texts (more_members n t ms) = (quoted n ++ 58 ∷ tree_text t) ∷ members_texts ms

abbrev pub member_text : List ℕ × Tree → List ℕ
member_text m = quoted m.0 ++ 58 ∷ tree_text m.1
