-- The grammar of JSON (RFC 8259): which bytes spell which tree. A value is spelled at a place: so many bytes of the
-- text stand before it.
use Rattle.std.specs.Prelude.{◌≡◌, ℕ, zero, suc, ◌+◌, ℤ, true, false, List, [], ◌∷◌, ◌++◌, length, codes}
use Rattle.json_tokens.specs.Decimal.{Digits}
use Rattle.json_tokens.specs.Grammar.{AreBlanks, IsQuoted, IsNumber, IsKept}
use Rattle.json_tree.specs.Tree.{Tree, Kind, At, Null, Bool_of, Numeral_of, Wide, Text_of, List_of, Object_of, in_trees, in_members}

-- ---- lists and objects

-- elements with commas between them; none are blanks
abbrev pub AreElements : {E : Type 0} → (ℕ → List ℕ → E → Type 0) → ℕ → List ℕ → List E → Type 0
AreElements Is at bytes [] = AreBlanks bytes
AreElements Is at bytes (e ∷ []) = Is at bytes e
AreElements Is at bytes (e ∷ f ∷ es) = (first others : List ℕ) × (bytes ≡ first ++ 44 ∷ others) × Is at first e × AreElements Is (at + length first + 1) others (f ∷ es)

-- a value with blanks around it
pub record IsItem (Is : ℕ → List ℕ → Tree → Type 0) (at : ℕ) (bytes : List ℕ) (t : Tree) : Type 0 where
  pub before : List ℕ
  pub text : List ℕ
  pub behind : List ℕ
  pub bytes_are : bytes ≡ before ++ (text ++ behind)
  pub blanks_before : AreBlanks before
  pub blanks_behind : AreBlanks behind
  pub value : Is (at + length before) text t

-- a name, a colon and a value, with blanks around them
pub record IsMember (Is : ℕ → List ℕ → Tree → Type 0) (at : ℕ) (bytes : List ℕ) (m : List ℕ × Tree) : Type 0 where
  pub before : List ℕ
  pub quoted : List ℕ
  pub behind : List ℕ
  pub item : List ℕ
  pub bytes_are : bytes ≡ before ++ (quoted ++ (behind ++ 58 ∷ item))
  pub blanks_before : AreBlanks before
  pub blanks_behind : AreBlanks behind
  pub name : IsQuoted quoted m.0
  pub value : IsItem Is (at + length before + length quoted + length behind + 1) item m.1

-- what stands in brackets, or in braces
abbrev pub IsIn : ℕ → ℕ → (List ℕ → Type 0) → List ℕ → Type 0
IsIn left right Is bytes = (inner : List ℕ) × (bytes ≡ left ∷ (inner ++ right ∷ [])) × Is inner

-- What a value is. A list or an object may stand only where Nested, and a value in it is spelled as Inner says.
abbrev pub IsKind : Type 0 → (ℕ → List ℕ → Tree → Type 0) → ℕ → List ℕ → Kind → Type 0
IsKind Nested Inner at bytes Null = bytes ≡ codes "null"
IsKind Nested Inner at bytes (Bool_of true) = bytes ≡ codes "true"
IsKind Nested Inner at bytes (Bool_of false) = bytes ≡ codes "false"
IsKind Nested Inner at bytes (Numeral_of m p) = (d : Digits) × IsNumber bytes d × IsKept d m p
IsKind Nested Inner at bytes Wide = (d : Digits) × IsNumber bytes d × ((m : ℤ) (p : ℕ) → IsKept d m p → ⊥)
IsKind Nested Inner at bytes (Text_of s) = IsQuoted bytes s
IsKind Nested Inner at bytes (List_of ts) = Nested × IsIn 91 93 (λ inner. AreElements (IsItem Inner) (at + 1) inner (in_trees ts)) bytes
IsKind Nested Inner at bytes (Object_of ms) = Nested × IsIn 123 125 (λ inner. AreElements (IsMember Inner) (at + 1) inner (in_members ms)) bytes

abbrev pub IsTree : Type 0 → (ℕ → List ℕ → Tree → Type 0) → ℕ → List ℕ → Tree → Type 0
IsTree Nested Inner at bytes (At place kind) = (place ≡ at) × IsKind Nested Inner at bytes kind

-- The bytes at the place spell the tree, with at most so many levels of lists and objects.
unfoldable pub SpellsAt : ℕ → ℕ → List ℕ → Tree → Type 0
SpellsAt zero at bytes t = IsTree ⊥ (λ _ _ _. ⊥) at bytes t
SpellsAt (suc levels) at bytes t = IsTree (Unit {0}) (SpellsAt levels) at bytes t

-- the whole text: one value, with blanks around it
unfoldable pub Spells : ℕ → List ℕ → Tree → Type 0
Spells levels bytes t = IsItem (SpellsAt levels) 0 bytes t
