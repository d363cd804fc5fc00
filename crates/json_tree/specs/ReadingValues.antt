-- Reading values.
use Rattle.std.specs.Prelude.{ℕ, zero, suc, ◌+◌, ℤ, Bool, true, false, List, [], ◌∷◌, length, Option, Some, None, Result, Ok, Err, nat_lt, ◌==◌, if◌then◌else◌, codes}
use Rattle.json_tokens.specs.declared.fault.JsonFault.{JsonFault}
use Rattle.json_tokens.specs.declared.fault.JsonFault.TheVariants.{Syntax, Depth, TooLarge}
use Rattle.json_tokens.specs.Reading.{◌>>=◌, Read, past_blanks, byte_at, word_at}
use Rattle.json_tokens.specs.ReadingTexts.{text_at}
use Rattle.json_tokens.specs.ReadingNumerals.{numeral_at}
use Rattle.json_tree.specs.Tree.{Tree, Kind, At, Null, Bool_of, Numeral_of, Wide, Text_of, List_of, Object_of, trees, members}

abbrev pub word_kind_at : List ℕ → Kind → ℕ → List ℕ → Read Kind
word_kind_at word kind at bytes = do
  after ← word_at word at bytes
  Ok (kind, after.0, after.1)

unfoldable pub quoted_at : ℕ → List ℕ → Read Kind
quoted_at at bytes = do
  text ← text_at (length bytes) at bytes
  Ok (Text_of text.0, text.1, text.2)

-- a numeral, and a number that is too wide to be kept
abbrev pub number_kind : Option (ℤ × ℕ) → Kind
number_kind None = Wide
number_kind (Some n) = Numeral_of n.0 n.1

unfoldable pub number_at : ℕ → List ℕ → Read Kind
number_at at bytes = do
  number ← numeral_at at bytes
  Ok (number_kind number.0, number.1, number.2)

unfoldable pub scalar_at : ℕ → List ℕ → Read Kind
scalar_at at [] = number_at at []
scalar_at at (b ∷ bs) = if b == 34 then quoted_at (at + 1) bs
    else (if b == 110 then word_kind_at (codes "null") Null at (b ∷ bs)
    else (if b == 116 then word_kind_at (codes "true") (Bool_of true) at (b ∷ bs)
    else (if b == 102 then word_kind_at (codes "false") (Bool_of false) at (b ∷ bs)
    else number_at at (b ∷ bs))))

-- a comma, which says that another one comes, or the closing bracket
abbrev pub separator_at : ℕ → ℕ → List ℕ → Read Bool
separator_at close at [] = Err (Syntax at)
separator_at close at (b ∷ bs) = if b == 44 then Ok (true, at + 1, bs) else (if b == close then Ok (false, at + 1, bs) else Err (Syntax at))

abbrev pub with_first : {E : Type 0} → E → Read (List E) → Read (List E)
with_first first others = others >>= λ x. Ok (first ∷ x.0, x.1, x.2)

-- elements with commas between them, up to the closing bracket; most is as many as there can be
unfoldable pub elements_at : {E : Type 0} → (ℕ → List ℕ → Read E) → ℕ → ℕ → ℕ → List ℕ → Read (List E)
elements_at element close zero at bytes = Err (Syntax at)
elements_at element close (suc most) at bytes = do
  first ← element at bytes
  next ← separator_at close first.1 first.2
  if next.0 then with_first first.0 (elements_at element close most next.1 next.2) else Ok (first.0 ∷ [], next.1, next.2)

-- nothing behind the closing bracket, if it stands here
abbrev pub unless_empty : {E : Type 0} → Option (ℕ × List ℕ) → Read (List E) → Read (List E)
unless_empty (Some after) elements = Ok ([], after.0, after.1)
unless_empty None elements = elements

abbrev pub listed_at : {E : Type 0} → (ℕ → List ℕ → Read E) → ℕ → ℕ → List ℕ → Read (List E)
listed_at element close at bytes = unless_empty (byte_at close at bytes) (elements_at element close (length bytes) at bytes)

unfoldable pub list_at : {E : Type 0} → (ℕ → List ℕ → Read E) → ℕ → ℕ → List ℕ → Read (List E)
list_at element close at bytes = let rest = past_blanks at bytes in listed_at element close rest.0 rest.1

-- a value with blanks around it
unfoldable pub item_at : (ℕ → List ℕ → Read Tree) → ℕ → List ℕ → Read Tree
item_at value at bytes = do
  let rest = past_blanks at bytes
  tree ← value rest.0 rest.1
  let after = past_blanks tree.1 tree.2
  Ok (tree.0, after.0, after.1)

-- a name with blanks around it, and the colon
unfoldable pub name_at : ℕ → List ℕ → Read (List ℕ)
name_at at bytes = do
  let before = past_blanks at bytes
  quote ← word_at (34 ∷ []) before.0 before.1
  name ← text_at (length quote.1) quote.0 quote.1
  let behind = past_blanks name.1 name.2
  colon ← word_at (58 ∷ []) behind.0 behind.1
  Ok (name.0, colon.0, colon.1)

unfoldable pub member_at : (ℕ → List ℕ → Read Tree) → ℕ → List ℕ → Read (List ℕ × Tree)
member_at value at bytes = do
  name ← name_at at bytes
  tree ← item_at value name.1 name.2
  Ok ((name.0, tree.0), tree.1, tree.2)

unfoldable pub items_at : (ℕ → List ℕ → Read Tree) → ℕ → List ℕ → Read Kind
items_at value at bytes = do
  items ← list_at (item_at value) 93 at bytes
  Ok (List_of (trees items.0), items.1, items.2)

unfoldable pub members_at : (ℕ → List ℕ → Read Tree) → ℕ → List ℕ → Read Kind
members_at value at bytes = do
  named ← list_at (member_at value) 125 at bytes
  Ok (Object_of (members named.0), named.1, named.2)

-- a list or an object behind the bracket that stands at start, if that is not too deep
abbrev pub list_in : Option (ℕ → List ℕ → Read Tree) → ℕ → ℕ → List ℕ → Read Kind
list_in None start at bytes = Err (Depth start)
list_in (Some value) start at bytes = items_at value at bytes

abbrev pub object_in : Option (ℕ → List ℕ → Read Tree) → ℕ → ℕ → List ℕ → Read Kind
object_in None start at bytes = Err (Depth start)
object_in (Some value) start at bytes = members_at value at bytes

abbrev pub if_there : Option (ℕ × List ℕ) → (ℕ → List ℕ → Read Kind) → Read Kind → Read Kind
if_there None behind other = other
if_there (Some after) behind other = behind after.0 after.1

abbrev pub kind_read : Option (ℕ → List ℕ → Read Tree) → ℕ → List ℕ → Read Kind
kind_read inner at bytes = if_there (byte_at 91 at bytes) (list_in inner at) (if_there (byte_at 123 at bytes) (object_in inner at) (scalar_at at bytes))

abbrev pub tree_read : Option (ℕ → List ℕ → Read Tree) → ℕ → List ℕ → Read Tree
tree_read inner at bytes = do
  kind ← kind_read inner at bytes
  Ok (At at kind.0, kind.1, kind.2)

-- how a value in a list or an object is read, where so many levels are allowed
unfoldable pub inner_at : ℕ → Option (ℕ → List ℕ → Read Tree)
inner_at zero = None
inner_at (suc levels) = Some (tree_read (inner_at levels))

-- a value with at most so many levels of lists and objects
unfoldable pub value_at : ℕ → ℕ → List ℕ → Read Tree
value_at levels = tree_read (inner_at levels)

-- nothing is left
abbrev pub ended : Tree × ℕ × List ℕ → Result Tree JsonFault
ended x = if length x.2 == 0 then Ok x.0 else Err (Syntax x.1)

-- all of the bytes
unfoldable pub document_at : List ℕ → Result Tree JsonFault
document_at bytes = if nat_lt 33554432 (length bytes) then Err TooLarge else (item_at (value_at 64) 0 bytes >>= ended)
