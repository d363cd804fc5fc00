-- What keys of links are marked, by which it is told whether what stays has a link of what moves.
use Rattle.std.specs.Prelude.{◌≡◌, ℕ, ◌+◌, ◌*◌, ◌/◌, ◌%◌, ◌^◌, Bool, true, List, Option, Some, None, is_some, slice_get, slice_index_or}
use Rattle.std.specs.BTreeMap.{get}
use Rattle.std.specs.BTreeSet.{BTreeSet, contains}
use Rattle.std.specs.List.{list_any}
use Rattle.frame_meaning.specs.declared.cells.Cell.{Cell}
use Rattle.composables.specs.declared.items.ItemView.{ItemView}
use Rattle.link_groups.specs.declared.key_marks.KeyMarks.{KeyMarks}
use Rattle.link_groups.specs.declared.splits.Splits.{Splits}
use Rattle.link_groups.specs.Splits.{has_key, is_key_of, key_cmp}

-- the key of a link with this home and number
abbrev pub pair_key : ℕ × ℕ → ℕ
pair_key q = q.0 % 32 * 2 ^ 27 + q.1 % 2 ^ 27

-- where a key has its mark: each home has a part of the row
abbrev pub key_place : List ℕ → ℕ → ℕ
key_place parts key = slice_index_or parts (key / 2 ^ 27 % 32) 0 + key % 2 ^ 27

-- a mark that may be there; what has no place in the row may be marked
abbrev pub may_be_set : Option Bool → Bool
may_be_set None = true
may_be_set (Some b) = b

-- a key may be one of those that were marked
abbrev pub may_be : List ℕ → List Bool → ℕ → Bool
may_be parts row key = may_be_set (slice_get row (key_place parts key))

abbrev pub may_have : KeyMarks → ℕ → Bool
may_have m key = may_be m.parts m.row.items key

-- the key of each link of these cells may be marked, or that of none is
abbrev pub Said : KeyMarks → Bool → List Cell → Type 0
Said m b cells = (q : ℕ × ℕ) → list_any (has_key q) cells ≡ true → may_have m (pair_key q) ≡ b

-- an item or gap among these has the link with this home and number
abbrev pub has_pair : ℕ × ℕ → List ItemView → Bool
has_pair q vs = list_any (λ (v : ItemView). is_key_of q v.link) vs

-- each of these links has its key marked
abbrev pub AreMarked : KeyMarks → BTreeSet (ℕ × ℕ) → Type 0
AreMarked m links = (q : ℕ × ℕ) → contains key_cmp links q ≡ true → may_have m (pair_key q) ≡ true

-- and so has each link that is split
abbrev pub HasMarks : Splits → Type 0
HasMarks s = (q : ℕ × ℕ) → is_some (get key_cmp s.numbers q) ≡ true → may_have s.marks (pair_key q) ≡ true
