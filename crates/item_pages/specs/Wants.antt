-- What is known of items, and what they are searched for.
use Rattle.std.specs.Prelude.{◌≡◌, ℕ, ◌<◌, ◌≤◌, List, Option, Some, None, take, drop, length, sum_by}
use Rattle.std.specs.List.{All}
use Rattle.std.specs.Int.{bit_at}
use Rattle.item_pages.specs.declared.spans.Number.{Number}
use Rattle.item_pages.specs.declared.spans.Number.TheVariants.{Unknown, Without, Is}
use Rattle.item_pages.specs.declared.spans.Wanted.{Wanted}
use Rattle.item_pages.specs.declared.spans.Wanted.TheVariants.{Numbered, Beyond}
use Rattle.item_pages.specs.declared.spans.Passed.{Passed}

-- what is known of the number of an item, which may have none, is so
abbrev pub Tells : Option ℕ → Number → Type 0
Tells number Unknown = Unit {0}
Tells number Without = number ≡ None
Tells number (Is n) = number ≡ Some n

-- each bit of a set is one of another
abbrev pub IsWithin : ℕ → ℕ → Type 0
IsWithin set all = (i : ℕ) → i < 64 → bit_at set i ≤ bit_at all i

-- an item with this number, if it has one, and this set is not wanted
abbrev pub Unwanted : Wanted → Option ℕ → ℕ → Type 0
Unwanted (Numbered n) number set = number ≡ Some n → ⊥
Unwanted (Beyond all) number set = IsWithin set all

-- so many items in front were passed by, none of which is wanted; these are left
pub record PassedBy {T : Type 0} (span : T → ℕ) (numbered : T → Option ℕ) (set : T → ℕ) (wanted : Wanted) (items : List T) (passed : Passed) (left : List T) : Type 0 where
  pub within : passed.count ≤ length items
  pub left_is : left ≡ drop passed.count items
  pub places_is : passed.places ≡ sum_by span (take passed.count items)
  pub unwanted : All (λ item. Unwanted wanted (numbered item) (set item)) (take passed.count items)
