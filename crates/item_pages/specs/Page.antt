-- A page as it is kept.
use Rattle.std.specs.Prelude.{◌≡◌, ℕ, ◌<◌, ◌≤◌, List, Option, length, sum_by}
use Rattle.item_pages.specs.declared.marks.Marks.{Marks}
use Rattle.item_pages.specs.Summary.{HoldsEach}

-- a page has an item, and at most 64; it keeps how many they are, how many places they span, and marks of them
pub record IsPage {T : Type 0} (span : T → ℕ) (numbered : T → Option ℕ) (set : T → ℕ) (items : List T) (count total : ℕ) (marks : Marks) : Type 0 where
  pub filled : 0 < length items
  pub within : length items ≤ 64
  pub count_is : count ≡ length items
  pub total_is : total ≡ sum_by span items
  pub marked : HoldsEach numbered set marks items
