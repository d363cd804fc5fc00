-- A block of pages as it is kept.
use Rattle.std.specs.Prelude.{◌≡◌, ℕ, ◌<◌, ◌≤◌, List, length, sum_by}
use Rattle.item_pages.specs.Packing.{items_of}

-- a block has a page; it keeps how many items its pages have, which are no fewer than they, and how many places these span
pub record IsBlock {T : Type 0} (span : T → ℕ) (pages : List (List T)) (count total : ℕ) : Type 0 where
  pub filled : 0 < length pages
  pub enough : length pages ≤ count
  pub count_is : count ≡ length (items_of pages)
  pub total_is : total ≡ sum_by span (items_of pages)
