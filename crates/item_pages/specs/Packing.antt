-- A list in pages as it is kept.
use Rattle.std.specs.Prelude.{◌≡◌, ℕ, ◌+◌, ◌<◌, ◌≤◌, List, [], ◌∷◌, length, sum_by}
use Rattle.std.specs.List.{flat_map}
use Rattle.item_pages.specs.Items.{Fits}

-- the items of pages, one page after another
abbrev pub items_of : {T : Type 0} → List (List T) → List T
items_of pages = flat_map (λ page. page) pages

-- a page and the one behind it, if there is one, hold more than 64 items together
abbrev pub Overfills : {T : Type 0} → List T → List (List T) → Type 0
Overfills page [] = Unit {0}
Overfills page (next ∷ rest) = 64 < length page + length next

-- so do each two neighbours
abbrev pub Packed : {T : Type 0} → List (List T) → Type 0
Packed [] = Unit {0}
Packed (page ∷ rest) = Overfills page rest × Packed rest

-- how many items the first of these pages has, and how many the last
abbrev pub first_count : {T : Type 0} → List (List T) → ℕ
first_count [] = 0
first_count (page ∷ rest) = length page

abbrev pub last_count : {T : Type 0} → List (List T) → ℕ
last_count [] = 0
last_count (page ∷ []) = length page
last_count (page ∷ next ∷ rest) = last_count (next ∷ rest)

-- what may stand before these pages may stand before those: their first page has as many items
pub record Begins {T : Type 0} (pages new : List (List T)) : Type 0 where
  pub filled : 0 < length pages → 0 < length new
  pub count : first_count pages ≤ first_count new

-- what may stand behind these pages may stand behind those: their last page has as many items
pub record Ends {T : Type 0} (pages new : List (List T)) : Type 0 where
  pub filled : 0 < length pages → 0 < length new
  pub count : last_count pages ≤ last_count new

-- a list keeps how many items it has, and how many places they span
pub record IsList {T : Type 0} (span : T → ℕ) (pages : List (List T)) (count total : ℕ) : Type 0 where
  pub packed : Packed pages
  pub fits : Fits span (items_of pages)
  pub count_is : count ≡ length (items_of pages)
  pub total_is : total ≡ sum_by span (items_of pages)
