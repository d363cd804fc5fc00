-- Items that span places, one behind another.
use Rattle.std.specs.Prelude.{◌≡◌, ℕ, ◌+◌, ◌<◌, ◌≤◌, ◌^◌, List, ◌++◌, length, take, drop, sum_by}
use Rattle.item_pages.specs.declared.spans.Found.{Found}

-- there are fewer than 2^32 items, and they span fewer places than that
abbrev pub Fits : {T : Type 0} → (T → ℕ) → List T → Type 0
Fits span items = (length items < 2 ^ 32) × (sum_by span items < 2 ^ 32)

-- the item that holds a place: it begins there or before, where the items before it end, and ends behind it
pub record HoldsPlace {T : Type 0} (span : T → ℕ) (items : List T) (at : ℕ) (found : Found) : Type 0 where
  pub index : found.index < length items
  pub from : found.from ≡ sum_by span (take found.index items)
  pub begins : found.from ≤ at
  pub ends : at < sum_by span (take (found.index + 1) items)

-- the list with these items in place of those from index `from` up to before `to`
abbrev pub replaced : {T : Type 0} → List T → ℕ → ℕ → List T → List T
replaced items from to middle = take from items ++ (middle ++ drop to items)
