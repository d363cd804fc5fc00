-- What pages keep of the keys of items.
use Rattle.std.specs.Prelude.{◌≡◌, ℕ, ◌≤◌, true, List, Option, IfSome, nat_eq, take, drop, length, sum_by}
use Rattle.std.specs.List.{All, list_any}

-- who has a key has it in this row
abbrev pub InRow : List ℕ → Option ℕ → Type 0
InRow row key = IfSome key (λ k. list_any (nat_eq k) row ≡ true)

-- so has each of these items
abbrev pub HoldsKeys : {T : Type 0} → (T → Option ℕ) → List ℕ → List T → Type 0
HoldsKeys keyed row items = All (λ item. InRow row (keyed item)) items

-- so many items in front, which span these places and whose keys are in this row, were passed by; these are left
pub record RowPassed {T : Type 0} (span : T → ℕ) (keyed : T → Option ℕ) (count places : ℕ) (row : List ℕ) (items left : List T) : Type 0 where
  pub within : count ≤ length items
  pub left_is : left ≡ drop count items
  pub places_is : places ≡ sum_by span (take count items)
  pub keys : HoldsKeys keyed row (take count items)
