-- What a page keeps of the numbers and sets of its items.
use Rattle.std.specs.Prelude.{◌≡◌, ℕ, ◌/◌, ◌%◌, ◌<◌, ◌≤◌, ◌^◌, List, Option, IfSome, slice_index_or}
use Rattle.std.specs.List.{All}
use Rattle.std.specs.Int.{bit_at}
use Rattle.item_pages.specs.declared.marks.Marks.{Marks}
use Rattle.item_pages.specs.Wants.{IsWithin}

-- a number has its mark: it is between the least and the greatest, and its bit of 256 is set
pub record Marked (marks : Marks) (n : ℕ) : Type 0 where
  pub least : marks.least ≤ n
  pub greatest : n ≤ marks.greatest
  pub bit : bit_at (slice_index_or marks.words (n / 64 % 4) 0) (n % 64) ≡ 1

-- whoever has a number, has one with a mark
abbrev pub MarksNumber : Marks → Option ℕ → Type 0
MarksNumber marks number = IfSome number (λ n. n < 2 ^ 32 → Marked marks n)

-- so it is with an item with this number, if it has one, and this set
pub record Holds (marks : Marks) (number : Option ℕ) (set : ℕ) : Type 0 where
  pub marked : MarksNumber marks number
  pub among : IsWithin set marks.all

-- and with each of these
abbrev pub HoldsEach : {T : Type 0} → (T → Option ℕ) → (T → ℕ) → Marks → List T → Type 0
HoldsEach numbered set marks items = All (λ item. Holds marks (numbered item) (set item)) items

-- what has its mark in these marks has it in those
pub record Grows (marks new : Marks) : Type 0 where
  pub numbers : (n : ℕ) → n < 2 ^ 32 → Marked marks n → Marked new n
  pub sets : IsWithin marks.all new.all
