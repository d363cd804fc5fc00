-- A crew's file and an address in one word, FILE@HOST:PORT.
use Rattle.std.specs.Prelude.{◌≡◌, ◌≢◌, ℕ, ◌<◌, List, ◌∷◌, ◌++◌, Option, Some, None, length, slice_index}
use Rattle.std.specs.Borrow.{Bor}

abbrev pub HasNoAt : List ℕ → Type 0
HasNoAt bytes = (i : ℕ) → i < length bytes → slice_index bytes i ≢ 64

-- what stands before the last `@`, and what stands after it; without one all is the address
abbrev pub PartsAt : List ℕ → Option (Bor (List ℕ)) → List ℕ → Type 0
PartsAt word None address = (address ≡ word) × HasNoAt word
PartsAt word (Some file) address = (word ≡ file.now ++ 64 ∷ address) × HasNoAt address
