-- What a source or a sink tells of its bytes, before a call and after it. None tells nothing.
use Rattle.std.specs.Prelude.{◌≡◌, ◌++◌, ℕ, List, Option, IfSome, take}
use Rattle.std.specs.Option.{IsSomeAnd}

-- What was left before the call is these bytes, and then what is left after it.
abbrev pub Gives : Option (List ℕ) → Option (List ℕ) → List ℕ → Type 0
Gives before after bytes = IfSome before (λ old. IsSomeAnd after (λ now. old ≡ bytes ++ now))

-- What is told as taken after the call is what was told before it, and then these bytes.
-- So an object that tells nothing any more tells nothing from then on.
abbrev pub Takes : Option (List ℕ) → Option (List ℕ) → List ℕ → Type 0
Takes before after bytes = IfSome after (λ now. IsSomeAnd before (λ old. now ≡ old ++ bytes))

-- the same, with a front of these bytes
abbrev pub TakesFront : Option (List ℕ) → Option (List ℕ) → List ℕ → Type 0
TakesFront before after bytes =
    IfSome after (λ now. IsSomeAnd before (λ old. (n : ℕ) × (now ≡ old ++ take n bytes)))
