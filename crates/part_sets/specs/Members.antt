-- Sets of parts: bit n of a number names the part n.
use Rattle.std.specs.Prelude.{ℕ, zero, suc, ◌/◌, ◌^◌, Bool, List, [], ◌∷◌, Option, Some, None}
use Rattle.std.specs.Prelude.{nat_eq, nat_lt, if◌then◌else◌}
use Rattle.std.specs.Int.Bits.{bit_and}

-- a set has a number
abbrev pub has : ℕ → ℕ → Bool
has set n = nat_eq (bit_and (set / 2 ^ n) 1) 1

-- those of a set among so many numbers from n on
abbrev pub members_from : ℕ → ℕ → ℕ → List ℕ
members_from set n zero = []
members_from set n (suc more) = if has set n then n ∷ members_from set (suc n) more else members_from set (suc n) more

-- the numbers of a set, in ascending order
unfoldable pub members : ℕ → List ℕ
members set = members_from set 0 32

-- the first of these that is not below the count
abbrev pub first_absent : ℕ → List ℕ → Option ℕ
first_absent count [] = None
first_absent count (n ∷ ns) = if nat_lt n count then first_absent count ns else Some n
