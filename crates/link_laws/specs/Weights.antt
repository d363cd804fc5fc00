-- Link numbers do not run out: all links that a room has given away have a weight, which is at least each next link number,
-- and which a call raises by little.
use Rattle.std.specs.Prelude.{ℕ, zero, suc, ◌+◌, ◌≤◌, Bool, true, false, ◌&&◌, List, [], ◌∷◌, Option, Some, None, max, nat_eq, if◌then◌else◌}
use Rattle.frame_meaning.specs.declared.cells.Cell.{Cell}
use Rattle.frame_meaning.specs.declared.cells.Link.{Link}
use Rattle.composables.specs.TrackState.{TrackState}

-- it is the link with this home and number
abbrev pub is_link : ℕ → ℕ → Option Link → Bool
is_link home n None = false
is_link home n (Some l) = nat_eq l.home home && nat_eq l.number n

-- a run of cells with a link begins where a cell has it and the one before has not
abbrev pub begins : Bool → Bool → ℕ
begins before false = 0
begins before true = if before then 0 else 1

-- how many runs of cells with this link begin
abbrev pub runs_in : ℕ → ℕ → Bool → List Cell → ℕ
runs_in home n before [] = 0
runs_in home n before (c ∷ cs) = begins before (is_link home n c.link) + runs_in home n (is_link home n c.link) cs

abbrev pub runs_on : ℕ → ℕ → List TrackState → ℕ
runs_on home n [] = 0
runs_on home n (t ∷ ts) = runs_in home n false t.cells + runs_on home n ts

-- of the numbers below this one: the runs of each, and 1 where there are none
abbrev pub given : (ℕ → ℕ) → ℕ → ℕ
given runs zero = 0
given runs (suc n) = max 1 (runs n) + given runs n

-- of all link numbers that these tracks have given away, by the runs of a home and a number
abbrev pub weight_of : (ℕ → ℕ → ℕ) → List TrackState → ℕ
weight_of runs [] = 0
weight_of runs (t ∷ ts) = given (runs t.number) t.next_link + weight_of runs ts

abbrev pub weight : List TrackState → ℕ
weight all = weight_of (λ home n. runs_on home n all) all

-- each next link number is at most this
abbrev pub NextsWithin : ℕ → List TrackState → Type 0
NextsWithin most [] = Unit {0}
NextsWithin most (t ∷ ts) = (t.next_link ≤ most) × NextsWithin most ts

abbrev pub NextsAreWithinWeight : Type 0
NextsAreWithinWeight = (all : List TrackState) → NextsWithin (weight all) all

-- what a call adds to the weight at most; after 100,000 calls it is below 2^31
abbrev pub most_added : ℕ
most_added = 8192
