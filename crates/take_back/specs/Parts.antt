-- Parts with what they were before.
use Rattle.std.specs.Prelude.{◌≡◌, ◌==◌, ℕ, List, [], ◌∷◌, Option, Some, None, Bool, false}
use Rattle.std.specs.Prelude.{All, IfSome, map, if◌then◌else◌}
use Rattle.take_back.specs.declared.kept.Kept.{Kept}
use Rattle.take_back.specs.declared.kept.Former.{Former}

-- a part of which nothing can be taken back
abbrev pub fresh : {P : Type 0} → P → Kept P
fresh part = record { now = part; before = None }

-- the parts as they are now
abbrev pub nows : {P : Type 0} → List (Kept P) → List P
nows ks = map (λ (k : Kept _). k.now) ks

-- a part that a call of this station on these parts has changed
abbrev pub changed_by : {P : Type 0} → ℕ → ℕ → Kept P → P → Kept P
changed_by names by k part = record { now = part; before = Some (record { part = k.now; names = names; by = by }) }

-- the parts that a call was done on, in their order, with what it left; where it left fewer, the others are as they
-- were
abbrev pub changed : {P : Type 0} → ℕ → ℕ → List (Kept P) → List P → List (Kept P)
changed names by [] ps = []
changed names by (k ∷ ks) [] = changed_by names by k k.now ∷ changed names by ks []
changed names by (k ∷ ks) (p ∷ ps) = changed_by names by k p ∷ changed names by ks ps

abbrev pub former_or : {P : Type 0} → Kept P → Option (Former P) → Kept P
former_or k None = k
former_or k (Some f) = fresh f.part

-- a part as it was before the last call, of which nothing more can be taken back
abbrev pub given_back : {P : Type 0} → Kept P → Kept P
given_back k = former_or k k.before

-- the last call on the part was of this station
abbrev pub is_by : {P : Type 0} → ℕ → Option (Former P) → Bool
is_by station None = false
is_by station (Some f) = f.by == station

-- the last call on the part named these parts
abbrev pub has_names : {P : Type 0} → ℕ → Option (Former P) → Bool
has_names names None = false
has_names names (Some f) = f.names == names

-- the number of the first of these parts whose former part fails a test
abbrev pub first_not : {P : Type 0} → (Option (Former P) → Bool) → List ℕ → List (Kept P) → Option ℕ
first_not test [] ks = None
first_not test (n ∷ ns) [] = None
first_not test (n ∷ ns) (k ∷ ks) = if test k.before then first_not test ns ks else Some n

-- a part that can stand at a number, and so can what it was before
abbrev pub IsGoodKept : {P : Type 0} → (ℕ → P → Type 0) → ℕ → Kept P → Type 0
IsGoodKept good n k = good n k.now × IfSome k.before (λ (f : Former _). good n f.part)

-- parts that a history can begin with: nothing can be taken back of any
abbrev pub CanOpen : {P : Type 0} → (List P → Type 0) → List (Kept P) → Type 0
CanOpen opens ks = opens (nows ks) × All (λ (k : Kept _). k.before ≡ None) ks
