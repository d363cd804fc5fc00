-- A home: a part with its number, its seat and its version; and what is held of several.
use Rattle.std.specs.Prelude.{◌≡◌, ℕ, ◌/◌, ◌%◌, ◌^◌, ◌==◌, Bool, List, [], ◌∷◌, length, Option, Some, slice_get}
use Rattle.std.specs.List.{filter}
use Rattle.room_core.specs.declared.entry.Entry.{Entry}
use Rattle.room_core.specs.History.{replay, IsLegal}
use Rattle.room_core.specs.Parts.{AreGood, numbers}
use Rattle.room_core.specs.Projection.{of_part}
use Rattle.room_core.specs.Whole.{Meaning, whole}
use Rattle.edit_journal.specs.declared.name.Name.{Name}
use Rattle.edit_journal.specs.declared.name.Name.TheVariants.{Part}
use Rattle.edit_journal.specs.Seats.{Opening, In, without}
use Rattle.edit_journal.specs.Turns.{Known, Open, gathered, given}

-- A home: the number of its part, the part, how many entries name it, and the entries that its seat knows.
pub record Homed (P C : Type 0) : Type 0 where
  pub number : ℕ
  pub part : P
  pub version : ℕ
  pub entries : List (Entry C)

-- What is held: the numbers of the parts, ascending, and for each its part and its version; and the seats, while they are
-- not at the journal.
pub record HeldParts (O P C : Type 0) : Type 0 where
  pub numbers : List ℕ
  pub parts : List P
  pub versions : List ℕ
  pub seats : List (Known O P C)

-- a set has this number: bit n for the number n
abbrev pub has_bit : ℕ → ℕ → Bool
has_bit set n = set / 2 ^ n % 2 == 1

-- the numbers of a set that are below a count, in ascending order
abbrev pub members : ℕ → ℕ → List ℕ
members count set = filter (has_bit set) (numbers 0 count)

-- a part is what these entries come to at its number
abbrev pub IsAt : {O P C D R : Type 0} → (O → Meaning P C D R) → Option (Opening O P) → ℕ → List (Entry C) → P → Type 0
IsAt {O} {P} meaning opening number entries part =
    (o : Opening O P) × (opening ≡ Some o) × (now : List P)
    × (replay (whole (meaning o.0)) o.1 entries ≡ Some now) × (slice_get now number ≡ Some part)

-- how many of these entries name a part
abbrev pub IsVersion : {O P C D R : Type 0} → (O → Meaning P C D R) → Option (Opening O P) → ℕ → List (Entry C) → ℕ → Type 0
IsVersion {O} {P} meaning opening number entries version =
    (o : Opening O P) × (opening ≡ Some o)
    × (version ≡ length (of_part (meaning o.0).names number entries))

-- a part is good at its number, for the object of the opening
abbrev pub IsGoodAt : {O P : Type 0} → (O → ℕ → P → Type 0) → Option (Opening O P) → ℕ → P → Type 0
IsGoodAt {O} {P} good opening number part = (o : Opening O P) → opening ≡ Some o → good o.0 number part

-- and each of several at its own
abbrev pub AreGoodAt : {O P : Type 0} → (O → ℕ → P → Type 0) → Option (Opening O P) → List ℕ → List P → Type 0
AreGoodAt {O} {P} good opening ns ps = (o : Opening O P) → opening ≡ Some o → AreGood (good o.0) ns ps

-- a legal history of the opening
abbrev pub IsHistory : {O P C D R : Type 0} → (O → Meaning P C D R) → (O → List P → Type 0) → Option (Opening O P) → List (Entry C) → Type 0
IsHistory {O} {P} meaning opens opening entries =
    (o : Opening O P) × (opening ≡ Some o) × opens o.0 o.1
    × IsLegal (whole (meaning o.0)) o.1 entries

-- a home: its part is what the entries that its seat knows come to at it, and its version counts those that name it
pub record IsHome {O P C D R : Type 0} (meaning : O → Meaning P C D R) (opens : O → List P → Type 0) (opening : Option (Opening O P)) (number : ℕ) (part : P) (version : ℕ) (entries : List (Entry C)) : Type 0 where
  pub history : IsHistory meaning opens opening entries
  pub at : IsAt meaning opening number entries part
  pub counted : IsVersion meaning opening number entries version

-- the same of a part that is held, with its seat
pub record IsHeld {O P C D R : Type 0} (meaning : O → Meaning P C D R) (opens : O → List P → Type 0) (opening : Option (Opening O P)) (number : ℕ) (part : P) (version : ℕ) (seat : Known O P C) : Type 0 where
  pub number_is : seat.number ≡ number
  pub opening_is : seat.opening ≡ opening
  pub home : IsHome meaning opens opening number part version seat.entries

-- and of each that is held, in order
pub record AreHomes {O P C D R : Type 0} (meaning : O → Meaning P C D R) (opens : O → List P → Type 0) (opening : Option (Opening O P)) (ns : List ℕ) (ps : List P) (vs : List ℕ) (ss : List (Known O P C)) : Type 0 where
  pub parts : length ps ≡ length ns
  pub versions : length vs ≡ length ns
  pub seats : length ss ≡ length ns
  pub each : (k n : ℕ) (p : P) (v : ℕ) (s : Known O P C) → slice_get ns k ≡ Some n → slice_get ps k ≡ Some p → slice_get vs k ≡ Some v → slice_get ss k ≡ Some s
      → IsHeld meaning opens opening n p v s

-- seats are gathered, the last of them first
abbrev pub all_gathered : {O P C : Type 0} → List (Known O P C) → Open O P C → Open O P C
all_gathered [] v = v
all_gathered (s ∷ ss) v = gathered (Part s.number) s.opening s.entries (all_gathered ss v)

-- seats of these parts are given out, one after another
abbrev pub all_given : {O P C : Type 0} → List ℕ → Open O P C → Open O P C
all_given [] v = v
all_given (n ∷ ns) v = all_given ns (given (Part n) v)

-- each of them is there when its turn comes
abbrev pub CanGive : List ℕ → List Name → Type 0
CanGive [] names = Unit {0}
CanGive (n ∷ ns) names = In (Part n) names × CanGive ns (without (Part n) names)

-- each of these parts is what the entries come to at its number, and its version counts those that name it
abbrev pub StandFor : {O P C D R : Type 0} → (O → Meaning P C D R) → Option (Opening O P) → List (Entry C) → List ℕ → List P → List ℕ → Type 0
StandFor {O} {P} meaning opening entries ns ps vs =
    (k n : ℕ) (p : P) (v : ℕ) → slice_get ns k ≡ Some n → slice_get ps k ≡ Some p
    → slice_get vs k ≡ Some v
    → IsAt meaning opening n entries p × IsVersion meaning opening n entries v
