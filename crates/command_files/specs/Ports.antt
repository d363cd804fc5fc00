-- What the program's ports tell, before a call and after it.
use Rattle.std.specs.Prelude.{◌≡◌, ℕ, List, Option}
use Rattle.room_disks.specs.Crashes.{Course}

-- what a port told before a call and tells after it, and the fact that it is as it was
pub record Change (T : Type 0) : Type 1 where
  pub before : T
  pub after : T
  pub Untouched : Type 0

-- of a port before and after, where it tells this
abbrev pub change : {P T : Type 0} → (P → T) → P → P → Change T
change told old new = record { before = told old; after = told new; Untouched = new ≡ old }

-- of an input: the bytes that are left, where they are told, and how often a read has failed
pub record InputTold : Type 0 where
  pub left : Option (List ℕ)
  pub faults : ℕ

abbrev pub input_told : {S : Type 0} → (S → Option (List ℕ)) → (S → ℕ) → S → InputTold
input_told left faults input = record { left = left input; faults = faults input }

-- of an output: the bytes that it has taken, where they are told, and how often a write has failed
pub record OutputTold : Type 0 where
  pub taken : Option (List ℕ)
  pub faults : ℕ

abbrev pub output_told : {K : Type 0} → (K → Option (List ℕ)) → (K → ℕ) → K → OutputTold
output_told taken faults output = record { taken = taken output; faults = faults output }

-- of a disk: how the file of a name stands and how the open one has stood, where that is told, and how often a call has
-- failed
pub record DiskTold : Type 0 where
  pub file : List ℕ → Option Course
  pub course : Option Course
  pub faults : ℕ

abbrev pub disk_told : {D : Type 0} → (D → List ℕ → Option Course) → (D → Option Course) → (D → ℕ) → D → DiskTold
disk_told file course faults disk = record { file = file disk; course = course disk; faults = faults disk }
