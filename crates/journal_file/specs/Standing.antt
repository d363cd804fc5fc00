-- What a kept file stands for, while it is open and when it is opened.
use Rattle.std.specs.Prelude.{◌≡◌, ◌⊎◌, ℕ, ◌<◌, ◌≤◌, ◌^◌, List, ◌++◌, length, Option, Some, None, IfSome}
use Rattle.journal_file.specs.declared.faults.OpenFault.{OpenFault}
use Rattle.journal_file.specs.declared.faults.OpenFault.TheVariants.{Failed, TooLarge, Damaged, TooMany, Memory}
use Rattle.room_disks.specs.Crashes.{Course, Within, Told, Stays, Since}
use Rattle.journal_file.specs.Layout.{Kept, IsDamagedAt}

-- an open file: its disk, how many records it has, and the lines of an append that failed and is to be tried again
pub record JournalState (D : Type 0) : Type 0 where
  pub disk : D
  pub count : ℕ
  pub pending : Option (List (List ℕ))

-- These are the lines of its records, or while an append is pending these or these and all of its lines.
abbrev pub HoldsLines : Option (List (List ℕ)) → List (List ℕ) → List ℕ → Type 0
HoldsLines None lines bytes = Kept bytes lines
HoldsLines (Some batch) lines bytes = Kept bytes lines ⊎ Kept bytes (lines ++ batch)

-- It stands for so many lines as it counts, and whatever a crash leaves now has these lines. So of a disk that tells
-- nothing it says no more than the count.
abbrev pub StandsFor : {D : Type 0} → (D → Option Course) → JournalState D → List (List ℕ) → Type 0
StandsFor course j lines =
    (length lines ≡ j.count) × IfSome (course j.disk) (λ c. Within (HoldsLines j.pending lines) c.now)

-- The file is as it was, or has the records that it had.
abbrev pub KeepsRecords : List ℕ → List ℕ → Type 0
KeepsRecords old new = (new ≡ old) ⊎ ((lines : List (List ℕ)) × Kept old lines × Kept new lines)

-- it has so many records, which are more than 100,000
abbrev pub HasTooMany : List ℕ → ℕ → Type 0
HasTooMany bytes count = (100000 < count) × ((lines : List (List ℕ)) × Kept bytes lines × (length lines ≡ count))

-- Why a file is not opened, where the disk tells what it held: it has more than 128 MiB; or it has not and is damaged, or
-- has more than 100,000 records.
abbrev pub Explains : OpenFault → Option Course → Option Course → Type 0
Explains Failed before after = Unit {0}
Explains TooLarge before after = Told (λ old new. 2 ^ 27 < length old.now.reads) before after
Explains (Damaged at) before after =
    Told (λ old new. (length old.now.reads ≤ 2 ^ 27) × IsDamagedAt old.now.reads at) before after
Explains (TooMany count) before after =
    Told (λ old new. (length old.now.reads ≤ 2 ^ 27) × HasTooMany old.now.reads count) before after
Explains Memory before after = Unit {0}

-- Of an opening that failed a crash leaves what it could leave before, where the first sync failed, which was then the
-- only call; else what it leaves from then on is as the file was, or has the records that it had.
abbrev pub HarmsNothing : Course → Course → Type 0
HarmsNothing old new = Stays old new ⊎ Since (KeepsRecords old.now.reads) old new
