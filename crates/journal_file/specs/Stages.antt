-- An open file as the code keeps it.
use Rattle.std.specs.Prelude.{◌≡◌, ◌≢◌, ◌⊎◌, ℕ, ◌+◌, ◌≤◌, List, [], ◌∷◌, ◌++◌, length, Option, Some, None}
use Rattle.std.specs.Prelude.{IfSome}
use Rattle.std.specs.List.{AllByRecursion}
use Rattle.journal_file.specs.declared.held.Held.{Held}
use Rattle.journal_file.specs.declared.held.Held.TheVariants.{Line, Lines}
use Rattle.journal_file.specs.declared.stage.Stage.{Stage}
use Rattle.journal_file.specs.declared.stage.Stage.TheVariants.{Settled, Staging, Opening}
use Rattle.room_disks.specs.Crashes.{Course, Within, IsImage, Since}
use Rattle.journal_file.specs.Layout.{IsLine, front_of}
use Rattle.journal_file.specs.Batches.{piece_of, IsBatch}

-- the lines that are held for an append
abbrev pub held_by : Held → List (List ℕ)
held_by (Line line) = line ∷ []
held_by (Lines lines) = lines

-- a closed gate is behind the lines, whatever a crash leaves; what is behind it does not count
abbrev pub IsClosed : List (List ℕ) → Course → Type 0
IsClosed lines c = (gate : ℕ) × (gate ≢ 43)
    × Within (λ image. (rest : List ℕ) × (image ≡ front_of lines ++ gate ∷ rest)) c.now

-- What a crash may leave of the file of these lines, where this piece is written behind the gate. Settled: the gate is
-- closed. Staging: so it is, and the piece or a part of it may be behind it. Opening: the piece stands behind the gate,
-- which may be open or closed. What is behind the piece does not count.
abbrev pub Stands : Stage → List (List ℕ) → List ℕ → Course → Type 0
Stands Settled lines piece c = IsClosed lines c
Stands Staging lines piece c = IsClosed lines c
Stands Opening lines piece c =
    Within (λ image. (gate : ℕ) × (rest : List ℕ) × (image ≡ front_of lines ++ gate ∷ (piece ++ rest))) c.now

-- a file with so many records takes these too
abbrev pub Fits : ℕ → List (List ℕ) → Type 0
Fits count batch = IsBatch batch × (count + length batch ≤ 100000)

abbrev pub IsHeld : Stage → ℕ → List (List ℕ) → Type 0
IsHeld Settled count batch = Unit {0}
IsHeld Staging count batch = Fits count batch
IsHeld Opening count batch = Fits count batch

-- while nothing is settled the lines are pending
abbrev pub pending_of : Stage → List (List ℕ) → Option (List (List ℕ))
pending_of Settled batch = None
pending_of Staging batch = Some batch
pending_of Opening batch = Some batch

-- what an open file knows of its disk
pub record IsFiled (course : Option Course) (lines : List (List ℕ)) (count gate : ℕ) (stage : Stage)
    (batch : List (List ℕ)) : Type 0 where
  pub are_lines : AllByRecursion IsLine lines
  pub counts : length lines ≡ count
  pub place : gate ≡ length (front_of lines)
  pub held : IsHeld stage count batch
  pub stands : IfSome course (Stands stage lines (piece_of batch))

-- the piece is behind an open gate, whatever a crash leaves
abbrev pub IsAppended : List (List ℕ) → List ℕ → Course → Type 0
IsAppended lines piece c =
    Within (λ image. (rest : List ℕ) × (image ≡ front_of lines ++ 43 ∷ (piece ++ rest))) c.now

-- a closed gate is behind the lines, or an open one with the piece
abbrev pub IsEither : List (List ℕ) → List ℕ → List ℕ → Type 0
IsEither lines piece bytes =
    ((gate : ℕ) × (rest : List ℕ) × (gate ≢ 43) × (bytes ≡ front_of lines ++ gate ∷ rest))
    ⊎ ((rest : List ℕ) × (bytes ≡ front_of lines ++ 43 ∷ (piece ++ rest)))

-- so much was read, and nothing was changed
pub record HasRead (bytes : List ℕ) (old new : Course) : Type 0 where
  pub same : new.now ≡ old.now
  pub since : Since (IsImage old.now) old new
  pub rest : List ℕ
  pub split : old.now.reads ≡ bytes ++ rest

-- what an opening leaves
pub record IsOpened (after : Option Course) (lines : List (List ℕ)) (gate : ℕ) : Type 0 where
  pub are_lines : AllByRecursion IsLine lines
  pub place : gate ≡ length (front_of lines)
  pub stands : IfSome after (Stands Settled lines [])
