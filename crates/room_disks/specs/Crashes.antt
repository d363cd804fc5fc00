-- What a crash may leave of a file, and how the file of a disk has stood from call to call.
use Rattle.std.specs.Prelude.{◌≡◌, ◌⊎◌, ℕ, ◌+◌, ◌-◌, ◌≤◌, max, min, List, [], ◌∷◌, ◌++◌}
use Rattle.std.specs.Prelude.{length, take, drop, replicate, Option, IfSome}
use Rattle.std.specs.Option.{IsSomeAnd}
use Rattle.std.specs.List.{AllByRecursion}

-- what a crash may find half done: a range that was written, from a place on and of so many bytes, or a cut to a length
pub data Change : Type 0 where
  Range : ℕ → ℕ → Change
  Cut : ℕ → Change

-- A file between two calls: what a read gives, what the last sync that succeeded left, and what was changed since, the
-- newest first.
pub record Stand : Type 0 where
  pub reads : List ℕ
  pub synced : List ℕ
  pub changes : List Change

-- After a write of n bytes that a crash cut short the range may hold any bytes, and so may what lies past the old end.
-- The length is any from the old end to the end of what was written. All other bytes stay.
pub record Torn (at n : ℕ) (old new : List ℕ) : Type 0 where
  pub before : take (min at (length old)) new ≡ take at old
  pub after : drop (at + n) new ≡ drop (at + n) old
  pub no_shorter : length old ≤ length new
  pub no_longer : length new ≤ max (length old) (at + n)

-- what one change may have come to; a cut has happened or has not
abbrev pub MayTurn : Change → List ℕ → List ℕ → Type 0
MayTurn (Range at n) old new = Torn at n old new
MayTurn (Cut len) old new = (new ≡ old) ⊎ (new ≡ take len old)

-- what synced bytes may have turned into by these changes, the newest first
abbrev pub MayBecome : List Change → List ℕ → List ℕ → Type 0
MayBecome [] synced image = image ≡ synced
MayBecome (change ∷ earlier) synced image =
    (before : List ℕ) × MayBecome earlier synced before × MayTurn change before image

-- a crash may leave this
abbrev pub IsImage : Stand → List ℕ → Type 0
IsImage s image = MayBecome s.changes s.synced image

-- whatever a crash leaves, this holds of it
abbrev pub Within : (List ℕ → Type 0) → Stand → Type 0
Within P s = (image : List ℕ) → IsImage s image → P image

-- all of it is on the disk
abbrev pub settled : List ℕ → Stand
settled bytes = record { reads = bytes; synced = bytes; changes = [] }

-- How a file has stood: as it stands now, and before each call that was made on it, the last call first.
pub record Course : Type 0 where
  pub now : Stand
  pub past : List Stand

abbrev pub stands : Course → List Stand
stands c = c.now ∷ c.past

-- one call later
abbrev pub moved : Course → Stand → Course
moved c s = record { now = s; past = c.now ∷ c.past }

-- What is told after a call was told before it too, and this holds of the two. So a disk that tells nothing any more
-- tells nothing from then on.
abbrev pub Told : (Course → Course → Type 0) → Option Course → Option Course → Type 0
Told R before after = IfSome after (λ new. IsSomeAnd before (λ old. R old new))

-- ---- what a call does

-- nothing but to look
abbrev pub Stays : Course → Course → Type 0
Stays old new = new ≡ moved old old.now

-- a sync that succeeded: a crash leaves what a read gives
abbrev pub Syncs : Course → Course → Type 0
Syncs old new = new ≡ moved old (settled old.now.reads)

-- one change more since the last sync
abbrev pub Changes : Change → Course → Course → Type 0
Changes change old new =
    new ≡ moved old (record { reads = new.now.reads; synced = old.now.synced; changes = change ∷ old.now.changes })

-- what a write of these bytes leaves; past the old end zeros come before them
abbrev pub written : ℕ → List ℕ → List ℕ → List ℕ
written at bytes old = take at old ++ (replicate (at - length old) 0 ++ (bytes ++ drop (at + length bytes) old))

abbrev pub Writes : ℕ → List ℕ → Course → Course → Type 0
Writes at bytes old new = new.now.reads ≡ written at bytes old.now.reads

abbrev pub Cuts : ℕ → Course → Course → Type 0
Cuts len old new = new.now.reads ≡ take len old.now.reads

-- ---- several calls

-- from one course to a later one a crash at any moment leaves what has P
pub record Since (P : List ℕ → Type 0) (old new : Course) : Type 0 where
  pub more : List Stand
  pub grew : stands new ≡ more ++ stands old
  pub each : AllByRecursion (Within P) more
  pub here : Within P new.now

-- at most so many calls were made
abbrev pub AtMost : ℕ → Course → Course → Type 0
AtMost most old new = length new.past ≤ length old.past + most

-- what an image may have turned into by one change
abbrev pub TurnedFrom : Change → Course → List ℕ → Type 0
TurnedFrom change c image = (before : List ℕ) × IsImage c.now before × MayTurn change before image
