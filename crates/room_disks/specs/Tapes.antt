-- Files over memory: what they held at first, and each call since.
use Rattle.std.specs.Prelude.{◌≡◌, ℕ, List, [], ◌∷◌, ◌++◌, length, take, Option, IfSome}
use Rattle.std.specs.Option.{IsSomeAnd}
use Rattle.room_ports.specs.Calls.{Calls}
use Rattle.room_disks.specs.Crashes.{Range, Cut, Stand, Course, moved, settled, written}

-- a call: one that looks or fails to sync; a write and a write that failed; a cut and a cut that failed; a sync
pub data Done : Type 0 where
  Looks : Done
  Puts : ℕ → List ℕ → Done
  FailsToPut : ℕ → ℕ → Done
  CutsTo : ℕ → Done
  FailsToCut : ℕ → Done
  Syncs : Done

-- what the file held at first, all of it on the disk, and the calls since, the first call first
pub record Tape : Type 0 where
  pub start : List ℕ
  pub done : List Done

-- A call that failed leaves what a read gives.
abbrev pub after : Stand → Done → Stand
after s Looks = s
after s (Puts at bytes) =
    record { reads = written at bytes s.reads; synced = s.synced; changes = Range at (length bytes) ∷ s.changes }
after s (FailsToPut at n) = record { reads = s.reads; synced = s.synced; changes = Range at n ∷ s.changes }
after s (CutsTo len) = record { reads = take len s.reads; synced = s.synced; changes = Cut len ∷ s.changes }
after s (FailsToCut len) = record { reads = s.reads; synced = s.synced; changes = Cut len ∷ s.changes }
after s Syncs = settled s.reads

abbrev pub played : Course → List Done → Course
played c [] = c
played c (call ∷ calls) = played (moved c (after c.now call)) calls

-- how the file has stood
abbrev pub course_of : Tape → Course
course_of t = played (record { now = settled t.start; past = [] }) t.done

abbrev pub held_by : Tape → List ℕ
held_by t = (course_of t).now.reads

-- one call more
abbrev pub with_call : Done → Tape → Tape
with_call call t = record { start = t.start; done = t.done ++ call ∷ [] }

-- Where the calls are told after one more, they were told before it.
abbrev pub Adds : Done → Option Tape → Option Tape → Type 0
Adds call before after = IfSome after (λ new. IsSomeAnd before (λ old. new ≡ with_call call old))

-- a disk that fails where it is told to: its tape, or None where it tells nothing any more, and its calls
pub record MemDiskState : Type 0 where
  pub tape : Option Tape
  pub calls : Calls
