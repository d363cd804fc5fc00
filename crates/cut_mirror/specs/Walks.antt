-- A walk along a history: a list of entries, a point of it, and what the entries before that point come to.
use Rattle.std.specs.Prelude.{◌≡◌, ◌+◌, ◌<◌, ◌≤◌, ℕ, List, Option, Some, None, Result, Ok, Err, IsSome, length, take, slice_get}
use Rattle.out_of_memory.specs.Answers.{Tells}
use Rattle.out_of_memory.specs.declared.fault.Fault.{Fault}
use Rattle.room_core.specs.declared.entry.Entry.{Entry}
use Rattle.room_core.specs.History.{IsLegal, NumbersRise, most_entries, replay}
use Rattle.room_core.specs.Whole.{Meaning, whole}
use Rattle.cut_mirror.specs.declared.walk.WalkFault.{WalkFault}
use Rattle.cut_mirror.specs.declared.walk.WalkFault.TheVariants.{Refused, Memory}

-- its object, the parts that it begins with, all entries, and where it stands with which parts
pub record Walked (O P C : Type 0) : Type 0 where
  pub object : O
  pub opening : List P
  pub entries : List (Entry C)
  pub point : ℕ
  pub parts : List P

-- The entries can be a history of the opening; those before the point are a legal one, and come to the parts.
pub record IsWalk {O P C D R : Type 0} (meaning : O → Meaning P C D R) (opens : O → List P → Type 0) (w : Walked O P C) : Type 0 where
  pub opens_so : opens w.object w.opening
  pub few : length w.entries ≤ most_entries
  pub rise : NumbersRise w.entries
  pub within : w.point ≤ length w.entries
  pub legal : IsLegal (whole (meaning w.object)) w.opening (take w.point w.entries)
  pub comes : replay (whole (meaning w.object)) w.opening (take w.point w.entries) ≡ Some w.parts

-- it walks along the same history
pub record IsAlong {O P C : Type 0} (before after : Walked O P C) : Type 0 where
  pub object : after.object ≡ before.object
  pub opening : after.opening ≡ before.opening
  pub entries : after.entries ≡ before.entries

-- the entries before this one apply, and it does not
pub record IsUnfit {P C D R : Type 0} (meaning : Meaning P C D R) (opening : List P) (entries : List (Entry C)) (place : ℕ) : Type 0 where
  pub within : place < length entries
  pub before : IsSome (replay (whole meaning) opening (take place entries))
  pub refused : replay (whole meaning) opening (take (place + 1) entries) ≡ None

-- why a walk goes no further
abbrev pub StopsWalk : {O P C D R : Type 0} → (O → Meaning P C D R) → Walked O P C → WalkFault → Type 0
StopsWalk meaning w (Refused place) = IsUnfit (meaning w.object) w.opening w.entries place
StopsWalk meaning w Memory = Unit {0}

-- what a question about one of these parts is answered, where its part is there
abbrev pub seen_there : {P Q X Y : Type 0} → (P → Q → Result X Y) → Option P → Q → Option (Result X Y)
seen_there seen None q = None
seen_there seen (Some p) q = Some (seen p q)

-- what a question is answered by these parts, where it is about one that is there
abbrev pub seen_by : {P Q X Y : Type 0} → Result ℕ Y → (P → Q → Result X Y) → List P → Q → Option (Result X Y)
seen_by (Ok n) seen parts q = seen_there seen (slice_get parts n) q
seen_by (Err r) seen parts q = Some (Err r)

-- it is answered so
abbrev pub IsSeen : {X Y : Type 0} → Option (Result X Y) → Result X (Fault Y) → Type 0
IsSeen None result = ⊥
IsSeen (Some meant) result = Tells meant result
