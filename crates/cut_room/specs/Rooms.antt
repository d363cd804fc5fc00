-- A room of many stations: what the pass of a station knows before and after a call, and what the calls answer. A pass
-- knows the entries that stood in the journal when the station last had an answer.
use Rattle.std.specs.Prelude.{◌≡◌, ℕ, ◌+◌, ◌*◌, ◌<◌, ◌≤◌, List, [], ◌∷◌, ◌++◌, Vec, Option, Some, None, Result, Ok, Err, IsOk, length, take, drop, slice_get, option_map, sum_by}
use Rattle.std.specs.Global.{Global}
use Rattle.room_core.specs.declared.entry.Entry.{Entry}
use Rattle.room_core.specs.History.{replay, IsLegal, most_entries}
use Rattle.room_core.specs.Projection.{of_station}
use Rattle.room_core.specs.Whole.{Meaning, picked, whole}
use Rattle.edit_journal.specs.Seats.{Begins}
use Rattle.edit_journal.specs.Turns.{Known}
use Rattle.edit_journal.specs.declared.log.CopyFault.{CopyFault}
use Rattle.edit_journal.specs.declared.log.CopyFault.TheVariants as fault
use Rattle.cut_room.specs.declared.answers.Answer.{Answer}
use Rattle.cut_room.specs.declared.answers.Answer.TheVariants as answer
use Rattle.cut_room.specs.declared.answers.Excerpt.{Excerpt}
use Rattle.cut_room.specs.declared.answers.Sight.{Sight}
use Rattle.cut_room.specs.declared.answers.Sight.TheVariants as sight

-- what a question is answered by these parts: by the part that it is about, or why it is about none
abbrev pub told : {P S Q : Type 0} → Result ℕ Q → (P → Result S Q) → List P → Option (Result S Q)
told (Ok n) seen parts = option_map seen (slice_get parts n)
told (Err refusal) seen parts = Some (Err refusal)

module _ {O P C D R : Type 0} (m : Meaning P C D R) (opening : List P) where
  -- the pass is of the same station and opening, and what it knew begins what it knows, which is legal where that was
  pub record GoesOn (before after : Known O P C) : Type 0 where
    pub number_is : after.number ≡ before.number
    pub opening_is : after.opening ≡ before.opening
    pub front : Begins after.entries before.entries
    pub legal : IsLegal (whole m) opening before.entries → IsLegal (whole m) opening after.entries

  -- and its station has no entry more
  pub record Stays (before after : Known O P C) : Type 0 where
    pub goes_on : GoesOn before after
    pub own : of_station before.number after.entries ≡ of_station before.number before.entries

  -- the same, and the point is the length of the journal, which the pass knows whole
  pub record IsAtPoint (before after : Known O P C) (point : ℕ) : Type 0 where
    pub stays : Stays before after
    pub legal : IsLegal (whole m) opening after.entries
    pub point_is : point ≡ length after.entries

  -- the entry stands behind the point, where its call applied and gave this answer
  pub record IsCommitted (entry : Entry C) (before after : Known O P C) (point : ℕ) (done : D) : Type 0 where
    pub goes_on : GoesOn before after
    pub journal : List (Entry C)
    pub met : Begins journal before.entries
    pub legal : IsLegal (whole m) opening journal
    pub others : of_station before.number journal ≡ of_station before.number before.entries
    pub entries_are : after.entries ≡ journal ++ entry ∷ []
    pub point_is : point ≡ length journal
    pub later : length before.entries ≤ point
    pub room : point < most_entries
    pub parts : List P
    pub comes : replay (whole m) opening journal ≡ Some parts
    pub now : List P
    pub applies : whole m parts entry.call ≡ Ok (now, done)
    pub own : of_station before.number after.entries ≡ of_station before.number before.entries ++ entry ∷ []

  -- the call does not apply behind all entries that the pass knows now
  pub record IsTurnedDown (call : C) (before after : Known O P C) (point : ℕ) (refusal : R) : Type 0 where
    pub at : IsAtPoint before after point
    pub parts : List P
    pub comes : replay (whole m) opening after.entries ≡ Some parts
    pub refused : whole m parts call ≡ Err refusal

  -- the call would apply there, and the journal has its most entries
  pub record FindsNoRoom (call : C) (before after : Known O P C) (point : ℕ) : Type 0 where
    pub at : IsAtPoint before after point
    pub full : point ≡ most_entries
    pub parts : List P
    pub comes : replay (whole m) opening after.entries ≡ Some parts
    pub now : List P
    pub done : D
    pub applies : whole m parts call ≡ Ok (now, done)

  -- a question is answered so by what all entries that the pass knows now come to
  pub record IsSight {S Q : Type 0} (asked : Result ℕ Q) (seen : P → Result S Q) (before after : Known O P C) (point : ℕ) (answer : Result S Q) : Type 0 where
    pub at : IsAtPoint before after point
    pub parts : List P
    pub comes : replay (whole m) opening after.entries ≡ Some parts
    pub told_is : told asked seen parts ≡ Some answer

-- What an edit answers, of the entry that it would be, and what the pass knows then. One that is refused for its names is
-- told so, whatever memory there is.
abbrev pub Edited : {O P C D R A S Q : Type 0} → Meaning P C D R → List P → Entry C → Known O P C → Known O P C → Answer O P C D R A S Q → Type 0
Edited m opening entry before after (answer.Done point done) = IsCommitted m opening entry before after point done
Edited m opening entry before after (answer.Refused point refusal) = IsTurnedDown m opening entry.call before after point refusal
Edited m opening entry before after (answer.Full point) = FindsNoRoom m opening entry.call before after point
Edited m opening entry before after answer.Memory = Stays m opening before after × (m.refuses entry.call ≡ None)

-- the entries that stood before the point of an edit's answer, of those that the pass knows then
abbrev pub stood_before : {O P C D R A S Q : Type 0} → List (Entry C) → Answer O P C D R A S Q → List (Entry C)
stood_before entries (answer.Done point done) = take point entries
stood_before entries (answer.Refused point refusal) = entries
stood_before entries (answer.Full point) = entries
stood_before entries answer.Memory = entries

-- a call takes steps by the sizes of the parts that it names, as these entries left them
abbrev pub TakesAtMost : {P C D R : Type 0} → Meaning P C D R → List P → (P → ℕ) → C → List (Entry C) → ℕ → ℕ → Type 0
TakesAtMost {P} m opening size call entries before after = (parts : List P) → replay (whole m) opening entries ≡ Some parts
    → after ≤ before + 32 * sum_by (λ p. size p + 64) (picked parts (m.names call))

-- What a question is answered. One that is about no part is told so, whatever memory there is.
abbrev pub Looked : {O P C D R A S Q : Type 0} → Meaning P C D R → List P → Result ℕ Q → (P → Result S Q) → Known O P C → Known O P C → Sight O P C D R A S Q → Type 0
Looked m opening asked seen before after (sight.Seen point what) = IsSight m opening asked seen before after point (Ok what)
Looked m opening asked seen before after (sight.Refused point refusal) = IsSight m opening asked seen before after point (Err refusal)
Looked m opening asked seen before after sight.Memory = Stays m opening before after × IsOk asked

-- the parts after so many of the entries that the pass knows now
abbrev pub IsCut : {O P C D R : Type 0} → Meaning P C D R → List P → ℕ → Known O P C → Known O P C → Result (Vec P Global) CopyFault → Type 0
IsCut m opening n before after (Ok parts) = Stays m opening before after × (n ≤ length after.entries) × (replay (whole m) opening (take n after.entries) ≡ Some parts.items)
IsCut m opening n before after (Err (fault.NoPoint count)) = IsAtPoint m opening before after count × (count < n)
IsCut m opening n before after (Err fault.Memory) = Stays m opening before after × (n ≤ length after.entries)

-- the entries from one on, at most so many, of those that the pass knows now, which are all that the journal has
abbrev pub IsExcerpt : {O P C D R : Type 0} → Meaning P C D R → List P → ℕ → ℕ → Known O P C → Known O P C → Result (Excerpt C) CopyFault → Type 0
IsExcerpt m opening from most before after (Ok e) = IsAtPoint m opening before after e.length × (from ≤ e.length) × (e.entries.items ≡ take most (drop from after.entries))
IsExcerpt m opening from most before after (Err (fault.NoPoint count)) = IsAtPoint m opening before after count × (count < from)
IsExcerpt m opening from most before after (Err fault.Memory) = IsAtPoint m opening before after (length after.entries) × (from ≤ length after.entries)
