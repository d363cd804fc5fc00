-- Parts that are held while their seats and a pass are at the journal.
use Rattle.std.specs.Prelude.{◌≡◌, ℕ, ◌+◌, ◌<◌, List, Option, Some, All, length}
use Rattle.room_core.specs.declared.entry.Entry.{Entry}
use Rattle.room_core.specs.History.{replay}
use Rattle.room_core.specs.Whole.{Meaning, picked, whole}
use Rattle.edit_journal.specs.declared.name.Name.TheVariants.{Part, Station}
use Rattle.edit_journal.specs.Seats.{Opening, In}
use Rattle.edit_journal.specs.Turns.{AtJournal, Known, StandsIn, entered}
use Rattle.track_locks.specs.Homes.{HeldParts, IsHistory, StandFor}
use Rattle.cut_room.specs.declared.committing.Appended.{Appended}
use Rattle.cut_room.specs.declared.committing.Appended.TheVariants.{At, Full, Memory}

-- The journal is a legal history, which the pass's history begins with all entries of its station, and the held parts
-- are what it comes to. The turn has the seats and the pass.
pub record IsGathered {O P C D R : Type 0} (meaning : O → Meaning P C D R) (opens : O → List P → Type 0) (opening : Option (Opening O P))
    (turn : AtJournal O P C) (held : HeldParts O P C) (pass : Known O P C) : Type 0 where
  pub opening_is : turn.journal.opening ≡ opening
  pub journal : IsHistory meaning opens opening turn.journal.entries
  pub pass_stands : StandsIn meaning opening turn.journal.entries (Station pass.number) pass.entries
  pub parts_stand : StandFor meaning opening turn.journal.entries held.numbers held.parts held.versions
  pub tokens : turn.tokens ≡ length held.numbers + 1
  pub has_parts : All (λ n. In (Part n) turn.journal.names) held.numbers
  pub has_pass : In (Station pass.number) turn.journal.names

-- these parts stand at these numbers in what the entries come to
pub record ComesTo {P C D R : Type 0} (m : Meaning P C D R) (opening : List P) (entries : List (Entry C)) (names : List ℕ) (parts : List P) : Type 0 where
  pub now : List P
  pub comes : replay (whole m) opening entries ≡ Some now
  pub picked_is : picked now names ≡ parts

-- the entry was added, or the journal was full, or there was no memory
abbrev pub Appends : {O P C : Type 0} → Entry C → AtJournal O P C → AtJournal O P C → Appended → Type 0
Appends entry before after (At point) =
    (after.journal ≡ entered entry before.journal) × (point ≡ length before.journal.entries) × (point < 100000)
Appends entry before after Full = (after.journal ≡ before.journal) × (length before.journal.entries ≡ 100000)
Appends entry before after Memory = after.journal ≡ before.journal
