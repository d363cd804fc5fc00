-- What tokens and a turn at the journal know, as the layers above see it.
use Rattle.std.specs.Prelude.{◌≡◌, ◌<◌, ℕ, max, List, [], ◌∷◌, ◌++◌, Option, Some, All, IsSome, true, slice_get, fold, map}
use Rattle.atomic_table.specs.Seated.{TableId}
use Rattle.room_core.specs.declared.entry.Entry.{Entry}
use Rattle.room_core.specs.History.{replay, IsLegal}
use Rattle.room_core.specs.Parts.{numbers}
use Rattle.room_core.specs.Projection.{of_station}
use Rattle.room_core.specs.Whole.{Meaning, whole}
use Rattle.edit_journal.specs.declared.name.Name.{Name}
use Rattle.edit_journal.specs.declared.name.Name.TheVariants.{Station}
use Rattle.edit_journal.specs.declared.view.View.{View}
use Rattle.edit_journal.specs.Seats.{Opening, In, Agrees, bears, without, forget}

-- A token: the number of its part or station, the opening of its journal, and the entries that were there when it was
-- given out.
pub record Known (O P C : Type 0) : Type 0 where
  pub number : ℕ
  pub opening : Option (Opening O P)
  pub entries : List (Entry C)

-- What is open at the journal: its opening and entries, the names of the tokens that were gathered, and, of those that
-- were gathered since the last entry, the opening and the entries that each knew.
pub record Open (O P C : Type 0) : Type 0 where
  pub opening : Option (Opening O P)
  pub entries : List (Entry C)
  pub names : List Name
  pub told : List (Name × (Option (Opening O P) × List (Entry C)))

-- as the journal's seat has it
abbrev pub open_of : {O P C : Type 0} → View O P C → Open O P C
open_of v = record { opening = v.opening; entries = v.entries; names = v.names; told = v.remembered }

-- A turn: what is open, for how many entries there is memory, and how many tokens are with the turn.
pub record AtJournal (O P C : Type 0) : Type 0 where
  pub journal : Open O P C
  pub room : ℕ
  pub tokens : ℕ

-- a new table that has no journal yet
pub record Fresh (O P : Type 0) : Type 0 where
  pub table : TableId
  pub opening : Option (Opening O P)
  pub parts : ℕ
  pub stations : ℕ

-- a token was gathered, a name was given out again, and an entry was added
abbrev pub gathered : {O P C : Type 0} → Name → Option (Opening O P) → List (Entry C) → Open O P C → Open O P C
gathered x o l v = record v { names = v.names ++ x ∷ []; told = v.told ++ (x, (o, l)) ∷ [] }

abbrev pub given : {O P C : Type 0} → Name → Open O P C → Open O P C
given x v = record v { names = without x v.names; told = forget x v.told }

abbrev pub entered : {O P C : Type 0} → Entry C → Open O P C → Open O P C
entered e v = record v { entries = v.entries ++ e ∷ []; told = [] }

-- the greatest number of a station's own entries, 0 before the first
abbrev pub last_of : {C : Type 0} → ℕ → List (Entry C) → ℕ
last_of station entries = fold (λ m e. max m e.number) 0 (of_station station entries)

-- the entries of a journal are a legal history of its opening, and each bears one of the journal's stations
abbrev pub IsJournal : {O P C D R : Type 0} → (O → Meaning P C D R) → (O → List P → Type 0) → ℕ → Option (Opening O P) → List (Entry C) → Type 0
IsJournal {O} {P} meaning opens stations opening entries =
    (o : Opening O P) × (opening ≡ Some o) × opens o.0 o.1
    × IsLegal (whole (meaning o.0)) o.1 entries × All (λ e. e.station < stations) entries

-- each token that was gathered has the journal's opening, and what it knew begins the journal and agrees with it on the
-- token's name
abbrev pub AllAgree : {O P C D R : Type 0} → (O → Meaning P C D R) → Open O P C → Type 0
AllAgree {O} {P} {C} meaning v =
    (opening : Opening O P) (x : Name) (o : Option (Opening O P)) (l : List (Entry C))
    → v.opening ≡ Some opening → In (x, (o, l)) v.told
    → (o ≡ Some opening) × Agrees (meaning opening.0).names v.entries x l

-- this history has its name's entries of the journal with this opening, and begins it
abbrev pub StandsIn : {O P C D R : Type 0} → (O → Meaning P C D R) → Option (Opening O P) → List (Entry C) → Name → List (Entry C) → Type 0
StandsIn {O} {P} meaning opening entries x l = (o : Opening O P) → opening ≡ Some o → Agrees (meaning o.0).names entries x l

-- so many tokens, numbered from 0, of this opening and with no entry
abbrev pub AreFresh : {O P C : Type 0} → Option (Opening O P) → ℕ → List (Known O P C) → Type 0
AreFresh opening count tokens = (map (λ t. t.number) tokens ≡ numbers 0 count) × All (λ t. (t.opening ≡ opening) × (t.entries ≡ [])) tokens

-- the tokens of the entry's parts and of its station were gathered
abbrev pub HasNames : {O P C D R : Type 0} → (O → Meaning P C D R) → Open O P C → Entry C → Type 0
HasNames {O} {P} meaning v e =
    (o : Opening O P) × (v.opening ≡ Some o) × ((x : Name) → bears (meaning o.0).names e x ≡ true
    → In x v.names)

-- the entry's call applies on what the entries come to
abbrev pub Applies : {O P C D R : Type 0} → (O → Meaning P C D R) → Open O P C → Entry C → Type 0
Applies {O} {P} meaning v e =
    (o : Opening O P) × (v.opening ≡ Some o) × IsSome
    (replay (whole (meaning o.0)) o.1 (v.entries ++ e ∷ []))

-- what lies under the journal's lock
pub record IsKeptLog {O P C D R : Type 0} (meaning : O → Meaning P C D R) (opens : O → List P → Type 0) (stations : ℕ) (v : Open O P C) (lasts : List ℕ) : Type 0 where
  pub journal : IsJournal meaning opens stations v.opening v.entries
  pub each_last : (s : ℕ) → s < stations → slice_get lasts s ≡ Some (last_of s v.entries)
  pub own_stations : (s : ℕ) → In (Station s) v.names → s < stations
