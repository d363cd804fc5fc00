-- What a hall tells of its stations, and of the addresses at which it was opened.
use Rattle.std.specs.Prelude.{◌≡◌, ◌≢◌, ℕ, List, [], ◌∷◌, ◌++◌, Option, IfSome, Some, None, Bool, true, false, Result, Ok, Err, slice_get}
use Rattle.std.specs.Option.{IsSomeAnd}
use Rattle.room_ports.specs.Counts.{HasRisen}
use Rattle.room_halls.specs.declared.hall.HallFault.{HallFault}
use Rattle.room_halls.specs.declared.hall.HallFault.TheVariants.{Failed, Memory}

-- of a line: what it has left to give and what it took, where that is told, and how often reads and writes of it failed
pub record LineTold : Type 0 where
  pub left : Option (List ℕ)
  pub taken : Option (List ℕ)
  pub read_faults : ℕ
  pub write_faults : ℕ

abbrev pub line_told : Option (List ℕ) → Option (List ℕ) → ℕ → ℕ → LineTold
line_told left taken reads writes =
    record { left = left; taken = taken; read_faults = reads; write_faults = writes }

-- of a station: its line, and whether it was seated
pub record Station : Type 0 where
  pub line : LineTold
  pub seated : Bool

abbrev pub station_told : LineTold → Bool → Station
station_told line seated = record { line = line; seated = seated }

-- What a hall tells: of each station, how often a call of it has failed, and the bytes of each address at which it was
-- opened, in order. None tells no address.
pub record HallTold : Type 0 where
  pub station : ℕ → Station
  pub faults : ℕ
  pub opened : Option (List (List ℕ))

abbrev pub hall_told : (ℕ → Station) → ℕ → Option (List (List ℕ)) → HallTold
hall_told station faults opened = record { station = station; faults = faults; opened = opened }

-- Where addresses are told after the call they are those that were told before it, with this one at the end. So a hall that
-- tells none any more tells none from then on.
abbrev pub OpensAt : Option (List (List ℕ)) → Option (List (List ℕ)) → List ℕ → Type 0
OpensAt before after address = IfSome after (λ now. IsSomeAnd before (λ old. now ≡ old ++ address ∷ []))

-- nothing that is told of a station changes
abbrev pub NoneMoves : (ℕ → Station) → (ℕ → Station) → Type 0
NoneMoves old new = (station : ℕ) → new station ≡ old station

-- nor of another station than this one
abbrev pub OthersStay : ℕ → (ℕ → Station) → (ℕ → Station) → Type 0
OthersStay station old new = (other : ℕ) → other ≢ station → new other ≡ old other

-- a call that failed is counted, and no other
abbrev pub CountsSeat : {L : Type 0} → Result L HallFault → ℕ → ℕ → Type 0
CountsSeat (Ok line) before after = after ≡ before
CountsSeat (Err Failed) before after = HasRisen before after
CountsSeat (Err Memory) before after = after ≡ before

-- ---- by the number of a station

-- what is noted of a station; none is where the list ends
abbrev pub noted : {T : Type 0} → Option (Option T) → Option T
noted None = None
noted (Some note) = note

abbrev pub note_of : {T : Type 0} → List (Option T) → ℕ → Option T
note_of notes station = noted (slice_get notes station)

-- a station was seated where something is noted of it
abbrev pub is_noted : {T : Type 0} → Option T → Bool
is_noted None = false
is_noted (Some note) = true
