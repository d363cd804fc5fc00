-- The machine of many stations: each part of an object is held by one station or by none, and a station commits a call
-- while it holds all parts that the call names. A station is a number. An event that is not lawful changes nothing.
use Rattle.std.specs.Prelude.{◌≡◌, ◌≢◌, ℕ, List, [], ◌∷◌, ◌++◌, Option, Some, None, Result, Ok, Err, Bool, true, false, not, ◌&&◌, ◌||◌, ◌==◌, length, nat_lt, slice_get, slice_set, replicate, fold, if◌then◌else◌}
use Rattle.std.specs.List.{list_all}
use Rattle.room_core.specs.Whole.{Meaning, whole}
use Rattle.room_core.specs.History.{most_entries}
use Rattle.room_core.specs.declared.entry.Entry.{Entry}

-- a station takes a part, commits a call under a number of its own, or gives a part back
pub data Event (C : Type 0) : Type 0 where
  Take : (station part : ℕ) → Event C
  Commit : (station number : ℕ) (call : C) → Event C
  Give : (station part : ℕ) → Event C

-- what has been committed, the parts, and for each part the station that holds it
pub record Machine (P C : Type 0) : Type 0 where
  pub history : List (Entry C)
  pub parts : List P
  pub holders : List (Option ℕ)

-- nothing is committed, and nothing is held
abbrev pub opened : {P C : Type 0} → List P → Machine P C
opened parts = record { history = []; parts = parts; holders = replicate (length parts) None }

-- a part is there and held by nobody
abbrev pub is_free : Option (Option ℕ) → Bool
is_free (Some None) = true
is_free (Some (Some s)) = false
is_free None = false

-- a part is there and held by this station
abbrev pub is_held_by : ℕ → Option (Option ℕ) → Bool
is_held_by station (Some (Some s)) = s == station
is_held_by station (Some None) = false
is_held_by station None = false

-- the station holds all of these parts
abbrev pub holds_all : List (Option ℕ) → ℕ → List ℕ → Bool
holds_all holders station names = list_all (λ n. is_held_by station (slice_get holders n)) names

-- the number is above all that the station has used
abbrev pub is_above : {C : Type 0} → ℕ → ℕ → List (Entry C) → Bool
is_above station number entries = list_all (λ e. not (e.station == station) || nat_lt e.number number) entries

abbrev pub held_as : {P C : Type 0} → Machine P C → ℕ → Option ℕ → Machine P C
held_as m part holder = record { history = m.history; parts = m.parts; holders = slice_set m.holders part holder }

abbrev pub committed : {P C D R : Type 0} → Machine P C → Entry C → Result (List P × D) R → Machine P C
committed m entry (Ok (parts, d)) = record { history = m.history ++ entry ∷ []; parts = parts; holders = m.holders }
committed m entry (Err r) = m

-- one event
abbrev pub step : {P C D R : Type 0} → Meaning P C D R → Machine P C → Event C → Machine P C
step meaning m (Take s part) = if is_free (slice_get m.holders part) then held_as m part (Some s) else m
step meaning m (Commit s i c) =
    if holds_all m.holders s (meaning.names c) && is_above s i m.history && nat_lt (length m.history) most_entries
    then committed m (record { station = s; number = i; call = c }) (whole meaning m.parts c)
    else m
step meaning m (Give s part) = if is_held_by s (slice_get m.holders part) then held_as m part None else m

-- these events, one after another
abbrev pub run : {P C D R : Type 0} → Meaning P C D R → Machine P C → List (Event C) → Machine P C
run meaning m events = fold (step meaning) m events

-- the event is of another station than this one
abbrev pub IsOfAnother : {C : Type 0} → ℕ → Event C → Type 0
IsOfAnother station (Take s part) = s ≢ station
IsOfAnother station (Commit s number call) = s ≢ station
IsOfAnother station (Give s part) = s ≢ station

-- a part is as it was, and so is who holds it
pub record StaysHeld {P C : Type 0} (before after : Machine P C) (part : ℕ) : Type 0 where
  pub value : slice_get after.parts part ≡ slice_get before.parts part
  pub holder : slice_get after.holders part ≡ slice_get before.holders part
