-- Which entries of a station its replies tell of, or its session left, in the order of the journal.
use Rattle.std.specs.Prelude.{◌≡◌, ◌≢◌, ℕ, ◌+◌, ◌≤◌, ◌⊎◌, Bool, true, false, List, [], ◌++◌, All, Some, length, take, slice_get}
use Rattle.room_core.specs.declared.entry.Entry.{Entry}
use Rattle.recorded_sessions.specs.Sessions.{IsAt, places_of}
use Rattle.recorded_sessions.specs.declared.session.Heard.{Heard}

-- how an answer says whether something is so
abbrev pub Says : Bool → Type 0 → Type 0
Says true A = A
Says false A = A → ⊥

-- what of a session is left, its own entries that are told of, and an entry before which so many of these stand
module _ (left : ℕ → Type 0) (heard : Heard) (points : List ℕ) (place count : ℕ) where
  -- the place is the next of the points, and one more of them is before the next place; or it is left, after all of them
  abbrev pub IsPassed : ℕ → Type 0
  IsPassed after =
      ((slice_get points count ≡ Some place) × (after ≡ count + 1))
      ⊎ ((heard.is_cut ≡ true) × (count ≡ length points) × left place × (after ≡ count))

  -- it is neither
  pub record IsStopped : Type 0 where
    pub untold : slice_get points count ≢ Some place
    pub not_left : heard.is_cut ≡ true → count ≡ length points → left place → ⊥

  -- The station's entries before the place are the first of the points; or they are all of them and, where the session was
  -- cut short, entries after them that it left.
  pub record IsFront {C : Type 0} (entries : List (Entry C)) : Type 0 where
    pub skipped : List ℕ
    pub within : count ≤ length points
    pub front : places_of 0 heard.station (take place entries) ≡ take count points ++ skipped
    pub are_left : All left skipped
    pub last : (skipped ≡ []) ⊎ ((heard.is_cut ≡ true) × (count ≡ length points))

-- all entries of the station are passed
abbrev pub PassesAll : {C : Type 0} → (ℕ → Type 0) → Heard → List ℕ → List (Entry C) → Type 0
PassesAll left heard points entries = (count : ℕ) × IsFront left heard points (length entries) count entries

-- the entry at a place is the station's first that is neither told of nor left
abbrev pub IsUntold : {C : Type 0} → (ℕ → Type 0) → Heard → List ℕ → List (Entry C) → ℕ → Type 0
IsUntold left heard points entries place =
    (count : ℕ) × IsAt entries heard.station place × IsFront left heard points place count entries
    × IsStopped left heard points place count
