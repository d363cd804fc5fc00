-- A recorded session that a journal explains.
use Rattle.std.specs.Prelude.{◌≡◌, ℕ, ◌+◌, ◌≤◌, false, List, [], ◌∷◌, ◌++◌, All, Some, IsSomeAnd, slice_get, ◌==◌, if◌then◌else◌}
use Rattle.room_core.specs.declared.entry.Entry.{Entry}
use Rattle.recorded_sessions.specs.Telling.{Explaining, Goes}
use Rattle.recorded_sessions.specs.declared.session.Heard.{Heard}
use Rattle.recorded_sessions.specs.declared.telling.Told.{Told}
use Rattle.recorded_sessions.specs.declared.telling.Told.TheVariants.{Own}

-- where the entries of a station stand, of entries the first of which stands at this place
abbrev pub places_of : {C : Type 0} → ℕ → ℕ → List (Entry C) → List ℕ
places_of place station [] = []
places_of place station (e ∷ es) = if e.station == station then place ∷ places_of (place + 1) station es else places_of (place + 1) station es

-- the entry at a point is the station's
abbrev pub IsAt : {C : Type 0} → List (Entry C) → ℕ → ℕ → Type 0
IsAt entries station point = IsSomeAnd (slice_get entries point) (λ e. e.station ≡ station)

-- where a reply tells of its line's own entry, it is the station's
abbrev pub AreOwn : {C : Type 0} → List (Entry C) → ℕ → List Told → Type 0
AreOwn entries station tells = (index point : ℕ) → slice_get tells index ≡ Some (Own point) → IsAt entries station point

-- Each reply is explained, and belongs to a line; without a cut each line has one. The station's entries are those that
-- its replies tell of, and after these, where the session was cut short, others that it left.
pub record IsSession {C : Type 0} (explains : Explaining) (left : ℕ → Type 0) (heard : Heard) (entries : List (Entry C)) : Type 0 where
  pub told : ℕ
  pub answered : List ℕ
  pub unanswered : List ℕ
  pub few : heard.replies ≤ heard.lines
  pub whole : heard.is_cut ≡ false → (heard.lines ≡ heard.replies) × (unanswered ≡ [])
  pub goes : Goes explains 1 heard.replies 0 told answered
  pub places : places_of 0 heard.station entries ≡ answered ++ unanswered
  pub are_left : All left unanswered
