-- Why a recorded session is not explained: the first reply, line or entry that is not.
use Rattle.std.specs.Prelude.{◌≡◌, ℕ, ◌+◌, ◌<◌, ◌⊎◌, false, List, min}
use Rattle.room_core.specs.declared.entry.Entry.{Entry}
use Rattle.recorded_sessions.specs.Places.{IsUntold}
use Rattle.recorded_sessions.specs.Telling.{Explaining, Goes}
use Rattle.recorded_sessions.specs.declared.session.Heard.{Heard}
use Rattle.recorded_sessions.specs.declared.session.Stop.{Stop}
use Rattle.recorded_sessions.specs.declared.session.Stop.TheVariants.{Reply, Unpaired, Untold, Memory}

-- how many lines have a reply
abbrev pub pairs_in : Heard → ℕ
pairs_in heard = min heard.lines heard.replies

-- Of so many replies, those before this one are explained, and it is not, where the station had been told of so many
-- entries.
pub record StopsAtReply (explains : Explaining) (count number told : ℕ) : Type 0 where
  pub before : ℕ
  pub points : List ℕ
  pub number_is : number ≡ before + 1
  pub within : before < count
  pub explained : Goes explains 1 before 0 told points
  pub unexplained : (after : ℕ) (here : List ℕ) → explains number told after here → ⊥

-- there is a reply more than lines, or a line more than replies where the session was not cut short
abbrev pub HasNoPair : Heard → Type 0
HasNoPair heard = (heard.lines < heard.replies) ⊎ ((heard.replies < heard.lines) × (heard.is_cut ≡ false))

-- All pairs are explained, and the next line or reply has none.
pub record StopsAtPair (explains : Explaining) (heard : Heard) (number : ℕ) : Type 0 where
  pub told : ℕ
  pub points : List ℕ
  pub number_is : number ≡ pairs_in heard + 1
  pub explained : Goes explains 1 (pairs_in heard) 0 told points
  pub unpaired : HasNoPair heard

-- All replies are explained, and the entry at this place is the station's first that is neither told of nor left.
pub record StopsAtEntry {C : Type 0} (explains : Explaining) (left : ℕ → Type 0) (heard : Heard) (entries : List (Entry C)) (place : ℕ) : Type 0 where
  pub told : ℕ
  pub points : List ℕ
  pub paired : HasNoPair heard → ⊥
  pub explained : Goes explains 1 (pairs_in heard) 0 told points
  pub untold : IsUntold left heard points entries place

-- why it stops: nothing is said where there was no memory
abbrev pub Stops : {C : Type 0} → Explaining → (ℕ → Type 0) → Heard → List (Entry C) → Stop → Type 0
Stops explains left heard entries (Reply number told) = StopsAtReply explains (pairs_in heard) number told
Stops explains left heard entries (Unpaired number) = StopsAtPair explains heard number
Stops explains left heard entries (Untold place) = StopsAtEntry explains left heard entries place
Stops explains left heard entries Memory = Unit {0}

-- it is a refusal
abbrev pub IsRefusal : Stop → Type 0
IsRefusal (Reply number told) = Unit {0}
IsRefusal (Unpaired number) = Unit {0}
IsRefusal (Untold place) = Unit {0}
IsRefusal Memory = ⊥
