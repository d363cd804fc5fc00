-- What is true of the shots of a list that was read and that has nothing to refuse.
use Rattle.std.specs.Prelude.{◌≡◌, ℕ, ◌+◌, ◌<◌, ◌≤◌, ◌&&◌, Bool, List, [], ◌∷◌, Option, Some, None, nat_le, nat_lt, if◌then◌else◌}
use Rattle.std.specs.List.{All, sum_by}
use Rattle.timecode12.specs.declared.counting.TheConstants.{MAX_DAY_FRAMES}
use Rattle.frame_meaning.specs.declared.cells.What.{What}
use Rattle.frame_meaning.specs.declared.cells.What.TheVariants.{Media, Nest}
use Rattle.frame_meaning.specs.declared.frames.Side.{Side}
use Rattle.frame_meaning.specs.declared.frames.Side.TheVariants.{Dark, Pic}
use Rattle.edl_events.specs.declared.channel.Channel.{Channel}
use Rattle.edl_events.specs.Channels.{is_on}
use Rattle.list_import.specs.declared.shots.Shot.{Shot}

-- one of so many media, with so many source frames from its first on, or dark
abbrev pub IsSideOf : ℕ → Side What → ℕ → Type 0
IsSideOf media Dark len = Unit {0}
IsSideOf media (Pic (Media m) source) len = (m < media) × (source + len ≤ 16777216)
IsSideOf media (Pic (Nest j) source) len = ⊥

abbrev pub IsNotDark : Side What → Side What → Type 0
IsNotDark Dark Dark = ⊥
IsNotDark Dark (Pic what source) = Unit {0}
IsNotDark (Pic what source) side = Unit {0}

-- a dissolve has frames, no more than its shot, which has two at least; and one of its sides is not dark
abbrev pub HasRoom : ℕ → Option (Side What) → ℕ → Side What → ℕ → Type 0
HasRoom media None n side len = n ≡ 0
HasRoom media (Some left) n side len = (0 < n) × (n ≤ len) × (1 < len) × IsSideOf media left len × IsNotDark left side

-- a shot that begins at a record frame or later
pub record IsShot (media at : ℕ) (s : Shot) : Type 0 where
  pub filled : 0 < s.len
  pub begins : at ≤ s.place
  pub ends : s.place + s.len < MAX_DAY_FRAMES
  pub side : IsSideOf media s.side s.len
  pub dissolve : HasRoom media s.from s.frames s.side s.len

abbrev pub IsSomeShot : Shot → Type 0
IsSomeShot s = (media : ℕ) × (at : ℕ) × IsShot media at s

-- shots that follow one another, from a record frame on
abbrev pub AreLaid : ℕ → ℕ → List Shot → Type 0
AreLaid media at [] = Unit {0}
AreLaid media at (s ∷ ss) = IsShot media at s × AreLaid media (s.place + s.len) ss

abbrev pub CanBeLaid : ℕ → List Shot → Type 0
CanBeLaid start shots = (media : ℕ) × AreLaid media start shots

-- a shot is on a channel at a record frame
abbrev pub is_there : Channel → ℕ → Shot → Bool
is_there c q s = is_on c s.channels && (nat_le s.place q && nat_lt q (s.place + s.len))

-- how many shots are
abbrev pub count_there : Channel → ℕ → List Shot → ℕ
count_there c q shots = sum_by (λ (s : Shot). if is_there c q s then 1 else 0) shots

-- shots that can be put in order on each channel: no two are at one record frame
pub record CanBeOrdered (start : ℕ) (shots : List Shot) : Type 0 where
  pub media : ℕ
  pub each : All (IsShot media start) shots
  pub apart : (c : Channel) (q : ℕ) → count_there c q shots ≤ 1
