-- What the items and gaps that are read keep, so that they are those of a track.
use Rattle.std.specs.Prelude.{◌≡◌, ℕ, ◌+◌, ◌<◌, ◌≤◌, ◌^◌, false, ◌&&◌, List, [], ◌∷◌, Option, None}
use Rattle.frame_meaning.specs.declared.cells.Mark.{Mark}
use Rattle.frame_meaning.specs.declared.cells.What.{What}
use Rattle.frame_meaning.specs.declared.frames.Side.{Side}
use Rattle.frame_meaning.specs.declared.frames.Side.TheVariants.{Dark, Pic}
use Rattle.composables.specs.TrackFacts.{left_reach, right_reach, IsFilled, IsNoNest}
use Rattle.otio_tracks.specs.declared.parts.Part.{Part}
use Rattle.otio_tracks.specs.Parts.{is_gap}

-- what is shown lies in its range, with so many source frames before it and after it
abbrev pub SideLies : Side What → ℕ → ℕ → ℕ → ℕ → ℕ → Type 0
SideLies Dark len from to before after = Unit {0}
SideLies (Pic what source) len from to before after = (from + before ≤ source) × (source + len + after ≤ to) × (to ≤ 2 ^ 32)

-- an item or gap as it was read, before any dissolve
abbrev pub IsItemPart : Part → Type 0
IsItemPart p = 0 < p.len → SideLies p.first p.len p.from p.to 0 0

-- an item or gap between the dissolve before it and the one behind it, if there are any
pub record IsSoundPart (p : Part) (tail : Option Mark) : Type 0 where
  pub filled : 0 < p.len
  pub mark_filled : IsFilled p.mark
  pub room : right_reach p.mark + left_reach tail ≤ p.len
  pub lies : SideLies p.first p.len p.from p.to (left_reach p.mark) (right_reach tail)
  pub head_no_nest : IsNoNest p.first p.mark
  pub tail_no_nest : IsNoNest p.first tail

abbrev pub first_mark : List Part → Option Mark
first_mark [] = None
first_mark (p ∷ ps) = p.mark

-- no gap follows a gap
abbrev pub IsNoGapBehind : Part → List Part → Type 0
IsNoGapBehind p [] = Unit {0}
IsNoGapBehind p (q ∷ qs) = is_gap p && is_gap q ≡ false

abbrev pub EachIsSound : List Part → Type 0
EachIsSound [] = Unit {0}
EachIsSound (p ∷ ps) = IsSoundPart p (first_mark ps) × IsNoGapBehind p ps × EachIsSound ps

pub record AreSoundParts (parts : List Part) : Type 0 where
  pub not_before : first_mark parts ≡ None
  pub each : EachIsSound parts
