-- The tracks of a room, and those of them that a call has left anew.
use Rattle.std.specs.Prelude.{◌≡◌, ◌<◌, ◌≤◌, ◌+◌, ℕ, List, [], ◌∷◌, Some, Ok, Err, map, unwrap_or}
use Rattle.composables.specs.declared.media.Table.{Table}
use Rattle.composables.specs.Answers.{Applied}
use Rattle.composables.specs.Good.{IsGood}
use Rattle.composables.specs.OwnTracks.{track_numbered}
use Rattle.composables.specs.TrackState.{TrackState}
use Rattle.link_laws.specs.Together.{Together}
use Rattle.link_laws.specs.Weights.{most_added, weight}

-- each of these tracks is the one with its number among all
abbrev pub AreAmong : List TrackState → List TrackState → Type 0
AreAmong all [] = Unit {0}
AreAmong all (t ∷ ts) = (track_numbered t.number all ≡ Some t) × AreAmong all ts

-- their numbers rise, from this one on
abbrev pub Ascend : ℕ → List TrackState → Type 0
Ascend least [] = Unit {0}
Ascend least (t ∷ ts) = (least ≤ t.number) × Ascend (t.number + 1) ts

-- tracks of a room that a call names, in ascending order
pub record AreNamed (all named : List TrackState) : Type 0 where
  pub among : AreAmong all named
  pub ascend : Ascend 0 named

-- each is good in the table, and a set of tracks can name it
abbrev pub AreTracks : Table → List TrackState → Type 0
AreTracks table [] = Unit {0}
AreTracks table (t ∷ ts) = (t.number < 32) × IsGood table t × AreTracks table ts

-- each has a number that a set of tracks can have
abbrev pub AreLow : List TrackState → Type 0
AreLow [] = Unit {0}
AreLow (t ∷ ts) = (t.number < 32) × AreLow ts

-- tracks in ascending order, each with a number of its own
pub record IsNumbered (all : List TrackState) : Type 0 where
  pub apart : AreAmong all all
  pub ascend : Ascend 0 all
  pub low : AreLow all

-- the tracks of a room, in ascending order, each with a number of its own
pub record IsRoom (table : Table) (all : List TrackState) : Type 0 where
  pub apart : AreAmong all all
  pub ascend : Ascend 0 all
  pub tracks : AreTracks table all

-- the tracks, with each of these in place of the one with its number
abbrev pub as_left : List TrackState → TrackState → TrackState
as_left news t = unwrap_or (track_numbered t.number news) t

abbrev pub with_tracks : List TrackState → List TrackState → List TrackState
with_tracks all news = map (as_left news) all

-- all tracks are together after a call, and the weight of their links is little more than before
pub record StaysTogether (before after : List TrackState) : Type 0 where
  pub together : Together after
  pub little : weight after ≤ weight before + most_added

-- this is so of what a call that is done leaves on the tracks that it names; a refusal leaves them as they are
abbrev pub Leaves : (List TrackState → Type 0) → Applied → Type 0
Leaves P (Ok (news, done)) = P news
Leaves P (Err why) = Unit {0}

-- a call leaves all together
abbrev pub LeavesTogether : List TrackState → Applied → Type 0
LeavesTogether all meant = Leaves (λ news. StaysTogether all (with_tracks all news)) meant

-- what a call means for the tracks that it names keeps the tracks of a room together
abbrev pub KeepsTogether : Table → (List TrackState → Applied) → Type 0
KeepsTogether table meant = (all named : List TrackState) → IsRoom table all → AreNamed all named → Together all
    → LeavesTogether all (meant named)
