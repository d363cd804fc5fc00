-- What a cut is at any point of a history: tracks that are good in a sound table. Items may be linked and have any
-- numbers. An opening that is sound is such a cut.
use Rattle.std.specs.Prelude.{ℕ, ◌<◌, ◌≤◌, List, length}
use Rattle.timecode12.specs.Labels.{day_of}
use Rattle.frame_meaning.specs.declared.cells.What.{What}
use Rattle.frame_meaning.specs.declared.cells.What.TheVariants.{Media as MediaOf, Nest as NestOf}
use Rattle.composables.specs.declared.media.Table.{Table}
use Rattle.composables.specs.declared.media.Media.{Media}
use Rattle.composables.specs.declared.media.Layer.{Layer}
use Rattle.composables.specs.declared.media.Nest.{Nest}
use Rattle.composables.specs.declared.media.Kind.{Kind}
use Rattle.composables.specs.declared.media.Kind.TheVariants.{Video, Audio}
use Rattle.composables.specs.Good.{IsGood}
use Rattle.composables.specs.Items.{items_of}
use Rattle.composables.specs.TrackState.{TrackState}
use Rattle.otio_json.specs.Soundness.{EachHas, IsDeep, IsLayerOf, IsNestOf, IsTableOf, AreTracksOf, IsSoundOpening}
use Rattle.otio_json.specs.declared.opening.Opening.{Opening}

-- what a layer shows: a track that is good in the table, with at most so many nests in one another
pub record IsCutTrack (table : Table) (levels : ℕ) (t : TrackState) : Type 0 where
  pub good : IsGood table t
  pub deep : EachHas (IsDeep table.nests levels) (items_of t.cells)

-- its reel is one of the table's, and its source frames are some of 0 to 16,777,215, or none
pub record IsCutMedia (table : Table) (m : Media) : Type 0 where
  pub reel : m.reel < length table.reels
  pub within : m.to ≤ 16777216

abbrev pub IsCutLayer : Table → ℕ → Layer → Type 0
IsCutLayer table levels = IsLayerOf (IsCutTrack table levels)

abbrev pub IsCutNest : Table → ℕ → Nest → Type 0
IsCutNest table levels = IsNestOf (IsCutTrack table levels)

-- at most 8 nests stand in one another, so at most 7 in what a layer shows
abbrev pub IsCutTable : Table → Type 0
IsCutTable table = IsTableOf (IsCutMedia table) (IsCutTrack table 7) table

-- a track of pictures may show nests, one of sound shows media alone
abbrev pub IsMedia : What → Type 0
IsMedia (MediaOf m) = Unit {0}
IsMedia (NestOf j) = ⊥

abbrev pub SuitsKind : Kind → TrackState → Type 0
SuitsKind Video t = Unit {0}
SuitsKind Audio t = EachHas IsMedia (items_of t.cells)

-- the tracks are good in the table, suit these kinds, and have these numbers on
abbrev pub AreGoodFrom : Table → ℕ → List Kind → List TrackState → Type 0
AreGoodFrom table = AreTracksOf (λ k t. IsGood table t × SuitsKind k t)

-- a table, tracks, a counting and a start that a cut can have; at most 32 tracks, as many as a room may have
pub record IsSoundCut (o : Opening) : Type 0 where
  pub table : IsCutTable o.table
  pub tracks : AreGoodFrom o.table 0 o.table.kinds o.tracks
  pub few : length o.tracks ≤ 32
  pub start : o.start < length (day_of o.counting)

-- what a document describes, and what a plain room begins with, is one
abbrev pub OpeningsAreSoundCuts : Type 0
OpeningsAreSoundCuts = (o : Opening) → IsSoundOpening o → IsSoundCut o
