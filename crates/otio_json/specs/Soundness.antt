-- What a document that was read is, and what a plain room begins with: a table and tracks that a cut can be made of.
use Rattle.std.specs.Prelude.{◌≡◌, ℕ, zero, suc, ◌+◌, ◌<◌, ◌≤◌, List, [], ◌∷◌, length, slice_get, Some}
use Rattle.std.specs.List.{All}
use Rattle.timecode12.specs.Labels.{day_of}
use Rattle.frame_meaning.specs.declared.cells.What.{What}
use Rattle.frame_meaning.specs.declared.cells.What.TheVariants.{Media as MediaOf, Nest as NestOf}
use Rattle.frame_meaning.specs.declared.frames.Side.{Side}
use Rattle.frame_meaning.specs.declared.frames.Side.TheVariants.{Dark, Pic}
use Rattle.composables.specs.declared.TheConstants.{MAX_ITEMS}
use Rattle.composables.specs.declared.items.ItemView.{ItemView}
use Rattle.composables.specs.declared.media.Table.{Table}
use Rattle.composables.specs.declared.media.Media.{Media}
use Rattle.composables.specs.declared.media.Layer.{Layer}
use Rattle.composables.specs.declared.media.Nest.{Nest}
use Rattle.composables.specs.declared.media.Kind.{Kind}
use Rattle.composables.specs.declared.media.Kind.TheVariants.{Video, Audio}
use Rattle.composables.specs.Good.{IsGood, AllUnlinked}
use Rattle.composables.specs.Items.{items_of}
use Rattle.composables.specs.TrackState.{TrackState}
use Rattle.otio_json.specs.declared.timeline.TheConstants.{MAX_NESTS, MAX_TRACKS}
use Rattle.otio_json.specs.Nests.{longest}
use Rattle.otio_json.specs.declared.opening.Opening.{Opening}

-- ---- how many nests stand in one another

abbrev pub SideHas : (What → Type 0) → Side What → Type 0
SideHas P Dark = Unit {0}
SideHas P (Pic what source) = P what

abbrev pub EachHas : (What → Type 0) → List ItemView → Type 0
EachHas P [] = Unit {0}
EachHas P (v ∷ vs) = SideHas P v.first × EachHas P vs

-- Of these nests, at most so many stand in one another, counted from the thing shown: none of media, and of a nest one
-- more than in what its layers show.
abbrev pub IsDeep : List Nest → ℕ → What → Type 0
IsDeep nests n (MediaOf m) = Unit {0}
IsDeep nests zero (NestOf j) = ⊥
IsDeep nests (suc n) (NestOf j) = (nest : Nest) × (slice_get nests j ≡ Some nest) × All (λ (l : Layer). EachHas (IsDeep nests n) (items_of l.track.cells)) nest.layers

-- ---- the parts, whatever is asked of a media entry, and of a track by its kind or in a layer

-- its range lies in its track
pub record IsLayerOf (P : TrackState → Type 0) (l : Layer) : Type 0 where
  pub track : P l.track
  pub ordered : l.from ≤ l.to
  pub within : l.to ≤ length l.track.cells

-- it is as long as its longest layer
pub record IsNestOf (P : TrackState → Type 0) (nest : Nest) : Type 0 where
  pub layers : All (IsLayerOf P) nest.layers
  pub as_long : nest.length ≡ longest nest.layers

pub record IsTableOf (M : Media → Type 0) (P : TrackState → Type 0) (table : Table) : Type 0 where
  pub media : All M table.media
  pub nests : All (IsNestOf P) table.nests

-- the tracks have these kinds, and these numbers on
abbrev pub AreTracksOf : (Kind → TrackState → Type 0) → ℕ → List Kind → List TrackState → Type 0
AreTracksOf P n [] [] = Unit {0}
AreTracksOf P n [] (t ∷ ts) = ⊥
AreTracksOf P n (k ∷ ks) [] = ⊥
AreTracksOf P n (k ∷ ks) (t ∷ ts) = (t.number ≡ n) × P k t × AreTracksOf P (n + 1) ks ts

-- ---- the parts of a document that was read

-- good in the table, without links, and with so many nests in one another at most
pub record IsReadTrack (table : Table) (levels : ℕ) (t : TrackState) : Type 0 where
  pub good : IsGood table t
  pub unlinked : AllUnlinked (items_of t.cells)
  pub deep : EachHas (IsDeep table.nests levels) (items_of t.cells)
  pub next_item : t.next_item ≤ MAX_ITEMS
  pub next_link : t.next_link ≡ 0

-- its reel is one of the table's, and its source frames are some of 0 to 16,777,215
pub record IsSoundMedia (table : Table) (m : Media) : Type 0 where
  pub reel : m.reel < length table.reels
  pub filled : m.from < m.to
  pub within : m.to ≤ 16777216

abbrev pub IsSoundLayer : Table → ℕ → Layer → Type 0
IsSoundLayer table levels = IsLayerOf (IsReadTrack table levels)

abbrev pub IsSoundNest : Table → ℕ → Nest → Type 0
IsSoundNest table levels = IsNestOf (IsReadTrack table levels)

-- at most 8 nests stand in one another, so at most 7 in what a layer shows
abbrev pub IsSoundTable : Table → Type 0
IsSoundTable table = IsTableOf (IsSoundMedia table) (IsReadTrack table 7) table

-- ---- the whole

-- how many nests may stand in one another in a track of this kind
abbrev pub levels_of_kind : Kind → ℕ
levels_of_kind Video = MAX_NESTS
levels_of_kind Audio = 0

abbrev pub AreTracksFrom : Table → ℕ → List Kind → List TrackState → Type 0
AreTracksFrom table = AreTracksOf (λ k t. IsReadTrack table (levels_of_kind k) t)

-- The table is sound, track t has number t and is as its kind t says, there are at most as many as a room may have,
-- and the start is a frame of the day.
pub record IsSoundOpening (o : Opening) : Type 0 where
  pub table : IsSoundTable o.table
  pub tracks : AreTracksFrom o.table 0 o.table.kinds o.tracks
  pub few : length o.tracks ≤ MAX_TRACKS
  pub start : o.start < length (day_of o.counting)
