-- What a table's nests show, and what a track shows once its media are replaced by their reels and its nests by what
-- they show. A nest is resolved after those with lower numbers, which are all that may stand in it.
use Rattle.std.specs.Prelude.{ℕ, List, [], ◌∷◌, ◌++◌, Option, Some, None, map, slice_get, slice_index_or}
use Rattle.frame_meaning.specs.declared.cells.What.{What}
use Rattle.frame_meaning.specs.declared.cells.What.TheVariants.{Media as MediaOf, Nest as NestOf}
use Rattle.frame_meaning.specs.declared.frames.Side.{Side}
use Rattle.frame_meaning.specs.declared.frames.Side.TheVariants as side
use Rattle.frame_meaning.specs.declared.frames.Frame.{Frame}
use Rattle.frame_meaning.specs.declared.frames.Frame.TheVariants as frame
use Rattle.frame_meaning.specs.Render.{frame_of, render}
use Rattle.composables.specs.declared.media.Table.{Table}
use Rattle.composables.specs.declared.media.Media.{Media}
use Rattle.composables.specs.declared.media.Layer.{Layer}
use Rattle.composables.specs.declared.media.Nest.{Nest}
use Rattle.composables.specs.TrackState.{TrackState}
use Rattle.dissolves.specs.Pieces.{cut}
use Rattle.flatten.specs.Stacks.{frame_at, stacked}

-- a source frame of the reel that a media entry is of, if there is one
abbrev pub reel_of : Option Media → ℕ → Side ℕ
reel_of None source = side.Dark
reel_of (Some entry) source = side.Pic entry.reel source

-- a side with its media replaced by their reels. No side of a mix is a nest.
abbrev pub reel_side : List Media → Side What → Side ℕ
reel_side media side.Dark = side.Dark
reel_side media (side.Pic (MediaOf m) source) = reel_of (slice_get media m) source
reel_side media (side.Pic (NestOf j) source) = side.Dark

-- a frame that is of no nest, with its media replaced by their reels
abbrev pub reel_frame : List Media → Frame What → Frame ℕ
reel_frame media frame.Dark = frame.Dark
reel_frame media (frame.Pic what source) = frame_of (reel_side media (side.Pic what source))
reel_frame media (frame.Mix left right num den) = frame.Mix (reel_side media left) (reel_side media right) num den

-- the nest that a frame is of, and its frame there
abbrev pub nest_in : Frame What → Option (ℕ × ℕ)
nest_in frame.Dark = None
nest_in (frame.Pic (MediaOf m) source) = None
nest_in (frame.Pic (NestOf j) source) = Some (j, source)
nest_in (frame.Mix left right num den) = None

-- a frame with its media replaced by their reels, and a nest by its frame there, where the frames of nests are these
abbrev pub resolved : List Media → List (List (Frame ℕ)) → Frame What → Frame ℕ
resolved media nests frame.Dark = frame.Dark
resolved media nests (frame.Pic (MediaOf m) source) = reel_frame media (frame.Pic (MediaOf m) source)
resolved media nests (frame.Pic (NestOf j) source) = frame_at (slice_index_or nests j []) source
resolved media nests (frame.Mix left right num den) = reel_frame media (frame.Mix left right num den)

-- the frames of a track, resolved
abbrev pub track_frames : List Media → List (List (Frame ℕ)) → TrackState → List (Frame ℕ)
track_frames media nests t = map (resolved media nests) (render t.cells)

-- the frames of a layer, which is dark behind them
abbrev pub layer_frames : List Media → List (List (Frame ℕ)) → Layer → List (Frame ℕ)
layer_frames media nests l = map (resolved media nests) (cut l.from l.to (render l.track.cells))

-- the frames of a nest: as many as it is long, of its layers stacked
abbrev pub nest_frames : List Media → List (List (Frame ℕ)) → Nest → List (Frame ℕ)
nest_frames media nests n = stacked n.length (map (layer_frames media nests) n.layers)

-- the frames of these nests behind those with lower numbers
abbrev pub nests_behind : List Media → List (List (Frame ℕ)) → List Nest → List (List (Frame ℕ))
nests_behind media lower [] = lower
nests_behind media lower (n ∷ ns) = nests_behind media (lower ++ nest_frames media lower n ∷ []) ns

-- the frames of each nest of a table
abbrev pub frames_of_nests : Table → List (List (Frame ℕ))
frames_of_nests table = nests_behind table.media [] table.nests
