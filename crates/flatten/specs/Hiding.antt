-- Fades that hide a picture. A fade is a mix with black. Here, and in a list, it hides for its frames what is below it; an
-- editing system mixes what fades with what is below. This project's own.
use Rattle.std.specs.Prelude.{◌≡◌, ℕ, Bool, true, false, ◌&&◌, ◌||◌, List, [], ◌∷◌, ◌++◌, map, nat_le, nat_lt, slice_index_or}
use Rattle.std.specs.List.{range_with_len}
use Rattle.frame_meaning.specs.declared.cells.What.{What}
use Rattle.frame_meaning.specs.declared.cells.What.TheVariants.{Media as MediaOf, Nest as NestOf}
use Rattle.frame_meaning.specs.declared.frames.Side.{Side}
use Rattle.frame_meaning.specs.declared.frames.Side.TheVariants as side
use Rattle.frame_meaning.specs.declared.frames.Frame.{Frame}
use Rattle.frame_meaning.specs.declared.frames.Frame.TheVariants as frame
use Rattle.frame_meaning.specs.Render.{render}
use Rattle.composables.specs.declared.media.Kind.TheVariants.{Video}
use Rattle.composables.specs.declared.media.Layer.{Layer}
use Rattle.composables.specs.declared.media.Media.{Media}
use Rattle.composables.specs.declared.media.Nest.{Nest}
use Rattle.composables.specs.declared.media.Table.{Table}
use Rattle.composables.specs.TrackState.{TrackState}
use Rattle.dissolves.specs.Pieces.{cut}
use Rattle.flatten.specs.declared.hiding.HidingFade.{HidingFade}
use Rattle.flatten.specs.Channels.{of_kind}
use Rattle.flatten.specs.Nests.{frames_of_nests, resolved}
use Rattle.flatten.specs.Stacks.{frame_at, over}

-- whether a side of a mix is black
abbrev pub is_black : Side ℕ → Bool
is_black side.Dark = true
is_black (side.Pic reel source) = false

-- whether something is seen of a frame
abbrev pub is_lit : Frame ℕ → Bool
is_lit frame.Dark = false
is_lit (frame.Pic reel source) = true
is_lit (frame.Mix left right num den) = true

-- what is seen at a place, and whether a fade hides a picture there
pub record Sight : Type 0 where
  pub frame : Frame ℕ
  pub hides : Bool

abbrev pub nothing : Sight
nothing = record { frame = frame.Dark; hides = false }

-- Whether a fade hides a picture where this frame lies over what is seen below it: the frame itself is a fade, and something
-- is below it; or it is dark, and a fade below it hides something. A picture, or a mix of two, hides what is below it in
-- every system.
abbrev pub hides_below : Frame ℕ → Sight → Bool
hides_below frame.Dark below = below.hides
hides_below (frame.Pic reel source) below = false
hides_below (frame.Mix left right num den) below = (is_black left || is_black right) && is_lit below.frame

-- a layer over what is seen below it
abbrev pub sight_over : Sight → Sight → Sight
sight_over layer below = record { frame = over layer.frame below.frame; hides = layer.hides || hides_below layer.frame below }

-- a layer, frame by frame: what it shows, and whether a fade within its nests hides a picture
pub record Seen : Type 0 where
  pub frames : List (Frame ℕ)
  pub hides : List Bool

-- at a place of a layer, which is dark past its end
abbrev pub sight_at : Seen → ℕ → Sight
sight_at layer q = record { frame = frame_at layer.frames q; hides = slice_index_or layer.hides q false }

-- at a place of these layers, each over those before it and over what is seen below all
abbrev pub seen_on : Sight → List Seen → ℕ → Sight
seen_on below [] q = below
seen_on below (layer ∷ above) q = seen_on (sight_over (sight_at layer q) below) above q

-- whether a fade within the nest that a frame is of hides a picture there, where this says so of each nest
abbrev pub hides_within : List (List Bool) → Frame What → Bool
hides_within nests frame.Dark = false
hides_within nests (frame.Pic (MediaOf m) source) = false
hides_within nests (frame.Pic (NestOf j) source) = slice_index_or (slice_index_or nests j []) source false
hides_within nests (frame.Mix left right num den) = false

-- a layer of these frames, where the nests show these, and fades within them hide pictures there
abbrev pub layer_of : List Media → List (List (Frame ℕ)) → List (List Bool) → List (Frame What) → Seen
layer_of media shown hides frames = record { frames = map (resolved media shown) frames; hides = map (hides_within hides) frames }

-- a layer of a nest
abbrev pub nest_layer : List Media → List (List (Frame ℕ)) → List (List Bool) → Layer → Seen
nest_layer media shown hides l = layer_of media shown hides (cut l.from l.to (render l.track.cells))

-- for each frame of a nest, whether a fade in it hides a picture
abbrev pub nest_hides : List Media → List (List (Frame ℕ)) → List (List Bool) → Nest → List Bool
nest_hides media shown hides n = map (λ q. (seen_on nothing (map (nest_layer media shown hides) n.layers) q).hides) (range_with_len 0 n.length)

-- the same of these nests behind those with lower numbers, which are all that may stand in one
abbrev pub hides_behind : List Media → List (List (Frame ℕ)) → List (List Bool) → List Nest → List (List Bool)
hides_behind media shown lower [] = lower
hides_behind media shown lower (n ∷ ns) = hides_behind media shown (lower ++ nest_hides media shown lower n ∷ []) ns

-- of each nest of a table
abbrev pub hides_of_nests : Table → List (List Bool)
hides_of_nests table = hides_behind table.media (frames_of_nests table) [] table.nests

-- a track of the record as a layer
abbrev pub track_layer : Table → TrackState → Seen
track_layer table t = layer_of table.media (frames_of_nests table) (hides_of_nests table) (render t.cells)

-- whether a fade hides a picture at a place of the record: one on a track over what is below it, or one on a layer of a
-- nest that is seen there, over what is below it in the nest
abbrev pub hides_at : Table → List TrackState → ℕ → Bool
hides_at table tracks q = (seen_on nothing (map (track_layer table) (of_kind Video table.kinds tracks)) q).hides

-- whether a place lies in one of these
abbrev pub lies_in : List HidingFade → ℕ → Bool
lies_in [] q = false
lies_in (f ∷ fs) q = (nat_le f.from q && nat_lt q f.to) || lies_in fs q

-- these are the places of the record at which a fade hides a picture
abbrev pub AreHiding : List HidingFade → Table → List TrackState → Type 0
AreHiding fades table tracks = (q : ℕ) → lies_in fades q ≡ hides_at table tracks q
