-- The items and gaps of a track that is a channel of an edit decision list.
use Rattle.std.specs.Prelude.{◌≡◌, ℕ, ◌+◌, ◌-◌, ◌≤◌, true, List, [], ◌∷◌, ◌++◌, Option, Some, None, nat_lt, if◌then◌else◌}
use Rattle.std.specs.List.{Contains}
use Rattle.frame_meaning.specs.declared.cells.What.{What}
use Rattle.frame_meaning.specs.declared.cells.Mark.{Mark}
use Rattle.frame_meaning.specs.declared.frames.Side.{Side}
use Rattle.frame_meaning.specs.declared.frames.Side.TheVariants.{Dark, Pic}
use Rattle.frame_meaning.specs.Cells.{later_side}
use Rattle.composables.specs.declared.items.ItemView.{ItemView}
use Rattle.composables.specs.Items.{cells_of}
use Rattle.composables.specs.TrackState.{TrackState, next_past_all}
use Rattle.composables.specs.Views.{gap_views}
use Rattle.edl_events.specs.declared.channel.Channel.{Channel}
use Rattle.edl_events.specs.declared.channel.Channel.TheVariants.{V, A, A2}
use Rattle.edl_events.specs.Channels.{is_on}
use Rattle.list_import.specs.declared.shots.Shot.{Shot}

-- ---- the items of one shot

abbrev pub item_of : ℕ → Side What → Option ℕ
item_of number Dark = None
item_of number (Pic what source) = Some number

-- the number of the next item
abbrev pub number_past : ℕ → Side What → ℕ
number_past number Dark = number
number_past number (Pic what source) = number + 1

-- an item with this number that shows a side, or, where that is dark, a gap
abbrev pub view_of : ℕ → Side What → ℕ → Option Mark → ItemView
view_of number side len mark = record { item = item_of number side; first = side; len = len; mark = mark; link = None }

-- The cut of the dissolve of n frames with which a shot of len frames begins, counted from its first frame: where the
-- dissolve ends, or a frame before where the shot ends with it.
abbrev pub cut_of : ℕ → ℕ → ℕ
cut_of n len = if nat_lt n len then n else n - 1

-- the mark at that cut has the dissolve's frames before it and behind it: (n, 0), or (n - 1, 1)
abbrev pub mark_of : ℕ → ℕ → Mark
mark_of n cut = record { a = cut; b = n - cut }

-- the outgoing side up to the cut, and from there the incoming one going on
abbrev pub dissolve_views : ℕ → Side What → ℕ → Side What → ℕ → ℕ → List ItemView
dissolve_views number left n side len cut =
    view_of number left cut None ∷ view_of (number_past number left) (later_side side cut) (len - cut) (Some (mark_of n cut)) ∷ []

abbrev pub views_by : ℕ → Option (Side What) → ℕ → Side What → ℕ → List ItemView
views_by number None n side len = view_of number side len None ∷ []
views_by number (Some left) n side len = dissolve_views number left n side len (cut_of n len)

abbrev pub shot_views : ℕ → Shot → List ItemView
shot_views number s = views_by number s.from s.frames s.side s.len

abbrev pub number_by : ℕ → Option (Side What) → Side What → ℕ
number_by number None side = number_past number side
number_by number (Some left) side = number_past (number_past number left) side

abbrev pub number_behind : ℕ → Shot → ℕ
number_behind number s = number_by number s.from s.side

-- ---- the track

-- shots one after another, from a record frame on, and dark between them
abbrev pub track_views : ℕ → ℕ → List Shot → List ItemView
track_views at number [] = []
track_views at number (s ∷ ss) =
    gap_views (s.place - at) ++ (shot_views number s ++ track_views (s.place + s.len) (number_behind number s) ss)

-- the track that they make; what is dark and meets is one gap
abbrev pub track_with : ℕ → List ItemView → TrackState
track_with number views = record { number = number; cells = cells_of views; next_item = next_past_all 0 views; next_link = 0 }

-- each begins where the one before it ends, or later
abbrev pub Follow : ℕ → List Shot → Type 0
Follow at [] = Unit {0}
Follow at (s ∷ ss) = (at ≤ s.place) × Follow (s.place + s.len) ss

-- the second are those of the first that are on a channel, in order
pub record AreShotsOn (c : Channel) (shots ss : List Shot) : Type 0 where
  pub order : Follow 0 ss
  pub own : (s : Shot) → Contains ss s → Contains shots s × (is_on c s.channels ≡ true)
  pub all : (s : Shot) → Contains shots s → is_on c s.channels ≡ true → Contains ss s

-- the track with this number has the shots of a channel, and begins at a record frame
abbrev pub IsTrackOn : Channel → ℕ → ℕ → List Shot → TrackState → Type 0
IsTrackOn c number start shots t =
    (ss : List Shot) × AreShotsOn c shots ss × (t ≡ track_with number (track_views start 0 ss))

-- the tracks of the three channels
abbrev pub AreTracksOf : ℕ → List Shot → List TrackState → Type 0
AreTracksOf start shots (v ∷ a ∷ a2 ∷ []) =
    IsTrackOn V 0 start shots v × IsTrackOn A 1 start shots a × IsTrackOn A2 2 start shots a2
AreTracksOf start shots tracks = ⊥
