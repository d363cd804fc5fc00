-- What a cut shows: the channel of its video tracks, stacked, and a channel for each audio track.
use Rattle.std.specs.Prelude.{ℕ, ◌<◌, ◌≤◌, Bool, true, false, List, [], ◌∷◌, Option, Some, None, map, length, nat_eq, if◌then◌else◌}
use Rattle.frame_meaning.specs.declared.frames.Frame.{Frame}
use Rattle.frame_meaning.specs.declared.frames.Run.{Run}
use Rattle.frame_meaning.specs.Runs.{runs}
use Rattle.composables.specs.declared.media.Kind.{Kind}
use Rattle.composables.specs.declared.media.Kind.TheVariants.{Video, Audio}
use Rattle.composables.specs.declared.media.Layer.{Layer}
use Rattle.composables.specs.declared.media.Nest.{Nest}
use Rattle.composables.specs.declared.media.Table.{Table}
use Rattle.composables.specs.TrackState.{TrackState}
use Rattle.flatten.specs.Stacks.{longest, stacked}
use Rattle.flatten.specs.Nests.{frames_of_nests, track_frames}

abbrev pub same_kind : Kind → Kind → Bool
same_kind Video Video = true
same_kind Video Audio = false
same_kind Audio Video = false
same_kind Audio Audio = true

-- whether there is a track of this kind, where this is its kind
abbrev pub is_of_kind : Kind → Option Kind → Bool
is_of_kind kind None = false
is_of_kind kind (Some k) = same_kind k kind

-- the tracks of a kind, where these are the kinds of the tracks in order
abbrev pub of_kind : Kind → List Kind → List TrackState → List TrackState
of_kind kind [] tracks = []
of_kind kind (k ∷ ks) [] = []
of_kind kind (k ∷ ks) (t ∷ ts) = if same_kind k kind then t ∷ of_kind kind ks ts else of_kind kind ks ts

-- what each track of a kind shows by itself
abbrev pub channels : Kind → Table → List TrackState → List (List (Frame ℕ))
channels kind table tracks = map (track_frames table.media (frames_of_nests table)) (of_kind kind table.kinds tracks)

-- the video tracks, stacked, the last on top
abbrev pub video_frames : Table → List TrackState → List (Frame ℕ)
video_frames table tracks = stacked (longest (channels Video table tracks)) (channels Video table tracks)

-- the audio tracks, each by itself
abbrev pub audio_frames : Table → List TrackState → List (List (Frame ℕ))
audio_frames table tracks = channels Audio table tracks

-- the maximal runs of a channel, where two frames of one reel go on
abbrev pub maximal_runs : List (Frame ℕ) → List (Run ℕ)
maximal_runs frames = runs nat_eq frames

-- a track whose runs have numbers that the program keeps
abbrev pub IsShort : TrackState → Type 0
IsShort t = length t.cells < 4294967295

abbrev pub EachIsShort : List TrackState → Type 0
EachIsShort [] = Unit {0}
EachIsShort (t ∷ ts) = IsShort t × EachIsShort ts

-- a layer lies in its track
pub record LiesInTrack (l : Layer) : Type 0 where
  pub order : l.from ≤ l.to
  pub within : l.to ≤ length l.track.cells
  pub short : IsShort l.track

abbrev pub EachLiesInTrack : List Layer → Type 0
EachLiesInTrack [] = Unit {0}
EachLiesInTrack (l ∷ ls) = LiesInTrack l × EachLiesInTrack ls

-- each layer of each nest does
abbrev pub AreSound : List Nest → Type 0
AreSound [] = Unit {0}
AreSound (n ∷ ns) = EachLiesInTrack n.layers × AreSound ns
