-- What a question to a track is answered.
use Rattle.std.specs.Prelude.{ℕ, ◌-◌, ◌&&◌, List, Option, Some, None, Result, Ok, Err, length, take, drop, nat_lt, nat_le, slice_get, if◌then◌else◌}
use Rattle.frame_meaning.specs.Render.{render}
use Rattle.frame_meaning.specs.Runs.{runs}
use Rattle.frame_meaning.specs.Going.{same_what}
use Rattle.composables.specs.declared.media.Table.{Table}
use Rattle.composables.specs.Items.{items_of}
use Rattle.composables.specs.TrackState.{TrackState}
use Rattle.edit_calls.specs.declared.asks.Ask.{Ask}
use Rattle.edit_calls.specs.declared.asks.Ask.TheVariants as ask
use Rattle.edit_calls.specs.declared.asks.Seen.{Seen}
use Rattle.edit_calls.specs.declared.asks.Seen.TheVariants as seen
use Rattle.edit_calls.specs.declared.asks.AskRefusal.{AskRefusal}
use Rattle.edit_calls.specs.declared.asks.AskRefusal.TheVariants.{NoTrack, Range}
use Rattle.edit_apply.specs.Apply.{track_count}

abbrev pub track_asked : Ask → ℕ
track_asked (ask.View track a b) = track
track_asked (ask.Items track) = track

-- the track that a question is for, where it is in the room
abbrev pub ask_part_of : Table → Ask → Result ℕ AskRefusal
ask_part_of table q = if nat_lt (track_asked q) (track_count table) then Ok (track_asked q) else Err (NoTrack (track_asked q))

abbrev pub view_on : TrackState → ℕ → ℕ → Result Seen AskRefusal
view_on t a b =
    if nat_le a b && nat_le b (length t.cells)
    then Ok (seen.Runs (runs same_what (take (b - a) (drop a (render t.cells)))))
    else Err (Range (length t.cells))

abbrev pub items_on : TrackState → Result Seen AskRefusal
items_on t = Ok (seen.Items (items_of t.cells))

-- the frames shown in [a, b) as maximal runs, or the items and gaps
abbrev pub seen_on : TrackState → Ask → Result Seen AskRefusal
seen_on t (ask.View track a b) = view_on t a b
seen_on t (ask.Items track) = items_on t

abbrev pub seen_at : Option TrackState → Ask → Result Seen AskRefusal
seen_at None q = Err (NoTrack (track_asked q))
seen_at (Some t) q = seen_on t q

abbrev pub seen_if : Result ℕ AskRefusal → List TrackState → Ask → Result Seen AskRefusal
seen_if (Ok n) tracks q = seen_at (slice_get tracks n) q
seen_if (Err r) tracks q = Err r

-- of all tracks of a room
abbrev pub seen_in : Table → List TrackState → Ask → Result Seen AskRefusal
seen_in table tracks q = seen_if (ask_part_of table q) tracks q
