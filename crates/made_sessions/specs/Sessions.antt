-- What is put of a generated session: how many entries its journal has, and of each track how long it is and how many
-- items and gaps it has.
use Rattle.std.specs.Prelude.{◌≡◌, ℕ, ◌+◌, ◌*◌, ◌⊎◌, List, [], ◌∷◌, ◌++◌, Some, length, codes, decimal}
use Rattle.std.specs.List.{flat_map}
use Rattle.composables.specs.Items.{items_of}
use Rattle.composables.specs.TrackState.{TrackState}
use Rattle.command_files.specs.Ports.{Change, OutputTold}
use Rattle.command_files.specs.Texts.{PutsWith}
use Rattle.command_files.specs.declared.status.Status.{Status}
use Rattle.command_files.specs.declared.status.Status.TheVariants.{Done, OutOfMemory}
use Rattle.edit_apply.specs.Apply.{editing}
use Rattle.edit_calls.specs.declared.asks.Call.{Call}
use Rattle.otio_json.specs.Openings.{plain_opening}
use Rattle.otio_json.specs.declared.opening.Opening.{Opening}
use Rattle.room_core.specs.History.{replay}
use Rattle.room_core.specs.Whole.{whole}
use Rattle.room_core.specs.declared.entry.Entry.{Entry}
use Rattle.made_sessions.specs.Scripts.{scripts}

-- a plain room with four tracks and one reel, in which four stations are served
abbrev pub made_stations : ℕ
made_stations = 4

abbrev pub made_opening : Opening
made_opening = plain_opening made_stations 1

-- the entries of one station that does these calls one after another, from a number on
abbrev pub done_by_one : ℕ → List Call → List (Entry Call)
done_by_one number [] = []
done_by_one number (call ∷ calls) = record { station = 0; number = number; call = call } ∷ done_by_one (number + 1) calls

-- what one station comes to which does the four scripts one after another
abbrev pub IsCome : Opening → ℕ → ℕ → List TrackState → Type 0
IsCome o number count tracks = replay (whole (editing o.table)) o.tracks (done_by_one 1 (scripts number count made_stations)) ≡ Some tracks

abbrev pub track_line : TrackState → List ℕ
track_line t =
    codes "track " ++ decimal t.number ++ codes " " ++ decimal (length t.cells) ++ codes " " ++ decimal (length (items_of t.cells)) ++ codes "\n"

abbrev pub summary_of : ℕ → List TrackState → List ℕ
summary_of entries tracks = (codes "entries " ++ decimal entries ++ codes "\n") ++ flat_map track_line tracks

-- the summary of the session of a number, in which each of the four stations sends so many lines
pub record IsSummary (number count : ℕ) (text : List ℕ) : Type 0 where
  pub tracks : List TrackState
  pub come : IsCome made_opening number count tracks
  pub text_is : text ≡ summary_of (made_stations * count) tracks

-- The command ends by putting the summary. Else there was no memory, as where a line was answered so, and nothing is put.
abbrev pub MakeEnds : ℕ → ℕ → Change OutputTold → Status → Type 0
MakeEnds number count output status =
    ((text : List ℕ) × IsSummary number count text × PutsWith Done text output.before output.after status)
    ⊎ ((status ≡ OutOfMemory) × output.Untouched)
