-- The text of a tape, this project's own: for the channels V, A and A2 in order, each maximal run of the frames that the
-- channel shows from the first record frame of a day to the last. A run that is not dark has a line, which tells the
-- channel, the record frame at which the run begins, its length, and its first frame.
use Rattle.std.specs.Prelude.{ℕ, ◌+◌, ◌-◌, List, [], ◌∷◌, ◌++◌, map, bytes_eq, codes, decimal}
use Rattle.std.specs.List.{range_with_len}
use Rattle.timecode12.specs.declared.counting.TheConstants.{MAX_DAY_FRAMES}
use Rattle.frame_meaning.specs.declared.frames.Side.{Side}
use Rattle.frame_meaning.specs.declared.frames.Side.TheVariants as side
use Rattle.frame_meaning.specs.declared.frames.Frame.{Frame}
use Rattle.frame_meaning.specs.declared.frames.Frame.TheVariants as frame
use Rattle.frame_meaning.specs.declared.frames.Run.{Run}
use Rattle.frame_meaning.specs.Runs.{runs}
use Rattle.edl_events.specs.declared.channel.Channel.{Channel}
use Rattle.edl_events.specs.declared.channel.Channel.TheVariants.{V, A, A2}
use Rattle.edl_events.specs.declared.event.Event.{Event}
use Rattle.edl_events.specs.Tape.{tape_at}

abbrev pub channel_name : Channel → List ℕ
channel_name V = codes "V"
channel_name A = codes "A"
channel_name A2 = codes "A2"

-- a number behind a space
abbrev pub number_text : ℕ → List ℕ
number_text n = codes " " ++ decimal n

-- REEL SOURCE
abbrev pub picture_text : List ℕ → ℕ → List ℕ
picture_text reel source = codes " " ++ reel ++ number_text source

-- REEL SOURCE, or BL where a side is dark
abbrev pub side_text : Side (List ℕ) → List ℕ
side_text side.Dark = codes " BL"
side_text (side.Pic reel source) = picture_text reel source

-- CHANNEL RECORD LEN
abbrev pub place_text : Channel → ℕ → ℕ → List ℕ
place_text c at len = channel_name c ++ number_text at ++ number_text len

-- the line of a run: CHANNEL RECORD LEN REEL SOURCE, or CHANNEL RECORD LEN mix SIDE SIDE NUM DEN
abbrev pub run_text : Channel → ℕ → ℕ → Frame (List ℕ) → List ℕ
run_text c at len frame.Dark = []
run_text c at len (frame.Pic reel source) = place_text c at len ++ picture_text reel source ++ codes "\n"
run_text c at len (frame.Mix left right num den) =
    place_text c at len ++ codes " mix" ++ side_text left ++ side_text right ++ number_text num ++ number_text den
    ++ codes "\n"

-- the lines of runs, one after another, of which the first begins at a record frame
abbrev pub runs_text : Channel → ℕ → List (Run (List ℕ)) → List ℕ
runs_text c at [] = []
runs_text c at (r ∷ rs) = run_text c at r.len r.frame ++ runs_text c (at + r.len) rs

-- the lines of the maximal runs of frames
abbrev pub frames_text : Channel → ℕ → List (Frame (List ℕ)) → List ℕ
frames_text c at frames = runs_text c at (runs bytes_eq frames)

-- what a channel shows from a record frame to the end of a day: every event ends before that
unfoldable pub frames_on : List Event → Channel → ℕ → List (Frame (List ℕ))
frames_on events c at = map (tape_at events c) (range_with_len at (MAX_DAY_FRAMES - at))

abbrev pub channel_text : List Event → Channel → List ℕ
channel_text events c = frames_text c 0 (frames_on events c 0)

abbrev pub tape_text : List Event → List ℕ
tape_text events = channel_text events V ++ channel_text events A ++ channel_text events A2
