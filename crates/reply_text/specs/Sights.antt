-- The reply to a question to a track: the runs of the frames shown, or the items and gaps, in order.
use Rattle.std.specs.Prelude.{ℕ, List, [], ◌++◌, Option, Some, None, codes, decimal}
use Rattle.std.specs.List.{flat_map}
use Rattle.frame_meaning.specs.declared.cells.What.{What}
use Rattle.frame_meaning.specs.declared.cells.Mark.{Mark}
use Rattle.frame_meaning.specs.declared.cells.Link.{Link}
use Rattle.frame_meaning.specs.declared.frames.Side.{Side}
use Rattle.frame_meaning.specs.declared.frames.Side.TheVariants as side
use Rattle.frame_meaning.specs.declared.frames.Frame.{Frame}
use Rattle.frame_meaning.specs.declared.frames.Frame.TheVariants as frame
use Rattle.frame_meaning.specs.declared.frames.Run.{Run}
use Rattle.composables.specs.declared.items.ItemView.{ItemView}
use Rattle.edit_calls.specs.declared.asks.Seen.{Seen}
use Rattle.edit_calls.specs.declared.asks.Seen.TheVariants.{Runs, Items}
use Rattle.edit_calls.specs.declared.asks.AskRefusal.{AskRefusal}
use Rattle.edit_calls.specs.declared.asks.AskRefusal.TheVariants.{NoTrack, Range}
use Rattle.edit_calls.specs.declared.asks.Ask.{Ask}
use Rattle.cut_steps.specs.CutSteps.{CutObject, CutStep, KeptTrack, StepDone, StepRefusal}
use Rattle.cut_room.specs.declared.answers.Sight.{Sight}
use Rattle.cut_room.specs.declared.answers.Sight.TheVariants as sight
use Rattle.protocol_parts.specs.Things.{what_text}
use Rattle.reply_text.specs.Replies.{link_text}

-- a thing, and a source frame of it
abbrev pub picture_text : What → ℕ → List ℕ
picture_text what source = codes " " ++ what_text what ++ codes " " ++ decimal source

-- a side: nothing, or a thing and the source frame
abbrev pub side_text : Side What → List ℕ
side_text side.Dark = codes " dark"
side_text (side.Pic what source) = picture_text what source

-- what a run's first frame shows
abbrev pub frame_text : Frame What → List ℕ
frame_text frame.Dark = codes " dark"
frame_text (frame.Pic what source) = picture_text what source
frame_text (frame.Mix left right num den) =
    codes " mix" ++ side_text left ++ side_text right
    ++ codes " " ++ decimal num ++ codes " " ++ decimal den

abbrev pub run_text : Run What → List ℕ
run_text run = frame_text run.frame ++ codes " " ++ decimal run.len

-- the dissolve at the cut before an item or gap, where there is one
abbrev pub mark_text : Option Mark → List ℕ
mark_text None = []
mark_text (Some mark) = codes " mark " ++ decimal mark.a ++ codes " " ++ decimal mark.b

-- the number of an item; a gap has none
abbrev pub number_text : Option ℕ → List ℕ
number_text None = []
number_text (Some item) = codes " " ++ decimal item

abbrev pub item_link_text : Option Link → List ℕ
item_link_text None = []
item_link_text (Some link) = codes " link " ++ link_text link.home link.number

-- the mark before it, its number, what it shows from which source frame on, its length, its link
abbrev pub item_text : ItemView → List ℕ
item_text view =
    mark_text view.mark ++ number_text view.item ++ side_text view.first
    ++ codes " " ++ decimal view.len ++ item_link_text view.link

-- items and gaps, each after a space
abbrev pub items_text_of : List ItemView → List ℕ
items_text_of views = flat_map item_text views

-- what was seen at a point
abbrev pub seen_text : ℕ → Seen → List ℕ
seen_text point (Runs runs) = codes "seen " ++ decimal point ++ flat_map run_text runs
seen_text point (Items views) = codes "items " ++ decimal point ++ items_text_of views

-- why a question was refused
abbrev pub ask_refusal_text : AskRefusal → List ℕ
ask_refusal_text (NoTrack track) = codes " V1 " ++ decimal track
ask_refusal_text (Range length) = codes " V2 " ++ decimal length

-- what a question is answered in a room of tracks
abbrev pub TrackSight : Type 0
TrackSight = Sight CutObject KeptTrack CutStep StepDone StepRefusal Ask Seen AskRefusal

-- the reply to a question
abbrev pub sight_text_of : TrackSight → List ℕ
sight_text_of (sight.Seen point seen) = seen_text point seen
sight_text_of (sight.Refused point refusal) =
    codes "no " ++ decimal point ++ ask_refusal_text refusal
sight_text_of sight.Memory = codes "memory"
