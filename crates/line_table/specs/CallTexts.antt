-- The text of a call: its line with one space between words, lists of tracks ascending, places as
-- numbers, and numbers without leading zeros. That of a call which keeps dissolves ends with `keep`.
-- The text of a step is that of its call, or `back` and a list of tracks.
use Rattle.std.specs.Prelude.{◌≡◌, ℕ, ◌<◌, ◌≤◌, ◌^◌, Bool, true, false, List, [], ◌∷◌, ◌++◌, All, codes, decimal, length, FitsSigned}
use Rattle.std.specs.Fmt.{signed_decimal}
use Rattle.std.specs.Int.{w32}
use Rattle.frame_meaning.specs.declared.cells.What.{What}
use Rattle.frame_meaning.specs.declared.cells.What.TheVariants.{Media, Nest}
use Rattle.composables.specs.declared.calls.FillLength.{FillLength}
use Rattle.composables.specs.declared.calls.FillLength.TheVariants.{Source, Sequence}
use Rattle.composables.specs.TrackSets.{tracks_in}
use Rattle.edit_calls.specs.declared.asks.Call.{Call}
use Rattle.edit_calls.specs.declared.asks.Call.TheVariants as call
use Rattle.line_table.specs.declared.lines.Line.{Line}
use Rattle.line_table.specs.declared.lines.Line.TheVariants.{Edit, Ask, Point, Otio, News}
use Rattle.line_table.specs.declared.parts.TheConstants.{LAST_TRACK}
use Rattle.protocol_parts.specs.Things.{what_text}
use Rattle.line_table.specs.Table.{end_word}
use Rattle.take_back.specs.declared.step.Deed.{Deed}
use Rattle.take_back.specs.declared.step.Deed.TheVariants.{Do, Back}
use Rattle.take_back.specs.declared.step.Step.{Step}

-- numbers, parted by commas; `lead` stands before the first
abbrev pub numbers_after : List ℕ → List ℕ → List ℕ
numbers_after lead [] = []
numbers_after lead (n ∷ ns) = lead ++ decimal n ++ numbers_after (codes ",") ns

-- the tracks of a set, ascending
abbrev pub tracks_text : ℕ → List ℕ
tracks_text set = numbers_after [] (tracks_in set)

-- a thing, a source frame of it, and a count of frames
abbrev pub frames_text : What → ℕ → ℕ → List ℕ
frames_text what from len = what_text what ++ codes " " ++ decimal from ++ codes " " ++ decimal len

-- how much is filled: so many source frames, or the whole gap
abbrev pub length_text : FillLength → List ℕ
length_text (Source len) = codes "source " ++ decimal len
length_text Sequence = codes "sequence"

-- whether dissolves are kept
abbrev pub keep_text : Bool → List ℕ
keep_text false = []
keep_text true = codes " keep"

-- a text, and two numbers with a space between
abbrev pub numbers_text : List ℕ → ℕ → ℕ → List ℕ
numbers_text lead first second = lead ++ decimal first ++ codes " " ++ decimal second

abbrev pub call_text_of : Call → List ℕ
call_text_of (call.Overwrite c) =
    codes "overwrite " ++ decimal c.track ++ codes " " ++ decimal c.at ++ codes " "
    ++ frames_text c.what c.from c.len ++ keep_text c.keep
call_text_of (call.Insert c) =
    codes "insert " ++ tracks_text c.tracks ++ codes " " ++ decimal c.track ++ codes " "
    ++ decimal c.at ++ codes " " ++ frames_text c.what c.from c.len ++ keep_text c.keep
call_text_of (call.Remove c) =
    codes "remove " ++ decimal c.track ++ codes " " ++ decimal c.item ++ keep_text c.keep
call_text_of (call.Extract c) =
    codes "extract " ++ tracks_text c.tracks ++ codes " " ++ decimal c.track ++ codes " "
    ++ decimal c.item ++ keep_text c.keep
call_text_of (call.Slice c) =
    codes "slice " ++ decimal c.track ++ codes " " ++ decimal c.at ++ keep_text c.keep
call_text_of (call.Dissolve c) =
    codes "dissolve " ++ decimal c.track ++ codes " " ++ decimal c.at ++ codes " " ++ decimal c.a
    ++ codes " " ++ decimal c.b
call_text_of (call.Undissolve c) =
    codes "undissolve " ++ decimal c.track ++ codes " " ++ decimal c.at
call_text_of (call.Trim c) =
    codes "trim " ++ decimal c.track ++ codes " " ++ decimal c.item ++ codes " " ++ end_word c.end
    ++ codes " " ++ signed_decimal c.by
call_text_of (call.Slip c) =
    codes "slip " ++ tracks_text c.tracks ++ codes " " ++ decimal c.track ++ codes " "
    ++ decimal c.item ++ codes " " ++ signed_decimal c.by
call_text_of (call.Roll c) =
    codes "roll " ++ decimal c.track ++ codes " " ++ decimal c.at ++ codes " "
    ++ signed_decimal c.by
call_text_of (call.Slide c) =
    codes "slide " ++ tracks_text c.tracks ++ codes " " ++ decimal c.track ++ codes " "
    ++ decimal c.item ++ codes " " ++ signed_decimal c.by
call_text_of (call.Fill c) =
    codes "fill " ++ decimal c.track ++ codes " " ++ decimal c.at ++ codes " " ++ what_text c.what
    ++ codes " " ++ decimal c.from ++ codes " " ++ length_text c.length ++ keep_text c.keep
call_text_of (call.Ripple c) =
    codes "ripple " ++ tracks_text c.tracks ++ codes " " ++ decimal c.track ++ codes " "
    ++ decimal c.item ++ codes " " ++ end_word c.end ++ codes " " ++ signed_decimal c.by
call_text_of (call.Link3 c) =
    codes "link " ++ tracks_text c.tracks ++ codes " " ++ numbers_after [] c.items
call_text_of (call.Unlink c) = codes "unlink " ++ decimal c.track ++ codes " " ++ decimal c.item

abbrev pub deed_text_of : Deed Call → List ℕ
deed_text_of (Do c) = call_text_of c
deed_text_of (Back tracks) = codes "back " ++ tracks_text tracks

-- the text of a step, which does not tell the station that asks for it
abbrev pub step_text_of : Step Call → List ℕ
step_text_of s = deed_text_of s.act

-- how many items a call links
abbrev pub linked : Call → ℕ
linked (call.Link3 c) = length c.items
linked other = 0

abbrev pub linked_by : Deed Call → ℕ
linked_by (Do c) = linked c
linked_by (Back tracks) = 0

-- how many items a step links
abbrev pub linked_in : Step Call → ℕ
linked_in s = linked_by s.act

-- a number of 32 bits
abbrev pub IsSmall : ℕ → Type 0
IsSmall n = n < 2 ^ 32

abbrev pub IsSmallWhat : What → Type 0
IsSmallWhat (Media m) = IsSmall m
IsSmallWhat (Nest n) = IsSmall n

abbrev pub IsSmallLength : FillLength → Type 0
IsSmallLength (Source len) = IsSmall len
IsSmallLength Sequence = Unit {0}

-- at least one track, and none over 31
abbrev pub IsSomeTracks : ℕ → Type 0
IsSomeTracks set = (0 < set) × IsSmall set

-- a call whose text is a line, which is read again as the call: its numbers have 32 bits, it names at
-- least one track, its tracks are among the 32 that a line can name, and a link has an item for each
abbrev pub IsWritten : Call → Type 0
IsWritten (call.Overwrite c) =
    (c.track ≤ LAST_TRACK) × IsSmall c.at × IsSmallWhat c.what × IsSmall c.from × IsSmall c.len
IsWritten (call.Insert c) =
    IsSomeTracks c.tracks × (c.track ≤ LAST_TRACK) × IsSmall c.at
    × IsSmallWhat c.what × IsSmall c.from × IsSmall c.len
IsWritten (call.Remove c) = (c.track ≤ LAST_TRACK) × IsSmall c.item
IsWritten (call.Extract c) = IsSomeTracks c.tracks × (c.track ≤ LAST_TRACK) × IsSmall c.item
IsWritten (call.Slice c) = (c.track ≤ LAST_TRACK) × IsSmall c.at
IsWritten (call.Dissolve c) = (c.track ≤ LAST_TRACK) × IsSmall c.at × IsSmall c.a × IsSmall c.b
IsWritten (call.Undissolve c) = (c.track ≤ LAST_TRACK) × IsSmall c.at
IsWritten (call.Trim c) = (c.track ≤ LAST_TRACK) × IsSmall c.item × FitsSigned w32 c.by
IsWritten (call.Slip c) =
    IsSomeTracks c.tracks × (c.track ≤ LAST_TRACK) × IsSmall c.item × FitsSigned w32 c.by
IsWritten (call.Roll c) = (c.track ≤ LAST_TRACK) × IsSmall c.at × FitsSigned w32 c.by
IsWritten (call.Slide c) =
    IsSomeTracks c.tracks × (c.track ≤ LAST_TRACK) × IsSmall c.item × FitsSigned w32 c.by
IsWritten (call.Fill c) =
    (c.track ≤ LAST_TRACK) × IsSmall c.at
    × IsSmallWhat c.what × IsSmall c.from × IsSmallLength c.length
IsWritten (call.Ripple c) =
    IsSomeTracks c.tracks × (c.track ≤ LAST_TRACK) × IsSmall c.item × FitsSigned w32 c.by
IsWritten (call.Link3 c) =
    IsSomeTracks c.tracks × All IsSmall c.items × (length c.items ≡ length (tracks_in c.tracks))
IsWritten (call.Unlink c) = (c.track ≤ LAST_TRACK) × IsSmall c.item

abbrev pub IsWrittenDeed : Deed Call → Type 0
IsWrittenDeed (Do c) = IsWritten c
IsWrittenDeed (Back tracks) = IsSomeTracks tracks

-- a step whose text is a line, which is read again as the step but for its station
abbrev pub IsWrittenStep : Step Call → Type 0
IsWrittenStep s = IsWrittenDeed s.act

-- the line is no step, or a step that can be written and read again
abbrev pub NamesWritten : Line → Type 0
NamesWritten (Edit s) = IsWrittenStep s
NamesWritten (Ask q) = Unit {0}
NamesWritten Point = Unit {0}
NamesWritten (Otio n) = Unit {0}
NamesWritten (News n) = Unit {0}
