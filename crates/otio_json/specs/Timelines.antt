-- A whole document: one timeline, whose stack of tracks is the sequence.
use Rattle.std.specs.Prelude.{ℕ, ℤ, pos, int_lt, nat_le, nat_lt, unsigned_abs, ◌&&◌, List, [], ◌∷◌, ◌++◌, length, Option, Some, None, Result, Ok, Err, codes, bytes_eq, if◌then◌else◌}
use Rattle.timecode12.specs.Numbers.{Counted, rate_num, rate_den}
use Rattle.timecode12.specs.Labels.{day_of}
use Rattle.composables.specs.declared.media.Table.{Table}
use Rattle.composables.specs.declared.media.Kind.{Kind}
use Rattle.composables.specs.declared.media.Kind.TheVariants.{Video, Audio}
use Rattle.composables.specs.TrackState.{TrackState}
use Rattle.json_tokens.specs.Reading.{◌>>=◌}
use Rattle.json_tokens.specs.declared.fault.JsonFault.{JsonFault}
use Rattle.json_tokens.specs.declared.fault.JsonFault.TheVariants.{Syntax, Depth, NotUtf8, TooLarge, Memory}
use Rattle.json_tree.specs.ReadingValues.{document_at}
use Rattle.json_tree.specs.Tree.{Tree}
use Rattle.json_tree.specs.Parts.{place_of}
use Rattle.otio_tracks.specs.declared.faults.DocCode.TheVariants.{J1, J2, J4, J5, O3, O10, O11, O16}
use Rattle.otio_tracks.specs.declared.faults.DocFault.{DocFault}
use Rattle.otio_tracks.specs.declared.faults.DocFault.TheVariants.{Refused, Memory as NoMemory}
use Rattle.otio_json.specs.declared.timeline.TheConstants.{MAX_NESTS, MAX_TRACKS}
use Rattle.otio_json.specs.declared.nests.Nesting.{Nesting}
use Rattle.otio_json.specs.declared.nests.Nesting.TheVariants.{Forbidden, Levels}
use Rattle.otio_json.specs.declared.opening.Opening.{Opening}
use Rattle.otio_tracks.specs.Reading.{Read, refuse, each}
use Rattle.otio_tracks.specs.Values.{given, needed, text_read, list_read, expected}
use Rattle.otio_tracks.specs.Times.{frame_read}
use Rattle.otio_tracks.specs.Clips.{with_kind, empty_table}
use Rattle.otio_tracks.specs.Parts.{enabled_read}
use Rattle.otio_json.specs.Nests.{track_read}

abbrev pub rate_counted : Counted → ℕ × ℕ
rate_counted c = (rate_num c.rate, rate_den c.rate)

-- ---- where the sequence starts

abbrev pub in_day : Counted → ℤ → ℕ → Read ℕ
in_day c start at =
    if int_lt start (pos 0) then refuse O11 at
    else if nat_lt (unsigned_abs start) (length (day_of c)) then Ok (unsigned_abs start)
    else refuse O11 at

abbrev pub start_if : Counted → ℕ × ℕ → Option Tree → Read ℕ
start_if c rate None = Ok 0
start_if c rate (Some t) = frame_read rate t >>= λ start. in_day c start (place_of t)

unfoldable pub start_read : Counted → ℕ × ℕ → Tree → Read ℕ
start_read c rate timeline = start_if c rate (given (codes "global_start_time") timeline)

-- ---- its tracks

abbrev pub untrimmed_if : Option Tree → Read (Unit {0})
untrimmed_if None = Ok tt
untrimmed_if (Some t) = refuse O16 (place_of t)

unfoldable pub untrimmed : Tree → Read (Unit {0})
untrimmed t = untrimmed_if (given (codes "source_range") t)

abbrev pub kind_named : List ℕ → ℕ → Read Kind
kind_named name at =
    if bytes_eq name (codes "Video") then Ok Video
    else if bytes_eq name (codes "Audio") then Ok Audio
    else refuse O3 at

unfoldable pub kind_read : Tree → Read Kind
kind_read t = do
  kind ← needed (codes "kind") t
  name ← text_read kind
  kind_named name (place_of kind)

-- nests stand in video tracks alone, at most 8 in one another
abbrev pub nesting_of : Kind → Nesting
nesting_of Video = Levels MAX_NESTS
nesting_of Audio = Forbidden

unfoldable pub head_of_track : Tree → Read Kind
head_of_track t = do
  _ ← expected (codes "Track.1") t
  _ ← enabled_read t
  _ ← untrimmed t
  kind_read t

-- a track more
unfoldable pub next_track : ℕ × ℕ → List TrackState × Table → Tree → Read (List TrackState × Table)
next_track rate state t = do
  kind ← head_of_track t
  children_text ← needed (codes "children") t
  children ← list_read children_text
  track ← track_read rate (nesting_of kind) (length state.0) state.1 children (place_of t)
  Ok (state.0 ++ track.0 ∷ [], with_kind track.1 kind)

abbrev pub tracks_read : ℕ × ℕ → Table → List Tree → Read (List TrackState × Table)
tracks_read rate table children = each (next_track rate) ([], table) children

-- ---- the timeline

abbrev pub opened : Counted → ℕ → List TrackState × Table → Opening
opened c start state = record { table = state.1; tracks = state.0; counting = c; start = start }

abbrev pub sequence_read : ℕ × ℕ → List Tree → ℕ → Read (List TrackState × Table)
sequence_read rate children at =
    if nat_lt 0 (length children) && nat_le (length children) MAX_TRACKS then tracks_read rate empty_table children else refuse O10 at

unfoldable pub timeline_read : Counted → Tree → Read Opening
timeline_read c t = do
  _ ← expected (codes "Timeline.1") t
  start ← start_read c (rate_counted c) t
  stack ← needed (codes "tracks") t
  _ ← expected (codes "Stack.1") stack
  _ ← untrimmed stack
  children_text ← needed (codes "children") stack
  children ← list_read children_text
  state ← sequence_read (rate_counted c) children (place_of children_text)
  Ok (opened c start state)

-- ---- the text: a fault of the JSON comes before those of the timeline

abbrev pub json_read : Result Tree JsonFault → Read Tree
json_read (Ok t) = Ok t
json_read (Err (Syntax at)) = refuse J1 at
json_read (Err (Depth at)) = refuse J2 at
json_read (Err (NotUtf8 at)) = refuse J4 at
json_read (Err TooLarge) = refuse J5 0
json_read (Err Memory) = refuse J5 0

-- what a fault of the JSON is as one of the document
abbrev pub doc_fault : JsonFault → DocFault
doc_fault (Syntax at) = Refused J1 at
doc_fault (Depth at) = Refused J2 at
doc_fault (NotUtf8 at) = Refused J4 at
doc_fault TooLarge = Refused J5 0
doc_fault Memory = NoMemory

unfoldable pub tree_read : List ℕ → Read Tree
tree_read bytes = json_read (document_at bytes)

unfoldable pub document_read : Counted → List ℕ → Read Opening
document_read c bytes = do
  tree ← tree_read bytes
  timeline_read c tree
