-- The protocol of a room of cuts: edits of its tracks, questions to them, and the lines that ask for them.
use Rattle.std.specs.Prelude.{◌≡◌, ℕ, Bool, true, false, ◌||◌, is_none, List, [], ◌∷◌, Some, None, Result, Ok, Err}
use Rattle.cut_steps.specs.CutSteps.{CutStep, KeptTrack, StepDone, StepRefusal, stepping, fresh_tracks}
use Rattle.line_words.specs.Lines.{Line as InputLine}
use Rattle.timecode12.specs.Numbers.{Counted}
use Rattle.composables.specs.declared.media.Table.{Table}
use Rattle.composables.specs.TrackState.{TrackState}
use Rattle.otio_json.specs.declared.opening.Opening.{Opening}
use Rattle.edit_calls.specs.declared.asks.Ask.{Ask}
use Rattle.edit_calls.specs.declared.asks.Seen.{Seen}
use Rattle.edit_calls.specs.declared.asks.AskRefusal.{AskRefusal}
use Rattle.edit_apply.specs.Apply.{refuse_names_of}
use Rattle.edit_apply.specs.See.{seen_in}
use Rattle.journal_text.specs.NewsTexts.{news_text_of}
use Rattle.take_back.specs.Parts.{nows}
use Rattle.take_back.specs.Steps.{asked_by}
use Rattle.room_core.specs.declared.entry.Entry.{Entry}
use Rattle.line_table.specs.declared.lines.Line.{Line}
use Rattle.line_table.specs.declared.lines.Line.TheVariants.{Edit, Ask as AskOf, Point as PointOf, Otio, News as NewsOf}
use Rattle.protocol_parts.specs.declared.line_fault.LineFault.{LineFault}
use Rattle.protocol_parts.specs.declared.line_fault.LineFault.TheVariants.{B5}
use Rattle.line_table.specs.Labels.{place_by}
use Rattle.line_table.specs.Reading.{are_linking, line_of}
use Rattle.line_words.specs.Blanks.{words_of}
use Rattle.otio_text.specs.Documents.{timeline_text}
use Rattle.station_sessions.specs.DocumentReplies.{document_reply, no_point_reply}
use Rattle.cut_room.specs.declared.answers.Answer.TheVariants as answer
use Rattle.cut_room.specs.declared.answers.Sight.TheVariants as sight
use Rattle.line_table.specs.CallTexts.{IsSmall, IsWrittenStep}
use Rattle.reply_text.specs.Replies.{answer_text_of, fault_of}
use Rattle.reply_text.specs.Sights.{sight_text_of}
use Rattle.room_core.specs.History.{IsLegal, most_entries}
use Rattle.room_core.specs.Whole.{whole}
use Rattle.station_sessions.specs.Transcript.{Wish, Do, See, Point, Write, News, Bad, Protocol, Origin, Transcript, TranscriptTo, TranscriptBut}

-- what stays as it is in a room: its table, how its frames are counted, and the frame at which its record starts
pub record Setting : Type 0 where
  pub table : Table
  pub counting : Counted
  pub start : ℕ

-- what stays as it is in a room that is opened so
abbrev pub setting_of : Opening → Setting
setting_of o = record { table = o.table; counting = o.counting; start = o.start }

abbrev pub History : Type 0
History = List (Entry CutStep)

-- what a line of the input says; one that is too long says nothing
abbrev pub meaning_of : Setting → InputLine → Result Line LineFault
meaning_of setting None = Err B5
meaning_of setting (Some bytes) = line_of (place_by setting.counting setting.start) bytes

-- what a station asks for by it; a step is the station's own
abbrev pub wish_in : ℕ → Result Line LineFault → Wish CutStep Ask
wish_in station (Ok (Edit s)) = Do (asked_by station s)
wish_in station (Ok (AskOf q)) = See q
wish_in station (Ok PointOf) = Point
wish_in station (Ok (Otio n)) = Write n
wish_in station (Ok (NewsOf n)) = News n
wish_in station (Err fault) = Bad (fault_of fault)

-- an edit that is not refused for the tracks that it names, a question, a document and an entry may find no memory
abbrev pub finds_memory : Table → Wish CutStep Ask → Bool
finds_memory table (Do s) = is_none ((stepping table).refuses s)
finds_memory table (See q) = true
finds_memory table Point = false
finds_memory table (Write n) = true
finds_memory table (News n) = true
finds_memory table (Bad text) = false

-- a line whose first word is `link` may find none either, whatever it asks for
abbrev pub is_linking : InputLine → Bool
is_linking None = false
is_linking (Some bytes) = are_linking (words_of bytes)

-- the reply to an edit at a point, and to a question
abbrev pub reply_of : ℕ → Result StepDone StepRefusal → List ℕ
reply_of n (Ok d) = answer_text_of (answer.Done n d)
reply_of n (Err r) = answer_text_of (answer.Refused n r)

abbrev pub seen_of : ℕ → Result Seen AskRefusal → List ℕ
seen_of n (Ok s) = sight_text_of (sight.Seen n s)
seen_of n (Err r) = sight_text_of (sight.Refused n r)

-- the document of a cut in a room
abbrev pub document_of : Setting → List TrackState → List ℕ
document_of setting tracks = timeline_text setting.table tracks setting.counting setting.start

abbrev pub room_of : Setting → Protocol (List KeptTrack) CutStep StepDone StepRefusal Ask Seen AskRefusal
room_of setting = record {
  apply = whole (stepping setting.table);
  see = λ tracks q. seen_in setting.table (nows tracks) q;
  wish = λ station l. wish_in station (meaning_of setting l);
  takes_memory = λ l. finds_memory setting.table (wish_in 0 (meaning_of setting l)) || is_linking l;
  answer_text = reply_of;
  full_text = answer_text_of (answer.Full most_entries);
  sight_text = seen_of;
  document_text = λ n tracks. document_reply n (document_of setting (nows tracks));
  news_text = news_text_of;
  no_point_text = no_point_reply;
}

-- the transcript of a station of a room, whose entries after those that were kept are all answered
abbrev pub RoomTranscript : Opening → History → Origin → ℕ → List InputLine → List (List ℕ) → Type 0
RoomTranscript o h from station lines replies = Transcript (room_of (setting_of o)) (fresh_tracks o.tracks) h from station lines replies []

-- the same, where it was told of so many entries in the end
abbrev pub RoomTranscriptTo : Opening → History → Origin → ℕ → List InputLine → List (List ℕ) → ℕ → Type 0
RoomTranscriptTo o h from station lines replies told = TranscriptTo (room_of (setting_of o)) (fresh_tracks o.tracks) h from station lines replies told []

-- the same, and one line more, whose reply was not sent
abbrev pub RoomTranscriptBut : Opening → History → Origin → ℕ → List InputLine → List (List ℕ) → ℕ → InputLine → Type 0
RoomTranscriptBut o h from station lines replies told line = TranscriptBut (room_of (setting_of o)) (fresh_tracks o.tracks) h from station lines replies told line

abbrev pub IsLegalIn : Opening → History → Type 0
IsLegalIn o h = IsLegal (whole (stepping o.table)) (fresh_tracks o.tracks) h

-- each entry can be written as a line, and read again: its number has 32 bits, its step is its station's own, and a line
-- can name it
abbrev pub AreWritten : History → Type 0
AreWritten [] = Unit {0}
AreWritten (e ∷ es) = (IsSmall e.number × (e.call.by ≡ e.station) × IsWrittenStep e.call) × AreWritten es
