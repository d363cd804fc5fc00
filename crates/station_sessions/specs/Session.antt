-- What a session does for one line: others may have committed more, and then it answers the line, and at most commits one
-- call.
use Rattle.std.specs.Prelude.{◌≡◌, ℕ, ◌+◌, ◌<◌, ◌≤◌, ◌⊎◌, Bool, IsTrue, List, [], ◌∷◌, ◌++◌, Vec, Some, Result, Ok, Err, length, take, slice_get, codes, decimal}
use Rattle.std.specs.Global.{Global}
use Rattle.cut_steps.specs.CutSteps.{CutStep, KeptTrack}
use Rattle.edit_calls.specs.declared.asks.Ask.{Ask}
use Rattle.room_core.specs.declared.entry.Entry.{Entry}
use Rattle.reply_text.specs.Sights.{TrackSight, sight_text_of}
use Rattle.protocol_parts.specs.declared.line_fault.LineFault.{LineFault}
use Rattle.protocol_parts.specs.declared.line_fault.LineFault.TheVariants.{Memory as NoMemory}
use Rattle.line_table.specs.declared.lines.Line.{Line}
use Rattle.line_words.specs.Lines.{Line as InputLine}
use Rattle.room_core.specs.History.{answer_in, most_entries, replay, NumbersRise}
use Rattle.room_core.specs.Projection.{of_station}
use Rattle.station_sessions.specs.Transcript.{Wish, Do, See, Point, Write, News, Bad, Protocol}
use Rattle.edit_journal.specs.declared.log.CopyFault.{CopyFault}
use Rattle.edit_journal.specs.declared.log.CopyFault.TheVariants as fault
use Rattle.cut_room.specs.declared.answers.Answer.TheVariants as answer
use Rattle.cut_room.specs.declared.answers.Excerpt.{Excerpt}
use Rattle.cut_room.specs.declared.answers.Sight.TheVariants as sight
use Rattle.reply_text.specs.Replies.{EditAnswer}
use Rattle.journal_text.specs.NewsTexts.{news_text_of}
use Rattle.take_back.specs.Parts.{nows}
use Rattle.station_sessions.specs.DocumentReplies.{document_reply, no_point_reply}
use Rattle.station_sessions.specs.Rooms.{Setting, AreWritten, document_of, room_of, finds_memory, is_linking, meaning_of, wish_in}

-- how far a station has come: the state that it began with, the state as it is, the journal, how many of its entries are
-- known to be kept, and the number of the next line
pub record Course (S C : Type 0) : Type 0 where
  pub opening : S
  pub state : S
  pub journal : List (Entry C)
  pub held : ℕ
  pub line : ℕ

-- Others have committed more: what the station knows begins what it knows then, which has no further entry of its own, and
-- the state is what their entries leave. More entries may be known to be kept.
pub record Grows {S C D R Q X Y : Type 0} (k : Protocol S C D R Q X Y) (station : ℕ) (old new : Course S C) : Type 0 where
  pub more : List (Entry C)
  pub opening : new.opening ≡ old.opening
  pub journal : new.journal ≡ old.journal ++ more
  pub others : of_station station more ≡ []
  pub state : replay k.apply old.state more ≡ Some new.state
  pub rise : NumbersRise new.journal
  pub within : length new.journal ≤ most_entries
  pub held : old.held ≤ new.held
  pub line : new.line ≡ old.line

-- the number of the next line rises
abbrev pub past_line : {S C : Type 0} → Course S C → Course S C
past_line s = record s { line = s.line + 1 }

-- so many entries are known to be kept
abbrev pub held_to : {S C : Type 0} → ℕ → Course S C → Course S C
held_to n s = record s { held = n }

-- `tells` is how many entries the reply tells of: none where it names no point.
module _ {S C D R Q X Y : Type 0} (k : Protocol S C D R Q X Y) (station : ℕ) (old new : Course S C) (reply : List ℕ) (tells : ℕ) where
  -- the call was done on the state and stands in the journal
  pub record Commits (c : C) (d : D) : Type 0 where
    pub opening : new.opening ≡ old.opening
    pub applies : k.apply old.state c ≡ Ok (new.state, d)
    pub journal : new.journal ≡ old.journal ++ record { station = station; number = old.line; call = c } ∷ []
    pub room : length old.journal < most_entries
    pub held : new.held ≡ old.held
    pub line : new.line ≡ old.line
    pub reply_is : reply ≡ k.answer_text (length old.journal) (Ok d)
    pub tells_are : tells ≡ length old.journal + 1

  pub record Refuses (c : C) (r : R) : Type 0 where
    pub refused : k.apply old.state c ≡ Err r
    pub same : new ≡ old
    pub reply_is : reply ≡ k.answer_text (length old.journal) (Err r)
    pub tells_are : tells ≡ length old.journal

  -- the call would apply, and the journal is full
  pub record HasNoRoom (c : C) (d : D) : Type 0 where
    pub applies : answer_in (k.apply old.state c) ≡ Ok d
    pub full : length old.journal ≡ most_entries
    pub same : new ≡ old
    pub reply_is : reply ≡ k.full_text
    pub tells_are : tells ≡ most_entries

  -- the state after so many entries is told as a document
  pub record Writes (n : ℕ) (s : S) : Type 0 where
    pub within : n ≤ length old.journal
    pub state : replay k.apply old.opening (take n old.journal) ≡ Some s
    pub same : new ≡ old
    pub reply_is : reply ≡ k.document_text n s
    pub tells_are : tells ≡ n

  -- there are fewer entries
  pub record HasNoPoint (n : ℕ) : Type 0 where
    pub past : length old.journal < n
    pub same : new ≡ old
    pub reply_is : reply ≡ k.no_point_text (length old.journal)
    pub tells_are : tells ≡ length old.journal

  -- the entry at a place is told, where there is one
  pub record TellsNews (place : ℕ) : Type 0 where
    pub within : place ≤ length old.journal
    pub same : new ≡ old
    pub reply_is : reply ≡ k.news_text place (length old.journal) (slice_get old.journal place)
    pub tells_are : tells ≡ length old.journal

  -- this text, which tells of so many entries
  pub record Says (text : List ℕ) (count : ℕ) : Type 0 where
    pub same : new ≡ old
    pub reply_is : reply ≡ text
    pub tells_are : tells ≡ count

  -- The point that is told is that of all entries, or one that is known to be kept up to.
  pub record TellsPoint (n : ℕ) : Type 0 where
    pub within : n ≤ length old.journal
    pub least : (n ≡ length old.journal) ⊎ (old.held ≤ n)
    pub same : new ≡ old
    pub reply_is : reply ≡ codes "point " ++ decimal n
    pub tells_are : tells ≡ n

  -- an answer to what the line asks for
  abbrev pub Does : Wish C Q → Type 0
  Does (Do c) = ((d : D) × Commits c d) ⊎ (((r : R) × Refuses c r) ⊎ ((d : D) × HasNoRoom c d))
  Does (See q) = Says (k.sight_text (length old.journal) (k.see old.state q)) (length old.journal)
  Does Point = (n : ℕ) × TellsPoint n
  Does (Write n) = ((s : S) × Writes n s) ⊎ HasNoPoint n
  Does (News place) = TellsNews place ⊎ HasNoPoint place
  Does (Bad text) = Says text 0

  -- answering a line, before the number of the next line rises
  abbrev pub Step : Wish C Q → Bool → Type 0
  Step wish takes_memory = Does wish ⊎ (IsTrue takes_memory × Says (codes "memory") 0)

-- a station's session: the room's setting, the station's number, how far it has come, and how many failures of what keeps
-- the room's journal it knows
pub record StationState : Type 0 where
  pub setting : Setting
  pub station : ℕ
  pub course : Course (List KeptTrack) CutStep
  pub failures : ℕ

-- A reply of this text, which tells of so many entries, to what a line asks for, after others have committed what they
-- have, and then the line is past. The station's own entries can be written.
pub record RepliesWith (old new : StationState) (wish : Wish CutStep Ask) (text : List ℕ) (tells : ℕ) : Type 0 where
  pub setting : new.setting ≡ old.setting
  pub station : new.station ≡ old.station
  pub written : AreWritten (of_station old.station old.course.journal) → AreWritten (of_station old.station new.course.journal)
  pub met : Course (List KeptTrack) CutStep
  pub grows : Grows (room_of old.setting) old.station old.course met
  pub answered : Course (List KeptTrack) CutStep
  pub step : Step (room_of old.setting) old.station met answered text tells wish (finds_memory old.setting.table wish)
  pub within : tells ≤ most_entries
  pub passed : new.course ≡ past_line answered
  pub line : new.course.line ≡ old.course.line + 1

-- Others have committed more, of which the station knows now. It has answered no line.
pub record HasGrown (old new : StationState) : Type 0 where
  pub setting : new.setting ≡ old.setting
  pub station : new.station ≡ old.station
  pub written : AreWritten (of_station old.station old.course.journal) → AreWritten (of_station old.station new.course.journal)
  pub line : new.course.line ≡ old.course.line
  pub grows : Grows (room_of old.setting) old.station old.course new.course

-- More entries are known to be kept, or as many; else nothing but the count of failures has changed.
pub record HasHeld (old new : StationState) : Type 0 where
  pub setting : new.setting ≡ old.setting
  pub station : new.station ≡ old.station
  pub more : old.course.held ≤ new.course.held
  pub course : new.course ≡ held_to new.course.held old.course

-- what a line says, or that there was no memory to read a line whose first word is `link`
abbrev pub IsMeant : Setting → InputLine → Result Line LineFault → Type 0
IsMeant setting line result =
    (result ≡ meaning_of setting line) ⊎ (IsTrue (is_linking line) × (result ≡ Err NoMemory))

-- the reply to a line; where there was no memory to read it, that reply
abbrev pub RepliesTo : StationState → StationState → InputLine → List ℕ → ℕ → Type 0
RepliesTo old new line reply tells =
    RepliesWith old new (wish_in old.station (meaning_of old.setting line)) reply tells
    ⊎ (IsTrue (is_linking line) × RepliesWith old new (Bad (codes "memory")) reply tells)

-- this reply, which tells of so many entries, or that there was no memory for it
abbrev pub IsReplyIfMemory : List ℕ → ℕ → List ℕ → ℕ → Type 0
IsReplyIfMemory text count reply tells = ((reply ≡ text) × (tells ≡ count)) ⊎ ((reply ≡ codes "memory") × (tells ≡ 0))

-- how many entries the answer to an edit tells of
abbrev pub answer_tells : EditAnswer → ℕ
answer_tells (answer.Done n d) = n + 1
answer_tells (answer.Refused n r) = n
answer_tells (answer.Full n) = n
answer_tells answer.Memory = 0

-- its point is one of a journal
abbrev pub IsWithin : EditAnswer → Type 0
IsWithin answer = answer_tells answer ≤ most_entries

-- how many entries the answer to a question tells of
abbrev pub sight_tells : TrackSight → ℕ
sight_tells (sight.Seen n s) = n
sight_tells (sight.Refused n r) = n
sight_tells sight.Memory = 0

-- the reply to a question that was answered so
abbrev pub IsSightReply : TrackSight → List ℕ → ℕ → Type 0
IsSightReply sight reply tells = IsReplyIfMemory (sight_text_of sight) (sight_tells sight) reply tells

-- the reply to a wish for the document after n entries, where this cut was found
abbrev pub IsCutReply : Setting → ℕ → Result (Vec KeptTrack Global) CopyFault → List ℕ → ℕ → Type 0
IsCutReply setting n (Ok kept) reply tells = IsReplyIfMemory (document_reply n (document_of setting (nows kept.items))) n reply tells
IsCutReply setting n (Err (fault.NoPoint count)) reply tells = (reply ≡ no_point_reply count) × (tells ≡ count)
IsCutReply setting n (Err fault.Memory) reply tells = (reply ≡ codes "memory") × (tells ≡ 0)

-- the reply to a wish for the entry at a place, where these entries were found there
abbrev pub IsNewsReply : ℕ → Result (Excerpt CutStep) CopyFault → List ℕ → ℕ → Type 0
IsNewsReply place (Ok found) reply tells =
    IsReplyIfMemory (news_text_of place found.length (slice_get found.entries.items 0)) found.length reply tells
IsNewsReply place (Err (fault.NoPoint count)) reply tells = (reply ≡ no_point_reply count) × (tells ≡ count)
IsNewsReply place (Err fault.Memory) reply tells = (reply ≡ codes "memory") × (tells ≡ 0)
