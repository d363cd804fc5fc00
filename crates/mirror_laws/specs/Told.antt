-- The replies that stations of a room are sent, whose history is this one in the end.
use Rattle.std.specs.Prelude.{◌≡◌, ℕ, ◌≤◌, ◌⊎◌, List, ◌++◌, codes, decimal, length, slice_get, take}
use Rattle.std.specs.List.{flat_map}
use Rattle.composables.specs.TrackState.{TrackState}
use Rattle.composables.specs.declared.media.Table.{Table}
use Rattle.cut_steps.specs.CutSteps.{CutStep}
use Rattle.journal_text.specs.NewsTexts.{news_text_of}
use Rattle.otio_text.specs.Documents.{timeline_text}
use Rattle.protocol_parts.specs.declared.line_fault.LineFault.{LineFault}
use Rattle.reply_text.specs.Replies.{EditAnswer, answer_text_of, fault_of}
use Rattle.reply_text.specs.Sights.{TrackSight, sight_text_of}
use Rattle.room_core.specs.declared.entry.Entry.{Entry}
use Rattle.timecode12.specs.Numbers.{Counted}

-- the news of a place, when the history had so many entries
pub record IsNewsOf (h : List (Entry CutStep)) (reply : List ℕ) : Type 0 where
  pub place : ℕ
  pub count : ℕ
  pub place_within : place ≤ count
  pub within : count ≤ length h
  pub reply_is : reply ≡ news_text_of place count (slice_get (take count h) place)

-- a document
pub record IsDocumentReply (reply : List ℕ) : Type 0 where
  pub point : ℕ
  pub start : ℕ
  pub table : Table
  pub tracks : List TrackState
  pub counting : Counted
  pub reply_is : reply ≡ codes "otio " ++ decimal point ++ codes " " ++ timeline_text table tracks counting start

-- the answer to an edit, to a question, to a line that is none of the table, the point, a document, that a document is
-- too long, or that there are only so many entries
abbrev pub IsOtherReply : List ℕ → Type 0
IsOtherReply reply =
    ((answer : EditAnswer) × (reply ≡ answer_text_of answer))
    ⊎ (((sight : TrackSight) × (reply ≡ sight_text_of sight))
    ⊎ (((fault : LineFault) × (reply ≡ fault_of fault))
    ⊎ (((n : ℕ) × (reply ≡ codes "point " ++ decimal n))
    ⊎ (IsDocumentReply reply
    ⊎ (((n : ℕ) × (reply ≡ codes "no " ++ decimal n ++ codes " V4"))
    ⊎ ((n : ℕ) × (reply ≡ codes "no " ++ decimal n ++ codes " V3")))))))

abbrev pub IsReplyOf : List (Entry CutStep) → List ℕ → Type 0
IsReplyOf h reply = IsNewsOf h reply ⊎ IsOtherReply reply

-- replies as they are sent: each with a line feed
abbrev pub sent_replies : List (List ℕ) → List ℕ
sent_replies replies = flat_map (λ reply. reply ++ codes "\n") replies
