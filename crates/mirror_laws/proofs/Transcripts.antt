-- What a station is told are replies of the room's history.
use Rattle.std.proofs.Common.{◌≡◌, ℕ, ◌+◌, inl, inr, List, [], ◌∷◌, ◌++◌, All, Bool, true, false, Result, Ok, Err, length, nat_le, if◌then◌else◌, refl, ap, codes}
use Rattle.std.specs.Fmt.{decimal}
use Rattle.std.proofs.lemmas.List.Elements.{All-nil, All-cons, All-weaker}
use Rattle.composables.specs.TrackState.{TrackState}
use Rattle.cut_room.specs.declared.answers.Answer.TheVariants as answer
use Rattle.cut_room.specs.declared.answers.Sight.TheVariants as sight
use Rattle.cut_steps.specs.CutSteps.{CutStep, KeptTrack, fresh_tracks}
use Rattle.edit_calls.specs.declared.asks.AskRefusal.{AskRefusal}
use Rattle.edit_calls.specs.declared.asks.Seen.{Seen}
use Rattle.line_table.specs.declared.lines.Line.{Line}
use Rattle.line_table.specs.declared.lines.Line.TheVariants as line
use Rattle.line_words.specs.Lines.{Line as InputLine}
use Rattle.otio_json.specs.declared.opening.Opening.{Opening}
use Rattle.protocol_parts.specs.declared.line_fault.LineFault.{LineFault}
use Rattle.reply_text.specs.Replies.{EditAnswer, answer_text_of, fault_of}
use Rattle.reply_text.specs.Sights.{TrackSight, sight_text_of}
use Rattle.room_core.specs.History.{most_entries}
use Rattle.room_core.specs.declared.entry.Entry.{Entry}
use Rattle.station_sessions.specs.DocumentReplies.{most_written, no_point_reply}
use Rattle.station_sessions.specs.Rooms.{History, RoomTranscript, Setting, document_of, meaning_of, room_of, seen_of, setting_of, wish_in}
use Rattle.station_sessions.specs.Transcript.{Answered, Origin, Row, Rows, sent}
use Rattle.take_back.specs.Parts.{nows}
use Rattle.journal_text.specs.JournalFaults.{HasNoLineFeed}
use Rattle.reply_laws.proofs.PlainTexts.{no_feeds}
use Rattle.mirror_laws.proofs.Streams.{plain_reply}
use Rattle.mirror_laws.specs.Told.{IsDocumentReply, IsReplyOf, sent_replies}

module _ (h : List (Entry CutStep)) (reply : List ℕ) where
  edit : (a : EditAnswer) → reply ≡ answer_text_of a → IsReplyOf h reply
  edit a is = inr (inl (a, is))

  question : (s : TrackSight) → reply ≡ sight_text_of s → IsReplyOf h reply
  question s is = inr (inr (inl (s, is)))

  bad : (f : LineFault) → reply ≡ fault_of f → IsReplyOf h reply
  bad f is = inr (inr (inr (inl (f, is))))

  at_point : (n : ℕ) → reply ≡ codes "point " ++ decimal n → IsReplyOf h reply
  at_point n is = inr (inr (inr (inr (inl (n, is)))))

  written : IsDocumentReply reply → IsReplyOf h reply
  written d = inr (inr (inr (inr (inr (inl d)))))

  too_long : (n : ℕ) → reply ≡ codes "no " ++ decimal n ++ codes " V4" → IsReplyOf h reply
  too_long n is = inr (inr (inr (inr (inr (inr (inl (n, is)))))))

  past_end : (n : ℕ) → reply ≡ no_point_reply n → IsReplyOf h reply
  past_end n is = inr (inr (inr (inr (inr (inr (inr (n, is)))))))

  seen : (n : ℕ) (s : Result Seen AskRefusal) → reply ≡ seen_of n s → IsReplyOf h reply
  seen n (Ok s) is = question (sight.Seen n s) is
  seen n (Err r) is = question (sight.Refused n r) is

  document : (setting : Setting) (n : ℕ) (tracks : List TrackState) (t : Bool)
      → reply ≡ (if t then codes "otio " ++ decimal n ++ codes " " ++ document_of setting tracks else codes "no " ++ decimal n ++ codes " V4") → IsReplyOf h reply
  document setting n tracks true is = written (record {
    point = n;
    start = setting.start;
    table = setting.table;
    tracks = tracks;
    counting = setting.counting;
    reply_is = is;
  })
  document setting n tracks false is = too_long n is

module _ (setting : Setting) (o : List KeptTrack) (h : List (Entry CutStep)) (station : ℕ) where
  answered : (at was : ℕ) (reply : List ℕ) (after : ℕ) (points : List ℕ) (l : Result Line LineFault)
      → Answered (room_of setting) o h station at was reply after points (wish_in station l) → IsReplyOf h reply
  answered at was reply after points (Ok (line.Edit s)) a = elim a [
    | inl d ↦ edit h reply (answer.Done d.0 d.1) d.2.reply_is
    | inr b ↦ elim b [
      | inl r ↦ edit h reply (answer.Refused r.0 r.1) r.2.reply_is
      | inr f ↦ edit h reply (answer.Full most_entries) f.1.reply_is
    ]
  ]
  answered at was reply after points (Ok (line.Ask q)) a = seen h reply a.0 a.1 a.2.reply_is
  answered at was reply after points (Ok line.Point) a = at_point h reply a.0 a.1.reply_is
  answered at was reply after points (Ok (line.Otio n)) a = elim a [
    | inl d ↦ document h reply setting n (nows d.0) (nat_le (length (document_of setting (nows d.0))) most_written) d.1.reply_is
    | inr e ↦ past_end h reply e.0 e.1.reply_is
  ]
  answered at was reply after points (Ok (line.News n)) a = elim a [
    | inl w ↦ inl (record { place = n; count = w.0; place_within = w.1.place_within; within = w.1.within; reply_is = w.1.reply_is })
    | inr e ↦ past_end h reply e.0 e.1.reply_is
  ]
  answered at was reply after points (Err f) a = bad h reply f a.reply_is

  row : (at was : ℕ) (reply : List ℕ) (after : ℕ) (points : List ℕ) (l : InputLine)
      → Row (room_of setting) o h station at was reply after points l → IsReplyOf h reply
  row at was reply after points l r = elim r [
    | inl a ↦ answered at was reply after points (meaning_of setting l) a
    | inr m ↦ edit h reply answer.Memory m.1.reply_is
  ]

  rows : (at was : ℕ) (lines : List InputLine) (replies : List (List ℕ)) (last : ℕ) (points : List ℕ)
      → Rows (room_of setting) o h station at was lines replies last points → All (IsReplyOf h) replies
  rows at was [] [] last points r = All-nil (IsReplyOf h)
  rows at was [] (reply ∷ replies) last points r = absurd r
  rows at was (l ∷ ls) [] last points r = absurd r
  rows at was (l ∷ ls) (reply ∷ replies) last points r =
      All-cons (IsReplyOf h) reply replies (row at was reply r.0 r.1 l r.3)
      (rows (at + 1) r.0 ls replies last r.2 r.4)

pub replies_of : (o : Opening) (h : History) (from : Origin) (station : ℕ) (lines : List InputLine) (replies : List (List ℕ))
    → RoomTranscript o h from station lines replies → All (IsReplyOf h) replies
replies_of o h from station lines replies t =
    rows (setting_of o) (fresh_tracks o.tracks) h station (from.base + 1) from.kept lines replies t.0 t.1.0 t.1.1

-- so each is one line
pub one_line : (o : Opening) (h : History) (from : Origin) (station : ℕ) (lines : List InputLine) (replies : List (List ℕ))
    → RoomTranscript o h from station lines replies → All HasNoLineFeed replies
one_line o h from station lines replies t =
    All-weaker (IsReplyOf h) HasNoLineFeed (λ reply r. no_feeds reply (plain_reply h reply r)) replies (replies_of o h from station lines replies t)

-- how they are sent
pub sent_so : (replies : List (List ℕ)) → sent replies ≡ sent_replies replies
sent_so [] = refl
sent_so (reply ∷ replies) = ap (λ (more : List ℕ). (reply ++ codes "\n") ++ more) (sent_so replies)
