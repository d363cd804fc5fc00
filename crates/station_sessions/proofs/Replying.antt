-- What a room did for a session's line, and what the reply to it says.
use Rattle.std.proofs.Common.{◌⊎◌, ⊎_elim, ◌≡◌, ℕ, max, ◌+◌, ◌<◌, ◌≤◌, inl, inr, List, [], ◌∷◌, ◌++◌, Vec, length, take, drop, zero, suc, Option, Some, None, Result, Ok, Err, IsSome, slice_get, option_map, fold, refl, sym, ap, ◌∙◌, arith, subst}
use Rattle.std.specs.Prelude.{codes, decimal, is_none, IfOk, IfSome, IsSomeAnd}
use Rattle.std.specs.Global.{Global}
use Rattle.std.proofs.lemmas.List.{append-nil, length-take}
use Rattle.std.proofs.lemmas.List.Sums.{fold-append}
use Rattle.cut_steps.specs.CutSteps.{CutStep, KeptTrack, stepping}
use Rattle.timecode12.specs.Numbers.{Counted}
use Rattle.edit_calls.specs.declared.asks.Ask.{Ask}
use Rattle.edit_calls.specs.declared.asks.Seen.{Seen}
use Rattle.edit_calls.specs.declared.asks.AskRefusal.{AskRefusal}
use Rattle.edit_apply.specs.See.{ask_part_of, seen_at, seen_if, seen_on}
use Rattle.edit_journal.specs.Seats.{Begins}
use Rattle.edit_journal.specs.Turns.{last_of}
use Rattle.room_core.specs.declared.entry.Entry.{Entry}
use Rattle.room_core.specs.History.{IsLegal, after_entry, most_entries, replay, state_in}
use Rattle.room_core.specs.Projection.{of_station}
use Rattle.room_core.specs.Whole.{whole}
use Rattle.cut_room.specs.declared.answers.Answer.TheVariants as answer
use Rattle.cut_room.specs.declared.answers.Sight.TheVariants as sight
use Rattle.edit_journal.specs.declared.log.CopyFault.{CopyFault}
use Rattle.edit_journal.specs.declared.log.CopyFault.TheVariants as fault
use Rattle.cut_room.specs.Rooms.{Edited, IsAtPoint, IsCut, IsExcerpt, Looked, Stays, told}
use Rattle.cut_room.specs.declared.answers.Excerpt.{Excerpt}
use Rattle.line_table.specs.CallTexts.{IsSmall, IsWrittenStep}
use Rattle.line_table.specs.declared.lines.Line.{Line}
use Rattle.line_words.specs.Lines.{Line as InputLine}
use Rattle.protocol_parts.specs.declared.line_fault.LineFault.{LineFault}
use Rattle.reply_text.specs.Replies.{EditAnswer, answer_text_of}
use Rattle.reply_text.specs.Sights.{TrackSight, sight_text_of}
use Rattle.journal_text.specs.NewsTexts.{news_text_of}
use Rattle.composables.specs.TrackState.{TrackState}
use Rattle.take_back.specs.Parts.{nows}
use Rattle.take_back.specs.Steps.{asked_by}
use Rattle.station_sessions.specs.DocumentReplies.{document_reply, no_point_reply}
use Rattle.station_sessions.specs.Rooms.{History, AreWritten, document_of, finds_memory, room_of, seen_of, wish_in}
use Rattle.station_sessions.specs.Session.{Grows, HasGrown, HasHeld, IsCutReply, IsMeant, IsNewsReply, IsReplyIfMemory, IsSightReply, IsWithin, RepliesTo, RepliesWith, StationState, Step, answer_tells, sight_tells}
use Rattle.station_sessions.specs.SessionInside.{Holding, IsSeated, IsSession, TrackPass, TrackRoom, course_at, or_opening, session_at, setting_at, tracks_at}
use Rattle.station_sessions.specs.Transcript.{Wish, Do, See, Point, Write, News, Bad}
use Rattle.station_sessions.proofs.Transcripts.{nothing_behind, own_append}

written_more : (h : History) (e : Entry CutStep) → IsSmall e.number × (e.call.by ≡ e.station) × IsWrittenStep e.call → AreWritten h → AreWritten (h ++ e ∷ [])
written_more [] e w all = (w, tt)
written_more (f ∷ fs) e w all = (all.0, written_more fs e w all.1)

-- what a list comes to
comes_or : (opening : List KeptTrack) (o : Option (List KeptTrack)) → IsSome o → o ≡ Some (or_opening opening o)
comes_or opening None h = absurd (Prim.grind (arith, h))
comes_or opening (Some tracks) h = refl

pub comes : (room : TrackRoom) (h : History) → IsLegal (whole (stepping room.object.object.table)) room.parts h → replay (whole (stepping room.object.object.table)) room.parts h ≡ Some (tracks_at room h)
comes room h legal = comes_or room.parts (replay (whole (stepping room.object.object.table)) room.parts h) legal.applies

tracks_are : (room : TrackRoom) (h : History) (tracks : List KeptTrack) → replay (whole (stepping room.object.object.table)) room.parts h ≡ Some tracks → tracks_at room h ≡ tracks
tracks_are room h tracks is = ap (or_opening room.parts) is

-- a station that knows more entries than before, none of them its own
grown : (room : TrackRoom) (counting : Counted) (start held later line station : ℕ) (before after : History) → held ≤ later → IsLegal (whole (stepping room.object.object.table)) room.parts before
    → IsLegal (whole (stepping room.object.object.table)) room.parts after → Begins after before → of_station station after ≡ of_station station before
    → Grows (room_of (setting_at room counting start)) station (course_at room before held line) (course_at room after later line)
grown room counting start held later line station before after more was is front same =
    let apply = whole (stepping room.object.object.table) in
    let rest = front.0 in
    let all : of_station station before ++ of_station station rest ≡ of_station station before =
    sym (own_append station before rest) ∙ (ap (λ (l : History). of_station station l) (sym front.1) ∙ same) in
    let state : replay apply (tracks_at room before) rest ≡ Some (tracks_at room after) =
    ap (λ (o : Option (List KeptTrack)). fold (after_entry apply) o rest) (sym (comes room before was))
    ∙ (sym (fold-append (after_entry apply) (Some room.parts) before rest)
    ∙ (ap (λ (l : History). replay apply room.parts l) (sym front.1) ∙ comes room after is)) in
    record {
      more = rest;
      opening = refl;
      journal = front.1;
      others = nothing_behind (of_station station before) (of_station station rest) all;
      state = state;
      rise = is.rise;
      within = is.within;
      held = more;
      line = refl;
    }

-- the point that is told is that of all entries, or that of those which are kept
pub told_least : (kept : Option ℕ) (held point n : ℕ) → IfSome kept (λ k. k ≡ held) → (point ≡ n) ⊎ IsSomeAnd kept (λ k. k ≡ point) → (point ≡ n) ⊎ (held ≡ point)
told_least kept held point n is (inl all) = inl all
told_least None held point n is (inr that) = absurd that
told_least (Some k) held point n is (inr that) = inr (sym is ∙ that)

-- a reply behind what others committed, which commits nothing
replied : (room : TrackRoom) (before after : TrackPass) (counting : Counted) (start : ℕ) (holding : Holding) (line : ℕ) (wish : Wish CutStep Ask) (text : List ℕ) (tells : ℕ) → IsSeated room line before
    → Stays (stepping room.object.object.table) room.parts before after → tells ≤ most_entries
    → (let s = session_at room (Some after) counting start holding line in Step (room_of s.setting) before.number s.course s.course text tells wish (finds_memory room.object.object.table wish))
    → RepliesWith (session_at room (Some before) counting start holding line) (session_at room (Some after) counting start holding (line + 1)) wish text tells
replied room before after counting start holding line wish text tells seated stays within step = record {
  setting = refl;
  station = stays.goes_on.number_is;
  written = λ w. subst AreWritten (sym stays.own) w;
  met = course_at room after.entries holding.held line;
  grows = grown room counting start holding.held holding.held line before.number before.entries after.entries (omega arith) seated.legal (stays.goes_on.legal seated.legal) stays.goes_on.front stays.own;
  answered = course_at room after.entries holding.held line;
  step = step;
  within = within;
  passed = refl;
  line = refl;
}

-- nothing happened
unmoved : (room : TrackRoom) (pass : TrackPass) → Stays (stepping room.object.object.table) room.parts pass pass
unmoved room pass = record { goes_on = record { number_is = refl; opening_is = refl; front = ([], sym (append-nil pass.entries)); legal = λ h. h }; own = refl }

-- the pass knows what others committed
pub has_grown : (room : TrackRoom) (before after : TrackPass) (counting : Counted) (start : ℕ) (holding : Holding) (line : ℕ) → IsSeated room line before
    → Stays (stepping room.object.object.table) room.parts before after
    → HasGrown (session_at room (Some before) counting start holding line) (session_at room (Some after) counting start holding line)
has_grown room before after counting start holding line seated stays = record {
  setting = refl;
  station = stays.goes_on.number_is;
  written = λ w. subst AreWritten (sym stays.own) w;
  line = refl;
  grows = grown room counting start holding.held holding.held line before.number before.entries after.entries (omega arith) seated.legal (stays.goes_on.legal seated.legal) stays.goes_on.front stays.own;
}

pub unmoved_grown : (room : TrackRoom) (pass : Option TrackPass) (counting : Counted) (start : ℕ) (holding : Holding) (line : ℕ) → IsSession room line pass
    → HasGrown (session_at room pass counting start holding line) (session_at room pass counting start holding line)
unmoved_grown room None counting start holding line seated = absurd seated
unmoved_grown room (Some pass) counting start holding line seated = has_grown room pass pass counting start holding line seated (unmoved room pass)

pub grown_seated : (room : TrackRoom) (before after : TrackPass) (line : ℕ) → IsSeated room line before → Stays (stepping room.object.object.table) room.parts before after → IsSeated room line after
grown_seated room before after line seated stays =
    let last : last_of after.number after.entries ≡ last_of before.number before.entries =
    ap (λ (n : ℕ). last_of n after.entries) stays.goes_on.number_is ∙ ap (λ (l : History). fold (λ m e. max m e.number) 0 l) stays.own in
    record { legal = stays.goes_on.legal seated.legal; before = omega (arith, last, seated.before) }

-- the reply to a line that is none of the table
pub bad_replied : (room : TrackRoom) (pass : Option TrackPass) (counting : Counted) (start : ℕ) (holding : Holding) (line : ℕ) (fault text : List ℕ) → IsSession room line pass → text ≡ fault
    → RepliesWith (session_at room pass counting start holding line) (session_at room pass counting start holding (line + 1)) (Bad fault) text 0
bad_replied room None counting start holding line fault text seated is = absurd seated
bad_replied room (Some pass) counting start holding line fault text seated is =
    replied room pass pass counting start holding line (Bad fault) text 0 seated (unmoved room pass) (omega arith) (inl (record { same = refl; reply_is = is; tells_are = refl }))

-- the session can go on with its pass
seated_stays : (room : TrackRoom) (before after : TrackPass) (line : ℕ) → IsSeated room line before → Stays (stepping room.object.object.table) room.parts before after → IsSeated room (line + 1) after
seated_stays room before after line seated stays =
    let last : last_of after.number after.entries ≡ last_of before.number before.entries =
    ap (λ (n : ℕ). last_of n after.entries) stays.goes_on.number_is ∙ ap (λ (l : History). fold (λ m e. max m e.number) 0 l) stays.own in
    record { legal = stays.goes_on.legal seated.legal; before = omega (arith, last, seated.before) }

-- the session has its pass
pub has_pass : (room : TrackRoom) (pass : Option TrackPass) (line : ℕ) → IsSession room line pass → IsSome pass
has_pass room None line seated = absurd seated
has_pass room (Some pass) line seated = refl

pub same_seated : (room : TrackRoom) (pass : Option TrackPass) (line : ℕ) → IsSession room line pass → IsSession room (line + 1) pass
same_seated room None line seated = seated
same_seated room (Some pass) line seated = seated_stays room pass pass line seated (unmoved room pass)

module _ (room : TrackRoom) (before after : TrackPass) (counting : Counted) (start : ℕ) (holding : Holding) (line : ℕ) (seated : IsSeated room line before) where
  pub edit_replied : (c : CutStep) (a : EditAnswer) (text : List ℕ) (tells : ℕ) → IsSmall line × (c.by ≡ before.number) × IsWrittenStep c
      → Edited (stepping room.object.object.table) room.parts (record { station = before.number; number = line; call = c }) before after a → text ≡ answer_text_of a → tells ≡ answer_tells a
      → RepliesWith (session_at room (Some before) counting start holding line) (session_at room (Some after) counting start holding (line + 1)) (Do c) text tells
  edit_replied c (answer.Done n d) text tells w e is count =
      let apply = whole (stepping room.object.object.table) in
      let entry : Entry CutStep = record { station = before.number; number = line; call = c } in
      let next : tells ≡ n + 1 = count in
      let met_is : tracks_at room e.journal ≡ e.parts = tracks_are room e.journal e.parts e.comes in
      let now_is : tracks_at room after.entries ≡ e.now =
      tracks_are room after.entries e.now
      (ap (λ (l : History). replay apply room.parts l) e.entries_are
      ∙ (fold-append (after_entry apply) (Some room.parts) e.journal (entry ∷ []) ∙ (ap (λ (o : Option (List KeptTrack)). after_entry apply o entry) e.comes ∙ ap state_in e.applies))) in
      record {
        setting = refl;
        station = e.goes_on.number_is;
        written = λ all. subst AreWritten (sym e.own) (written_more (of_station before.number before.entries) entry w all);
        met = course_at room e.journal holding.held line;
        grows = grown room counting start holding.held holding.held line before.number before.entries e.journal (omega arith) seated.legal e.legal e.met e.others;
        answered = course_at room after.entries holding.held line;
        step = inl (inl (
          d,
          record {
            opening = refl;
            applies = rw (met_is, now_is) e.applies;
            journal = e.entries_are;
            room = omega (arith, e.point_is, e.room);
            held = refl;
            line = refl;
            reply_is = is ∙ ap (λ m. answer_text_of (answer.Done m d)) e.point_is;
            tells_are = omega (arith, next, e.point_is);
          },
        ));
        within = omega (arith, next, e.room);
        passed = refl;
        line = refl;
      }
  edit_replied c (answer.Refused n r) text tells w e is count =
      let same : tells ≡ n = count in
      replied room before after counting start holding line (Do c) text tells seated e.at.stays (omega (arith, same, e.at.point_is, e.at.legal.within)) (inl (inr (inl (
        r,
        record {
          refused = rw (tracks_are room after.entries e.parts e.comes) e.refused;
          same = refl;
          reply_is = is ∙ ap (λ m. answer_text_of (answer.Refused m r)) e.at.point_is;
          tells_are = same ∙ e.at.point_is;
        },
      ))))
  edit_replied c (answer.Full n) text tells w e is count =
      let same : tells ≡ n = count in
      replied room before after counting start holding line (Do c) text tells seated e.at.stays (omega (arith, same, e.full)) (inl (inr (inr (
        e.done,
        record {
          applies = rw (tracks_are room after.entries e.parts e.comes, e.applies) refl;
          full = sym e.at.point_is ∙ e.full;
          same = refl;
          reply_is = is ∙ ap (λ m. answer_text_of (answer.Full m)) e.full;
          tells_are = same ∙ e.full;
        },
      ))))
  edit_replied c answer.Memory text tells w e is count =
      let none : tells ≡ 0 = count in
      replied room before after counting start holding line (Do c) text tells seated e.0 (omega (arith, none)) (inr (ap is_none e.1, record { same = refl; reply_is = is; tells_are = none }))

  -- the step is the station's own
  pub own_edit_replied : (step c : CutStep) (a : EditAnswer) (text : List ℕ) (tells : ℕ) → c ≡ asked_by before.number step → IsSmall line → IsWrittenStep step
      → Edited (stepping room.object.object.table) room.parts (record { station = before.number; number = line; call = c }) before after a → text ≡ answer_text_of a → tells ≡ answer_tells a
      → RepliesWith (session_at room (Some before) counting start holding line) (session_at room (Some after) counting start holding (line + 1)) (Do (asked_by before.number step)) text tells
  own_edit_replied step c a text tells own small written e is count =
      subst (λ (x : CutStep). RepliesWith (session_at room (Some before) counting start holding line) (session_at room (Some after) counting start holding (line + 1)) (Do x) text tells) own
      (edit_replied c a text tells (small, ap (λ (x : CutStep). x.by) own, subst IsWrittenStep (sym own) written) e is count)

  -- an answer's point is one of a journal
  pub edit_within : (c : CutStep) (a : EditAnswer) → Edited (stepping room.object.object.table) room.parts (record { station = before.number; number = line; call = c }) before after a → IsWithin a
  edit_within c (answer.Done n d) e = let below : n < most_entries = e.room in omega (arith, below)
  edit_within c (answer.Refused n r) e = let within : n ≤ most_entries = omega (arith, e.at.point_is, e.at.legal.within) in within
  edit_within c (answer.Full n) e = let within : n ≤ most_entries = omega (arith, e.full) in within
  edit_within c answer.Memory e = let within : 0 ≤ most_entries = omega arith in within

  -- after an edit the session can go on
  pub edit_seated : (c : CutStep) (a : EditAnswer) → Edited (stepping room.object.object.table) room.parts (record { station = before.number; number = line; call = c }) before after a
      → IsSeated room (line + 1) after
  edit_seated c (answer.Done n d) e =
      let entry : Entry CutStep = record { station = before.number; number = line; call = c } in
      let last : last_of after.number after.entries ≡ max (last_of before.number before.entries) line =
      ap (λ (n : ℕ). last_of n after.entries) e.goes_on.number_is
      ∙ (ap (λ (l : History). fold (λ m e. max m e.number) 0 l) e.own
      ∙ fold-append (λ m e. max m e.number) 0 (of_station before.number before.entries) (entry ∷ [])) in
      record { legal = e.goes_on.legal seated.legal; before = omega (arith, last, seated.before) }
  edit_seated c (answer.Refused n r) e = seated_stays room before after line seated e.at.stays
  edit_seated c (answer.Full n) e = seated_stays room before after line seated e.at.stays
  edit_seated c answer.Memory e = seated_stays room before after line seated e.0

  -- a point that is told, with as many entries or more known to be kept
  pub point_replied : (later : Holding) (n point : ℕ) (text : List ℕ) → holding.held ≤ later.held → IsAtPoint (stepping room.object.object.table) room.parts before after n → point ≤ n
      → (point ≡ n) ⊎ (later.held ≡ point) → text ≡ codes "point " ++ decimal point
      → RepliesWith (session_at room (Some before) counting start holding line) (session_at room (Some after) counting start later (line + 1)) Point text point
  point_replied later n point text more e below least is = record {
    setting = refl;
    station = e.stays.goes_on.number_is;
    written = λ w. subst AreWritten (sym e.stays.own) w;
    met = course_at room after.entries later.held line;
    grows = grown room counting start holding.held later.held line before.number before.entries after.entries more seated.legal (e.stays.goes_on.legal seated.legal) e.stays.goes_on.front e.stays.own;
    answered = course_at room after.entries later.held line;
    step = inl (
      point,
      record {
        within = omega (arith, e.point_is, below);
        least = ⊎_elim (λ (all : point ≡ n). inl (all ∙ e.point_is)) (λ (kept : later.held ≡ point). inr (omega (arith, kept))) least;
        same = refl;
        reply_is = is;
        tells_are = refl;
      },
    );
    within = omega (arith, e.point_is, e.legal.within, below);
    passed = refl;
    line = refl;
  }

  pub point_seated : (n : ℕ) → IsAtPoint (stepping room.object.object.table) room.parts before after n → IsSeated room (line + 1) after
  point_seated n e = seated_stays room before after line seated e.stays

-- the first of what stands from a place on is what stands there
first_of : (n : ℕ) (es : List (Entry CutStep)) → slice_get (take 1 (drop n es)) 0 ≡ slice_get es n
first_of zero [] = refl
first_of zero (e ∷ es) = refl
first_of (suc n) [] = refl
first_of (suc n) (e ∷ es) = first_of n es

-- what one track shows is what the room shows of it
some_same : {A : Type 0} (a b : A) → ◌≡◌ {A = Option A} (Some a) (Some b) → a ≡ b
some_same a b h = cc

now_at : (ks : List KeptTrack) (n : ℕ) → slice_get (nows ks) n ≡ option_map (λ (k : KeptTrack). k.now) (slice_get ks n)
now_at [] zero = refl
now_at [] (suc n) = refl
now_at (k ∷ ks) zero = refl
now_at (k ∷ ks) (suc n) = now_at ks n

seen_there : (o : Option KeptTrack) (q : Ask) (r : Result Seen AskRefusal) → option_map (λ (k : KeptTrack). seen_on k.now q) o ≡ Some r → seen_at (option_map (λ (k : KeptTrack). k.now) o) q ≡ r
seen_there None q r h = absurd (Prim.grind (arith, h))
seen_there (Some k) q r h = some_same (seen_on k.now q) r h

seen_told : (asked : Result ℕ AskRefusal) (tracks : List KeptTrack) (q : Ask) (r : Result Seen AskRefusal) → told asked (λ (k : KeptTrack). seen_on k.now q) tracks ≡ Some r
    → seen_if asked (nows tracks) q ≡ r
seen_told (Ok n) tracks q r h = ap (λ (o : Option TrackState). seen_at o q) (now_at tracks n) ∙ seen_there (slice_get tracks n) q r h
seen_told (Err why) tracks q r h = some_same (Err why) r h

module _ (room : TrackRoom) (before after : TrackPass) (counting : Counted) (start : ℕ) (holding : Holding) (line : ℕ) (seated : IsSeated room line before) where
  ask_replied : (q : Ask) (s : TrackSight) (text : List ℕ) (tells : ℕ)
      → Looked (stepping room.object.object.table) room.parts (ask_part_of room.object.object.table q) (λ (k : KeptTrack). seen_on k.now q) before after s → text ≡ sight_text_of s → tells ≡ sight_tells s
      → RepliesWith (session_at room (Some before) counting start holding line) (session_at room (Some after) counting start holding (line + 1)) (See q) text tells
  ask_replied q (sight.Seen n seen) text tells e is count =
      let same : tells ≡ n = count in
      let there = seen_told (ask_part_of room.object.object.table q) (tracks_at room after.entries) q (Ok seen) (rw (tracks_are room after.entries e.parts e.comes) e.told_is) in
      replied room before after counting start holding line (See q) text tells seated e.at.stays (omega (arith, same, e.at.point_is, e.at.legal.within)) (inl (record {
        same = refl;
        reply_is = is ∙ (ap (λ m. sight_text_of (sight.Seen m seen)) e.at.point_is ∙ sym (ap (seen_of (length after.entries)) there));
        tells_are = same ∙ e.at.point_is;
      }))
  ask_replied q (sight.Refused n why) text tells e is count =
      let same : tells ≡ n = count in
      let there = seen_told (ask_part_of room.object.object.table q) (tracks_at room after.entries) q (Err why) (rw (tracks_are room after.entries e.parts e.comes) e.told_is) in
      replied room before after counting start holding line (See q) text tells seated e.at.stays (omega (arith, same, e.at.point_is, e.at.legal.within)) (inl (record {
        same = refl;
        reply_is = is ∙ (ap (λ m. sight_text_of (sight.Refused m why)) e.at.point_is ∙ sym (ap (seen_of (length after.entries)) there));
        tells_are = same ∙ e.at.point_is;
      }))
  ask_replied q sight.Memory text tells e is count =
      let none : tells ≡ 0 = count in
      replied room before after counting start holding line (See q) text tells seated e.0 (omega (arith, none)) (inr (refl, record { same = refl; reply_is = is; tells_are = none }))

  looked_stays : (q : Ask) (s : TrackSight) → Looked (stepping room.object.object.table) room.parts (ask_part_of room.object.object.table q) (λ (k : KeptTrack). seen_on k.now q) before after s
      → Stays (stepping room.object.object.table) room.parts before after
  looked_stays q (sight.Seen n seen) e = e.at.stays
  looked_stays q (sight.Refused n why) e = e.at.stays
  looked_stays q sight.Memory e = e.0

  -- the reply to a question, or to one for whose reply there was no memory
  pub sight_replied : (q : Ask) (s : TrackSight) (reply : List ℕ) (tells : ℕ)
      → Looked (stepping room.object.object.table) room.parts (ask_part_of room.object.object.table q) (λ (k : KeptTrack). seen_on k.now q) before after s → IsSightReply s reply tells
      → RepliesWith (session_at room (Some before) counting start holding line) (session_at room (Some after) counting start holding (line + 1)) (See q) reply tells
  sight_replied q s reply tells e (inl is) = ask_replied q s reply tells e is.0 is.1
  sight_replied q s reply tells e (inr is) =
      replied room before after counting start holding line (See q) reply tells seated (looked_stays q s e) (omega (arith, is.1)) (inr (refl, record { same = refl; reply_is = is.0; tells_are = is.1 }))

  pub sight_seated : (q : Ask) (s : TrackSight) → Looked (stepping room.object.object.table) room.parts (ask_part_of room.object.object.table q) (λ (k : KeptTrack). seen_on k.now q) before after s → IsSeated room (line + 1) after
  sight_seated q s e = seated_stays room before after line seated (looked_stays q s e)

  cut_stays : (n : ℕ) (r : Result (Vec KeptTrack Global) CopyFault) → IsCut (stepping room.object.object.table) room.parts n before after r → Stays (stepping room.object.object.table) room.parts before after
  cut_stays n (Ok tracks) e = e.0
  cut_stays n (Err (fault.NoPoint count)) e = e.0.stays
  cut_stays n (Err fault.Memory) e = e.0

  -- the reply with a document, or that there was no memory for it
  document_replied : (n : ℕ) (tracks : List KeptTrack) (reply : List ℕ) (tells : ℕ) → Stays (stepping room.object.object.table) room.parts before after → n ≤ length after.entries
      → replay (whole (stepping room.object.object.table)) room.parts (take n after.entries) ≡ Some tracks
      → IsReplyIfMemory (document_reply n (document_of (setting_at room counting start) (nows tracks))) n reply tells
      → RepliesWith (session_at room (Some before) counting start holding line) (session_at room (Some after) counting start holding (line + 1)) (Write n) reply tells
  document_replied n tracks reply tells stays within state (inl is) =
      let small : length after.entries ≤ most_entries = (stays.goes_on.legal seated.legal).within in
      replied room before after counting start holding line (Write n) reply tells seated stays (omega (arith, is.1, within, small))
      (inl (inl (tracks, record { within = within; state = state; same = refl; reply_is = is.0; tells_are = is.1 })))
  document_replied n tracks reply tells stays within state (inr is) =
      replied room before after counting start holding line (Write n) reply tells seated stays (omega (arith, is.1)) (inr (refl, record { same = refl; reply_is = is.0; tells_are = is.1 }))

  -- the reply to a wish for a document
  pub cut_replied : (n : ℕ) (r : Result (Vec KeptTrack Global) CopyFault) (reply : List ℕ) (tells : ℕ) → IsCut (stepping room.object.object.table) room.parts n before after r
      → IsCutReply (setting_at room counting start) n r reply tells
      → RepliesWith (session_at room (Some before) counting start holding line) (session_at room (Some after) counting start holding (line + 1)) (Write n) reply tells
  cut_replied n (Ok tracks) reply tells e is = document_replied n tracks.items reply tells e.0 e.1 e.2 is
  cut_replied n (Err (fault.NoPoint count)) reply tells e is =
      replied room before after counting start holding line (Write n) reply tells seated e.0.stays (omega (arith, is.1, e.0.point_is, e.0.legal.within))
      (inl (inr (record { past = omega (arith, e.0.point_is, e.1); same = refl; reply_is = is.0 ∙ ap no_point_reply e.0.point_is; tells_are = is.1 ∙ e.0.point_is })))
  cut_replied n (Err fault.Memory) reply tells e is =
      replied room before after counting start holding line (Write n) reply tells seated e.0 (omega (arith, is.1)) (inr (refl, record { same = refl; reply_is = is.0; tells_are = is.1 }))

  -- the reply with the entry at a place, or that there was no memory for it
  pub news_replied : (place : ℕ) (r : Result (Excerpt CutStep) CopyFault) (reply : List ℕ) (tells : ℕ) → IsExcerpt (stepping room.object.object.table) room.parts place 1 before after r
      → IsNewsReply place r reply tells
      → RepliesWith (session_at room (Some before) counting start holding line) (session_at room (Some after) counting start holding (line + 1)) (News place) reply tells
  news_replied place (Ok found) reply tells e (inl is) =
      let same : tells ≡ found.length = is.1 in
      replied room before after counting start holding line (News place) reply tells seated e.0.stays (omega (arith, same, e.0.point_is, e.0.legal.within))
      (inl (inl (record {
        within = omega (arith, e.0.point_is, e.1);
        same = refl;
        reply_is = is.0 ∙ (ap (λ m. news_text_of place m (slice_get found.entries.items 0)) e.0.point_is ∙ ap (news_text_of place (length after.entries)) (ap (λ (es : List (Entry CutStep)). slice_get es 0) e.2 ∙ first_of place after.entries));
        tells_are = same ∙ e.0.point_is;
      })))
  news_replied place (Ok found) reply tells e (inr is) =
      replied room before after counting start holding line (News place) reply tells seated e.0.stays (omega (arith, is.1)) (inr (refl, record { same = refl; reply_is = is.0; tells_are = is.1 }))
  news_replied place (Err (fault.NoPoint count)) reply tells e is =
      replied room before after counting start holding line (News place) reply tells seated e.0.stays (omega (arith, is.1, e.0.point_is, e.0.legal.within))
      (inl (inr (record { past = omega (arith, e.0.point_is, e.1); same = refl; reply_is = is.0 ∙ ap no_point_reply e.0.point_is; tells_are = is.1 ∙ e.0.point_is })))
  news_replied place (Err fault.Memory) reply tells e is =
      replied room before after counting start holding line (News place) reply tells seated e.0.stays (omega (arith, is.1)) (inr (refl, record { same = refl; reply_is = is.0; tells_are = is.1 }))

  few_found : (n : ℕ) (es found : List (Entry CutStep)) → found ≡ take 1 (drop n es) → length found ≤ 1
  few_found n es found is = omega (arith, ap length is, length-take 1 (drop n es))

  pub at_most_one : (place : ℕ) (r : Result (Excerpt CutStep) CopyFault) → IsExcerpt (stepping room.object.object.table) room.parts place 1 before after r
      → IfOk r (λ (e : Excerpt CutStep). length e.entries.items ≤ 1)
  at_most_one place (Ok found) e = few_found place after.entries found.entries.items e.2
  at_most_one place (Err fault) e = tt

  pub news_seated : (place : ℕ) (r : Result (Excerpt CutStep) CopyFault) → IsExcerpt (stepping room.object.object.table) room.parts place 1 before after r → IsSeated room (line + 1) after
  news_seated place (Ok found) e = seated_stays room before after line seated e.0.stays
  news_seated place (Err (fault.NoPoint count)) e = seated_stays room before after line seated e.0.stays
  news_seated place (Err fault.Memory) e = seated_stays room before after line seated e.0.stays

  pub cut_seated : (n : ℕ) (r : Result (Vec KeptTrack Global) CopyFault) → IsCut (stepping room.object.object.table) room.parts n before after r → IsSeated room (line + 1) after
  cut_seated n r e = seated_stays room before after line seated (cut_stays n r e)

-- the reply to what a line was read as is the reply to the line
pub told_line : (old new : StationState) (line : InputLine) (r : Result Line LineFault) (reply : List ℕ) (tells : ℕ) → IsMeant old.setting line r → RepliesWith old new (wish_in old.station r) reply tells
    → RepliesTo old new line reply tells
told_line old new line r reply tells (inl is) h = inl (subst (λ (x : Result Line LineFault). RepliesWith old new (wish_in old.station x) reply tells) is h)
told_line old new line r reply tells (inr (linking, none)) h = inr (linking, subst (λ (x : Result Line LineFault). RepliesWith old new (wish_in old.station x) reply tells) none h)

-- more entries are known to be kept, or a failure was counted
pub has_held : (room : TrackRoom) (pass : Option TrackPass) (counting : Counted) (start : ℕ) (before after : Holding) (line : ℕ) → before.held ≤ after.held
    → HasHeld (session_at room pass counting start before line) (session_at room pass counting start after line)
has_held room pass counting start before after line more = record { setting = refl; station = refl; more = more; course = refl }
