-- Of the replies of a room, only a gap is refused.
use Rattle.std.proofs.Common.{◌≡◌, ℕ, ◌+◌, ◌-◌, ◌<◌, ◌^◌, ◌⊎◌, inl, inr, List, [], ◌∷◌, ◌++◌, All, true, false, Option, Some, None, IfSome, length, slice_get, take, drop, refl, sym, ap, ◌∙◌, subst, arith, append_assoc, codes}
use Rattle.std.specs.Option.{IsSomeAnd}
use Rattle.std.proofs.lemmas.List.{take-append-drop}
use Rattle.std.proofs.lemmas.List.Elements.{All-nil, All-head, All-tail}
use Rattle.command_files.specs.Ports.{InputTold}
use Rattle.cut_mirror.specs.Mirrors.{IsMirrorOf}
use Rattle.cut_mirror.specs.declared.fault.MirrorFault.{MirrorFault}
use Rattle.cut_mirror.specs.declared.fault.MirrorFault.TheVariants as fault
use Rattle.cut_steps.specs.CutSteps.{CutObject, CutStep, fresh_tracks, stepping}
use Rattle.cut_steps.proofs.Left.{can_open}
use Rattle.edit_apply.specs.RoomTracks.{IsOpening}
use Rattle.follow_command.specs.Follows.{FirstRefused}
use Rattle.follow_command.specs.Fronts.{AreOf}
use Rattle.follow_command.specs.Goes.{CutMirror, Goes, cut_meaning, cut_opens, first_mirror}
use Rattle.follow_command.specs.NewsLines.{IsNewsLine, IsNoNewsLine, Item, NewsOf, Tells, is_news_line}
use Rattle.follow_command.specs.Refusals.{Refuses, RefusesNews, refusal_of}
use Rattle.follow_command.specs.declared.refusal.StreamRefusal.{StreamRefusal}
use Rattle.follow_command.specs.declared.refusal.StreamRefusal.TheVariants.{Gap}
use Rattle.follow_command.proofs.FrontLaws.{front, never}
use Rattle.input_lines.specs.Inputs.{most_input}
use Rattle.journal_text.specs.Journals.{HasLine}
use Rattle.journal_text.specs.NewsTexts.{news_text_of}
use Rattle.journal_text.specs.declared.news_reply.News.{News}
use Rattle.journal_text.proofs.NewsLaws.{one_news}
use Rattle.line_words.specs.Lines.{Line as InputLine, ended_line, last_line, limited, lines_of}
use Rattle.line_words.specs.Pieces.{ended, pending_after}
use Rattle.line_words.proofs.PieceLaws.{ended-append, lines_of_lem, pending_after-append}
use Rattle.otio_json.specs.declared.opening.Opening.{Opening}
use Rattle.room_core.specs.History.{IsLegal}
use Rattle.room_core.specs.Whole.{whole}
use Rattle.room_core.specs.declared.entry.Entry.{Entry}
use Rattle.mirror_laws.specs.Told.{IsReplyOf, sent_replies}
use Rattle.mirror_laws.proofs.Lines.{first_line, passed}
use Rattle.mirror_laws.proofs.Others.{other}
use Rattle.mirror_laws.proofs.Streams.{IsAt, leads, one_reply, plain_reply, read}

-- ---- the lines before the one that is refused, and that one

some_one : {A : Type 0} (x y : A) → Some x ≡ Some y → x ≡ y
some_one x y e = Prim.grind (arith, e)

head_is : {A : Type 0} (x y : A) (xs ys : List A) → x ∷ xs ≡ y ∷ ys → x ≡ y
head_is x y xs ys e = Prim.grind (arith, e)

tail_is : {A : Type 0} (x y : A) (xs ys : List A) → x ∷ xs ≡ y ∷ ys → xs ≡ ys
tail_is x y xs ys e = Prim.grind (arith, e)

module _ (h : List (Entry CutStep)) (all : All HasLine h) (few : length h < 2 ^ 32) where
  -- lines before one of replies, and that one
  record Found (before : List InputLine) (line : InputLine) : Type 0 where
    told : (items : List Item) → NewsOf before items → AreOf h items
    reply : List ℕ
    is : IsReplyOf h reply
    line_is : line ≡ ended_line (limited reply)

  find : (replies : List (List ℕ)) → All (IsReplyOf h) replies → (before : List InputLine) (line : InputLine) (more : List InputLine)
      → lines_of (sent_replies replies) ≡ before ++ line ∷ more → Found before line
  find [] are [] line more e = cc
  find [] are (b ∷ bs) line more e = cc
  find (r ∷ rs) are [] line more e =
      let first = All-head (IsReplyOf h) r rs are in
      let same = sym (first_line r rs (plain_reply h r first)) ∙ e in
      record {
        told = λ items t. subst (AreOf h) (sym t) (All-nil (λ (i : Item). slice_get h i.0 ≡ Some i.1));
        reply = r;
        is = first;
        line_is = sym (head_is (ended_line (limited r)) line (lines_of (sent_replies rs)) more same);
      }
  find (r ∷ rs) are (b ∷ bs) line more e =
      let first = All-head (IsReplyOf h) r rs are in
      let same = sym (first_line r rs (plain_reply h r first)) ∙ e in
      let here = head_is (ended_line (limited r)) b (lines_of (sent_replies rs)) (bs ++ line ∷ more) same in
      let later = find rs (All-tail (IsReplyOf h) r rs are) bs line more (tail_is (ended_line (limited r)) b (lines_of (sent_replies rs)) (bs ++ line ∷ more) same) in
      record {
        told = λ items t. one_reply h r t.0 items all few first (subst (λ (l : InputLine). Tells l t.0 items) (sym here) t.2) (later.told t.0 t.1);
        reply = later.reply;
        is = later.is;
        line_is = later.line_is;
      }

  -- ---- why it is refused

  true_false : true ≡ false → ⊥
  true_false e = Prim.grind (arith, e)

  news_leads : (line : InputLine) (news : News) → IsNewsLine line news → is_news_line line ≡ true
  news_leads line news n = ap is_news_line n.text ∙ leads news.place news.length news.entry

  first_is : (o : Opening) → IsOpening o.table o.tracks → IsMirrorOf cut_meaning cut_opens (fresh_tracks o.tracks) (first_mirror o)
  first_is o opens = record {
    opens_so = can_open o.table o.tracks opens;
    legal = record { within = omega arith; applies = refl; rise = tt };
    comes = refl;
  }

  gap_of : (why : MirrorFault) (point : ℕ) (refusal : StreamRefusal) → refusal_of why ≡ Some refusal → (why ≡ fault.Gap point) ⊎ (why ≡ fault.Memory)
      → (at : ℕ) × (refusal ≡ Gap at)
  gap_of why point refusal is (inl g) = (point, some_one refusal (Gap point) (sym is ∙ ap refusal_of g))
  gap_of why point refusal is (inr m) = absurd (Prim.grind (arith, sym is ∙ ap refusal_of m))

  module _ (o : Opening) (opens : IsOpening o.table o.tracks) (legal : IsLegal (whole (stepping o.table)) (fresh_tracks o.tracks) h) where
    of_news : (there : CutMirror) (before : List InputLine) (line : InputLine) (news : News) (refusal : StreamRefusal) → Goes (first_mirror o) there before
        → Found before line → IsAt h news.place news.entry → RefusesNews there news refusal → (point : ℕ) × (refusal ≡ Gap point)
    of_news there before line news refusal goes found at z =
        let f = front h [] there.entries goes.0 (h, refl) (found.told goes.0 goes.1) goes.2.follows in
        let m = goes.2.mirror (fresh_tracks o.tracks) (first_is o opens) in
        let here = subst (λ (x : CutObject). IsLegal (whole (cut_meaning x)) (fresh_tracks o.tracks) h) (sym goes.2.object) legal in
        gap_of z.0 (length there.entries) refusal z.1
        (never (cut_meaning there.object) (fresh_tracks o.tracks) h there news.place z.2 z.0 here m.comes f (subst (IsAt h news.place) z.3 at) z.4)

    refused_so : (there : CutMirror) (before : List InputLine) (line : InputLine) (n : ℕ) (refusal : StreamRefusal) → Goes (first_mirror o) there before
        → (found : Found before line) → (r : List ℕ) → line ≡ ended_line (limited r) → IsReplyOf h r → Refuses there n line refusal → (point : ℕ) × (refusal ≡ Gap point)
    refused_so there before line n refusal goes found r is (inr k) (inl p) =
        let x = other r k in absurd (true_false (sym p.1 ∙ (ap is_news_line is ∙ passed r x.plain x.leads)))
    refused_so there before line n refusal goes found r is (inr k) (inr q) =
        let x = other r k in absurd (true_false (sym (news_leads line q.0 q.1) ∙ (ap is_news_line is ∙ passed r x.plain x.leads)))
    refused_so there before line n refusal goes found r is (inl w) (inl p) =
        let x = read h r all few w in
        absurd (subst IsNoNewsLine (is ∙ x.line) p.2 x.news x.sound refl)
    refused_so there before line n refusal goes found r is (inl w) (inr q) =
        let x = read h r all few w in
        let text = some_one (news_text_of q.0.place q.0.length q.0.entry) (news_text_of x.news.place x.news.length x.news.entry) (sym q.1.text ∙ (is ∙ x.line)) in
        let same = one_news q.0 x.news q.1.sound x.sound text in
        of_news there before line x.news refusal goes found x.at (subst (λ (m : News). RefusesNews there m refusal) same q.2)

    -- ---- where it is refused

    given : (before after : Option (List ℕ)) (bytes text : List ℕ) → IfSome before (λ old. IsSomeAnd after (λ now. old ≡ bytes ++ now)) → before ≡ Some text
        → (now : List ℕ) × (text ≡ bytes ++ now)
    given None after bytes text g e = absurd (Prim.grind (arith, e))
    given (Some b) None bytes text g e = absurd g
    given (Some b) (Some x) bytes text g e = (x, sym (some_one b text e) ∙ g)

    all_of : (before : Option (List ℕ)) (rest : Type 0) (got text : List ℕ) → IfSome before (λ bytes. (bytes ≡ got) × rest) → before ≡ Some text → got ≡ text
    all_of None rest got text g e = absurd (Prim.grind (arith, e))
    all_of (Some b) rest got text g e = sym g.0 ∙ some_one b text e

    in_order : (e f : List InputLine) (l : InputLine) (others r last : List InputLine) → (e ++ ((f ++ l ∷ others) ++ r)) ++ last ≡ (e ++ f) ++ l ∷ (others ++ (r ++ last))
    in_order e f l others r last = simp append_assoc refl

    lines_so : (taken piece now : List ℕ) (k : ℕ) (earlier : List InputLine) (line : InputLine) (others : List InputLine)
        → ended (pending_after (Some []) taken) (take k piece) ≡ earlier ++ line ∷ others
        → (more : List InputLine) × (lines_of ((taken ++ piece) ++ now) ≡ (ended (Some []) taken ++ earlier) ++ line ∷ more)
    lines_so taken piece now k earlier line others among =
        let q = pending_after (Some []) taken in
        let first = take k piece in
        let rest = drop k piece ++ now in
        let text : (taken ++ piece) ++ now ≡ taken ++ (first ++ rest) =
        append_assoc taken piece now ∙ ap (λ t. taken ++ t) (ap (λ t. t ++ now) (sym (take-append-drop k piece)) ∙ append_assoc first (drop k piece) now) in
        let r = ended (pending_after q first) rest in
        let last = last_line (pending_after (Some []) (taken ++ (first ++ rest))) in
        let cut : ended (Some []) (taken ++ (first ++ rest)) ≡ ended (Some []) taken ++ ((earlier ++ line ∷ others) ++ r) =
        ended-append (Some []) taken (first ++ rest) ∙ ap (λ ls. ended (Some []) taken ++ ls) (ended-append q first rest ∙ ap (λ ls. ls ++ r) among) in (
          others ++ (r ++ last),
          ap lines_of text ∙ (lines_of_lem (taken ++ (first ++ rest)) ∙ (ap (λ ls. ls ++ last) cut ∙ in_order (ended (Some []) taken) earlier line others r last)),
        )

    none_waits : (replies : List (List ℕ)) → pending_after (Some []) (sent_replies replies) ≡ Some []
    none_waits [] = refl
    none_waits (r ∷ rs) =
        pending_after-append (Some []) (r ++ codes "\n") (sent_replies rs)
        ∙ (ap (λ p. pending_after p (sent_replies rs)) (pending_after-append (Some []) r (codes "\n")) ∙ none_waits rs)

    pub gaps : (replies : List (List ℕ)) (before after : InputTold) (refusal : StreamRefusal) → All (IsReplyOf h) replies → before.left ≡ Some (sent_replies replies)
        → FirstRefused (first_mirror o) refusal before after → (point : ℕ) × (refusal ≡ Gap point)
    gaps replies before after refusal are told (inl s) =
        let g = given before.left after.left (s.taken ++ s.piece) (sent_replies replies) s.gives told in
        let l = lines_so s.taken s.piece g.0 (most_input - length s.taken) s.earlier s.line s.among.0 s.among.1 in
        let found = find replies are (ended (Some []) s.taken ++ s.earlier) s.line l.0 (ap lines_of g.1 ∙ l.1) in
        refused_so s.stopped.0 (ended (Some []) s.taken ++ s.earlier) s.line (0 + length (ended (Some []) s.taken ++ s.earlier) + 1) refusal s.stopped.1 found found.reply found.line_is found.is s.stopped.2
    gaps replies before after refusal are told (inr s) =
        let got = all_of before.left (after.left ≡ Some []) s.got (sent_replies replies) s.gives told in
        let none = sym (ap last_line (ap (pending_after (Some [])) got ∙ none_waits replies)) ∙ s.last in
        absurd (Prim.grind (arith, none))
