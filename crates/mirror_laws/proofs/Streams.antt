-- What a stream of replies tells of a history.
use Rattle.std.proofs.Common.{◌≡◌, ℕ, zero, suc, ◌<◌, ◌≤◌, ◌^◌, ◌⊎◌, inl, inr, List, [], ◌∷◌, ◌++◌, All, true, false, Option, Some, None, length, slice_get, take, refl, sym, ap, ◌∙◌, subst, arith, codes}
use Rattle.std.specs.Fmt.{decimal}
use Rattle.std.proofs.lemmas.List.Elements.{All-nil, All-cons, All-head, All-tail}
use Rattle.line_words.specs.Blanks.{words_of}
use Rattle.line_words.specs.Lines.{Line as InputLine, ended_line, limited, lines_of}
use Rattle.cut_steps.specs.CutSteps.{CutStep}
use Rattle.follow_command.specs.Fronts.{AreOf}
use Rattle.follow_command.specs.NewsLines.{Item, NewsOf, Tells, entry_before, is_news_line, item_before, leads_news}
use Rattle.journal_text.specs.Journals.{HasLine}
use Rattle.journal_text.specs.NewsTexts.{IsNews, IsThere, news_text_of, there_text}
use Rattle.journal_text.specs.declared.news_reply.News.{News}
use Rattle.journal_text.proofs.NewsLaws.{fit_lines, one_news}
use Rattle.room_core.specs.declared.entry.Entry.{Entry}
use Rattle.reply_laws.proofs.PlainSteps.{told}
use Rattle.reply_laws.proofs.PlainTexts.{is_plain}
use Rattle.mirror_laws.specs.Told.{IsNewsOf, IsReplyOf, sent_replies}
use Rattle.mirror_laws.proofs.Lines.{first_line, passed, short}
use Rattle.mirror_laws.proofs.Others.{leads_by, other}

-- ---- the entry at a place of a history

past : {A : Type 0} (xs : List A) (n k : ℕ) → n ≤ k → slice_get (take n xs) k ≡ None
past xs zero k h = refl
past [] (suc n) k h = refl
past (x ∷ xs) (suc n) zero h = absurd (omega (arith, h))
past (x ∷ xs) (suc n) (suc k) h = past xs n k (omega (arith, h))

among : {A : Type 0} (xs : List A) (n k : ℕ) → k < n → slice_get (take n xs) k ≡ slice_get xs k
among xs zero k h = absurd (omega (arith, h))
among [] (suc n) k h = refl
among (x ∷ xs) (suc n) zero h = refl
among (x ∷ xs) (suc n) (suc k) h = among xs n k (omega (arith, h))

held : (xs : List (Entry CutStep)) (k : ℕ) → k < length xs → All HasLine xs → (e : Entry CutStep) × (slice_get xs k ≡ Some e) × HasLine e
held [] k h all = absurd (omega (arith, h))
held (x ∷ xs) zero h all = (x, refl, All-head HasLine x xs all)
held (x ∷ xs) (suc k) h all = held xs k (omega (arith, h)) (All-tail HasLine x xs all)

-- ---- news of the history

abbrev pub news_of : ℕ → ℕ → Option (Entry CutStep) → News
news_of place count entry = record { place = place; length = count; entry = entry }

-- what was told at a place: the entry there, or none
abbrev pub IsAt : List (Entry CutStep) → ℕ → Option (Entry CutStep) → Type 0
IsAt h place None = Unit {0}
IsAt h place (Some e) = slice_get h place ≡ Some e

record Told (h : List (Entry CutStep)) (place count : ℕ) (entry : Option (Entry CutStep)) : Type 0 where
  there : IsThere place count entry
  at : IsAt h place entry

by_place : (h : List (Entry CutStep)) (place count : ℕ) → count ≤ length h → All HasLine h → (place < count) ⊎ (count ≤ place)
    → Told h place count (slice_get (take count h) place)
by_place h place count within all (inl l) =
    let e = held h place (omega (arith, l, within)) all in
    subst (Told h place count) (sym (among h count place l ∙ e.1)) (record { there = (l, e.2); at = e.1 })
by_place h place count within all (inr l) =
    subst (Told h place count) (sym (past h count place l)) (record { there = l; at = tt })

below_or : (a b : ℕ) → (a < b) ⊎ (b ≤ a)
below_or a zero = inr (omega arith)
below_or zero (suc b) = inl (omega arith)
below_or (suc a) (suc b) = elim (below_or a b) [ inl l ↦ inl (omega (arith, l)) | inr l ↦ inr (omega (arith, l)) ]

pub leads : (place count : ℕ) (entry : Option (Entry CutStep)) → leads_news (words_of (news_text_of place count entry)) ≡ true
leads place count entry = leads_by (codes "news") (decimal place ++ codes " " ++ decimal count ++ there_text entry) (omega arith) refl

-- what a line tells that is this news
tells : (h : List (Entry CutStep)) (place count : ℕ) (entry : Option (Entry CutStep)) (line : InputLine) (others items : List Item)
    → place < 2 ^ 32 → count < 2 ^ 32 → Told h place count entry → line ≡ Some (news_text_of place count entry)
    → Tells line others items → AreOf h others → AreOf h items
tells h place count entry line others items p c t is (inl none) are =
    absurd (Prim.grind (arith, sym (ap is_news_line is ∙ leads place count entry) ∙ none.0))
tells h place count entry line others items p c t is (inr n) are =
    let sound : IsNews (news_of place count entry) = record { place = p; length = c; there = t.there } in
    let text : news_text_of n.0.place n.0.length n.0.entry ≡ news_text_of place count entry = some_one _ _ (sym n.1.text ∙ is) in
    let same : n.0 ≡ news_of place count entry = one_news n.0 (news_of place count entry) n.1.sound sound text in
    subst (AreOf h) (sym (n.2 ∙ ap (λ (m : News). entry_before m others) same)) (with_item entry t.at)
  where
    some_one : {A : Type 0} (x y : A) → Some x ≡ Some y → x ≡ y
    some_one x y e = Prim.grind (arith, e)

    with_item : (entry : Option (Entry CutStep)) → IsAt h place entry → AreOf h (item_before place entry others)
    with_item None at = are
    with_item (Some e) at = All-cons (λ (i : Item). slice_get h i.0 ≡ Some i.1) (place, e) others at are

-- ---- all replies

none_told : (h : List (Entry CutStep)) (line : InputLine) (others items : List Item) → is_news_line line ≡ false → Tells line others items → AreOf h others → AreOf h items
none_told h line others items not (inl t) are = subst (AreOf h) (sym t.1) are
none_told h line others items not (inr n) are =
    absurd (Prim.grind (arith, sym (ap is_news_line n.1.text ∙ leads n.0.place n.0.length n.0.entry) ∙ not))

-- the line that a reply with news is
pub record IsRead (h : List (Entry CutStep)) (reply : List ℕ) : Type 0 where
  pub news : News
  pub sound : IsNews news
  pub line : ended_line (limited reply) ≡ Some (news_text_of news.place news.length news.entry)
  pub at : IsAt h news.place news.entry

pub read : (h : List (Entry CutStep)) (reply : List ℕ) → All HasLine h → length h < 2 ^ 32 → IsNewsOf h reply → IsRead h reply
read h reply all few n =
    let entry = slice_get (take n.count h) n.place in
    let there = by_place h n.place n.count n.within all (below_or n.place n.count) in
    let p : n.place < 2 ^ 32 = omega (arith, n.place_within, n.within, few) in
    let c : n.count < 2 ^ 32 = omega (arith, n.within, few) in
    let sound : IsNews (news_of n.place n.count entry) = record { place = p; length = c; there = there.there } in
    let fit = fit_lines (news_of n.place n.count entry) sound in
    record {
      news = news_of n.place n.count entry;
      sound = sound;
      line = ap (λ (r : List ℕ). ended_line (limited r)) n.reply_is
          ∙ short (news_text_of n.place n.count entry) (told n.place n.count entry) fit.short;
      at = there.at;
    }

pub one_reply : (h : List (Entry CutStep)) (reply : List ℕ) (others items : List Item) → All HasLine h → length h < 2 ^ 32 → IsReplyOf h reply
    → Tells (ended_line (limited reply)) others items → AreOf h others → AreOf h items
one_reply h reply others items all few (inr r) t are =
    let o = other reply r in none_told h (ended_line (limited reply)) others items (passed reply o.plain o.leads) t are
one_reply h reply others items all few (inl n) t are =
    let r = read h reply all few n in
    tells h r.news.place r.news.length r.news.entry (ended_line (limited reply)) others items r.sound.place r.sound.length
    (record { there = r.sound.there; at = r.at }) r.line t are

pub plain_reply : (h : List (Entry CutStep)) (reply : List ℕ) → IsReplyOf h reply → is_plain reply ≡ true
plain_reply h reply (inl n) = ap is_plain n.reply_is ∙ told n.place n.count (slice_get (take n.count h) n.place)
plain_reply h reply (inr r) = (other reply r).plain

pub are_of : (h : List (Entry CutStep)) (replies : List (List ℕ)) (items : List Item) → All HasLine h → length h < 2 ^ 32 → All (IsReplyOf h) replies
    → NewsOf (lines_of (sent_replies replies)) items → AreOf h items
are_of h [] items all few are t = subst (AreOf h) (sym t) (All-nil (λ (i : Item). slice_get h i.0 ≡ Some i.1))
are_of h (reply ∷ replies) items all few are t =
    let first = All-head (IsReplyOf h) reply replies are in
    let u = subst (λ (ls : List InputLine). NewsOf ls items) (first_line reply replies (plain_reply h reply first)) t in
    one_reply h reply u.0 items all few first u.2 (are_of h replies u.0 all few (All-tail (IsReplyOf h) reply replies are) u.1)
