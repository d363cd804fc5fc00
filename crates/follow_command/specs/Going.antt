-- A mirror that goes on by lines goes on by more of them.
use Rattle.std.proofs.Common.{◌≡◌, ℕ, ◌+◌, ◌⊎◌, inl, inr, List, [], ◌∷◌, ◌++◌, All, Bool, true, false, Option, Some, None, length, refl, sym, ap, ◌∙◌, subst, arith, append_assoc}
use Rattle.std.proofs.lemmas.List.{length-append}
use Rattle.std.proofs.lemmas.List.Elements.{All-head, All-tail}
use Rattle.cut_mirror.specs.Following.{Follows, GoesOn}
use Rattle.cut_steps.specs.CutSteps.{CutStep}
use Rattle.journal_text.specs.declared.news_reply.News.{News}
use Rattle.line_words.specs.Lines.{Line as InputLine}
use Rattle.room_core.specs.declared.entry.Entry.{Entry}
use Rattle.follow_command.specs.Goes.{CutMirror, Goes, GoesBy}
use Rattle.follow_command.specs.NewsLines.{AreNoNews, IsNewsLine, Item, NewsOf, Tells, entry_before, is_news_line, item_before}

-- ---- what lines tell

before_more : (place : ℕ) (entry : Option (Entry CutStep)) (xs ys : List Item) → item_before place entry xs ++ ys ≡ item_before place entry (xs ++ ys)
before_more place None xs ys = refl
before_more place (Some e) xs ys = refl

tells_more : (line : InputLine) (others items more : List Item) → Tells line others items → Tells line (others ++ more) (items ++ more)
tells_more line others items more (inl p) = inl (p.0, ap (λ xs. xs ++ more) p.1)
tells_more line others items more (inr n) =
    inr (n.0, n.1, ap (λ xs. xs ++ more) n.2 ∙ before_more n.0.place n.0.entry others more)

pub news_more : (lines others : List InputLine) (xs ys : List Item) → NewsOf lines xs → NewsOf others ys → NewsOf (lines ++ others) (xs ++ ys)
news_more [] others xs ys h k = subst (λ zs. NewsOf others (zs ++ ys)) (sym h) k
news_more (line ∷ lines) others xs ys h k = (h.0 ++ ys, news_more lines others h.0 ys h.1 k, tells_more line h.0 xs ys h.2)

pub no_news : (lines : List InputLine) → AreNoNews lines → NewsOf lines []
no_news [] h = refl
no_news (line ∷ lines) h =
    ([], no_news lines (All-tail (λ l. is_news_line l ≡ false) line lines h), inl (All-head (λ l. is_news_line l ≡ false) line lines h, refl))

-- ---- what they come to

pub follows_more : (before there after : List (Entry CutStep)) (xs ys : List Item) → Follows before xs there → Follows there ys after → Follows before (xs ++ ys) after
follows_more before there after [] ys h k = subst (λ es. Follows es ys after) h k
follows_more before there after (x ∷ xs) ys h k = (h.0, h.1, follows_more h.0 there after xs ys h.2 k)

-- ---- a mirror

pub goes_none : (m : CutMirror) → Goes m m []
goes_none m = ([], refl, record { follows = refl; object = refl; mirror = λ opening h. h })

pub goes_past : (m : CutMirror) (lines : List InputLine) → AreNoNews lines → Goes m m lines
goes_past m lines h = ([], no_news lines h, record { follows = refl; object = refl; mirror = λ opening h. h })

pub goes_by : (before after : CutMirror) (line : InputLine) (news : News) → IsNewsLine line news → GoesBy before after (entry_before news [])
    → Goes before after (line ∷ [])
goes_by before after line news h g = (entry_before news [], ([], refl, inr (news, h, refl)), g)

pub goes_more : (before there after : CutMirror) (lines others : List InputLine) → Goes before there lines → Goes there after others
    → Goes before after (lines ++ others)
goes_more before there after lines others g k = (
  g.0 ++ k.0,
  news_more lines others g.0 k.0 g.1 k.1,
  record {
    follows = follows_more before.entries there.entries after.entries g.0 k.0 g.2.follows k.2.follows;
    object = k.2.object ∙ g.2.object;
    mirror = λ opening h. k.2.mirror opening (g.2.mirror opening h);
  },
)

pub goes_lines : (before after : CutMirror) (lines others : List InputLine) → lines ≡ others → Goes before after lines → Goes before after others
goes_lines before after lines others is g = subst (Goes before after) is g
