-- What the lines of a stream of replies tell: entries of a room's history, each with its place.
use Rattle.std.specs.Prelude.{◌≡◌, ◌⊎◌, ℕ, Bool, true, false, List, [], ◌∷◌, Option, Some, None, All, bytes_eq, codes}
use Rattle.cut_steps.specs.CutSteps.{CutStep}
use Rattle.journal_text.specs.NewsTexts.{news_text_of, IsNews, IsNoNews}
use Rattle.journal_text.specs.declared.news_reply.News.{News}
use Rattle.line_words.specs.Blanks.{words_of}
use Rattle.line_words.specs.Lines.{Line as InputLine}
use Rattle.room_core.specs.declared.entry.Entry.{Entry}

-- an entry, and its place in the history
abbrev pub Item : Type 0
Item = ℕ × Entry CutStep

-- the first of these words is `news`
abbrev pub leads_news : List (List ℕ) → Bool
leads_news [] = false
leads_news (word ∷ words) = bytes_eq word (codes "news")

-- the line has at most 1,024 bytes, and its first word is `news`
abbrev pub is_news_line : InputLine → Bool
is_news_line None = false
is_news_line (Some text) = leads_news (words_of text)

-- none of these lines is one
abbrev pub AreNoNews : List InputLine → Type 0
AreNoNews lines = All (λ line. is_news_line line ≡ false) lines

-- the line is the text of these news
pub record IsNewsLine (line : InputLine) (news : News) : Type 0 where
  pub sound : IsNews news
  pub text : line ≡ Some (news_text_of news.place news.length news.entry)

-- the line is the text of no news
abbrev pub IsNoNewsLine : InputLine → Type 0
IsNoNewsLine None = ⊥
IsNoNewsLine (Some text) = IsNoNews text

-- the entry at a place, where there is one, before others
abbrev pub item_before : ℕ → Option (Entry CutStep) → List Item → List Item
item_before place None items = items
item_before place (Some entry) items = (place, entry) ∷ items

abbrev pub entry_before : News → List Item → List Item
entry_before news items = item_before news.place news.entry items

-- what a line tells before others: nothing where it is passed over
abbrev pub Tells : InputLine → List Item → List Item → Type 0
Tells line others items =
    ((is_news_line line ≡ false) × (items ≡ others))
    ⊎ ((news : News) × IsNewsLine line news × (items ≡ entry_before news others))

-- what these lines tell, in their order, where none of them is refused
abbrev pub NewsOf : List InputLine → List Item → Type 0
NewsOf [] items = items ≡ []
NewsOf (line ∷ lines) items = (others : List Item) × NewsOf lines others × Tells line others items
