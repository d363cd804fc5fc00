-- The reply to `news`: the place that was asked for, how many entries the journal has, and the entry at the place,
-- where there is one.
use Rattle.std.specs.Prelude.{◌≡◌, ◌≢◌, ◌<◌, ◌≤◌, ℕ, List, [], ◌++◌, Option, Some, None, codes, decimal, length}
use Rattle.edit_calls.specs.declared.asks.Call.{Call}
use Rattle.room_core.specs.declared.entry.Entry.{Entry}
use Rattle.take_back.specs.declared.step.Step.{Step}
use Rattle.journal_text.specs.declared.news_reply.News.{News}
use Rattle.journal_text.specs.declared.news_reply.NewsFault.{NewsFault}
use Rattle.journal_text.specs.declared.news_reply.NewsFault.TheVariants.{NotNews, Memory}
use Rattle.journal_text.specs.JournalFaults.{HasNoLineFeed}
use Rattle.journal_text.specs.Journals.{entry_text, HasLine}
use Rattle.line_words.specs.declared.TheConstants.{MAX_LINE}
use Rattle.line_table.specs.CallTexts.{IsSmall}

-- the entry at the place, where there is one
abbrev pub there_text : Option (Entry (Step Call)) → List ℕ
there_text None = []
there_text (Some entry) = codes " " ++ entry_text entry

-- a place, how many entries there are, and the entry at the place
abbrev pub news_text_of : ℕ → ℕ → Option (Entry (Step Call)) → List ℕ
news_text_of place length entry =
    codes "news " ++ decimal place ++ codes " " ++ decimal length ++ there_text entry

-- an entry is told exactly where the journal has the place, and it has a line
abbrev pub IsThere : ℕ → ℕ → Option (Entry (Step Call)) → Type 0
IsThere place length None = length ≤ place
IsThere place length (Some entry) = (place < length) × HasLine entry

-- news that a journal can be told of by: two numbers of 32 bits, and an entry exactly where the first is below the second
pub record IsNews (news : News) : Type 0 where
  pub place : IsSmall news.place
  pub length : IsSmall news.length
  pub there : IsThere news.place news.length news.entry

-- the line is the text of no news
abbrev pub IsNoNews : List ℕ → Type 0
IsNoNews line = (news : News) → IsNews news → line ≢ news_text_of news.place news.length news.entry

-- the line is the text of no news, or there was no memory
abbrev pub IsNoNewsFor : List ℕ → NewsFault → Type 0
IsNoNewsFor line NotNews = IsNoNews line
IsNoNewsFor line Memory = Unit {0}

-- a text that is a line: it has not too many bytes, and none of them is a line feed
pub record IsShortLine (text : List ℕ) : Type 0 where
  pub short : length text ≤ MAX_LINE
  pub one : HasNoLineFeed text

-- that of news is one
abbrev pub NewsFitLines : Type 0
NewsFitLines = (news : News) → IsNews news → IsShortLine (news_text_of news.place news.length news.entry)

-- no line is the text of two news
abbrev pub AreOneNews : Type 0
AreOneNews =
    (news other : News)
    → IsNews news → IsNews other
    → news_text_of news.place news.length news.entry ≡ news_text_of other.place other.length other.entry
    → news ≡ other
