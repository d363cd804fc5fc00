use Rattle.std.proofs.Common.{sym, ◌∙◌}
use Rattle.std.proofs.lemmas.Slice.Eq.{bytes_eq-Decides}
use Rattle.line_table.specs.Labels.{place_by}
use Rattle.journal_text.specs.NewsTexts.{news_text_of}
use Rattle.journal_text.proofs.JournalSteps.{differ}
use Rattle.journal_text.proofs.NewsLaws.{none_news, other_news}
use Rattle.journal_text.proofs.news_reply.told_news.Goals as goal

pub returns-then-told : goal.returns-then-told
returns-then-told c =
    let has = rw c.in-Some.is at c.in_ok-news.ensures.news in
    let news = c.in-Some.news in
    (has, sym ((bytes_eq-Decides (news_text_of news.place news.length news.entry) c.args.line.now).0 (sym c.in_ok-told-in-Some.ensures ∙ c.if-told.true)))

pub returns-else-told : goal.returns-else-told
returns-else-told c =
    let read = rw c.in-Some.is at c.in_ok-news.ensures.read in
    let news = c.in-Some.news in
    other_news (place_by c.args.counting.now 0) c.args.line.now news read
    (λ same. differ (news_text_of news.place news.length news.entry) c.args.line.now (sym c.in_ok-told-in-Some.ensures ∙ c.if-told.false) same)

pub returns-in-None : goal.returns-in-None
returns-in-None c =
    let none = rw c.in-None.is at c.in_ok-news.ensures.read in
    none_news (place_by c.args.counting.now 0) c.args.line.now none
