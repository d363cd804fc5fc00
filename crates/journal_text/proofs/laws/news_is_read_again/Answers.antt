use Rattle.journal_text.proofs.NewsLaws.{fit_lines, one_news}
use Rattle.journal_text.proofs.laws.news_is_read_again.Goals as goal

pub returns-clause-line : goal.returns-clause-line
returns-clause-line c = fit_lines

pub returns-clause-one_news : goal.returns-clause-one_news
returns-clause-one_news c = one_news
