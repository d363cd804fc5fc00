use Rattle.std.proofs.Common.{◌≡◌, ℕ, List, ◌++◌, true, refl, codes}
use Rattle.std.specs.Fmt.{decimal}
use Rattle.journal_text.specs.NewsTexts.{news_text_of}
use Rattle.otio_text.specs.Documents.{timeline_text}
use Rattle.reply_text.specs.Replies.{answer_text_of, fault_of}
use Rattle.reply_text.specs.Sights.{sight_text_of}
use Rattle.reply_laws.proofs.PlainDocuments.{document_plain}
use Rattle.reply_laws.proofs.PlainReplies.{answered, document, fault, past_end, too_long}
use Rattle.reply_laws.proofs.PlainSights.{sighted}
use Rattle.reply_laws.proofs.PlainSteps.{told}
use Rattle.reply_laws.proofs.PlainTexts.{is_plain, no_feeds, number, split}
use Rattle.reply_laws.proofs.laws.replies_are_one_line.Goals as goal

point : (n : ℕ) → is_plain (codes "point " ++ decimal n) ≡ true
point n = number n

pub returns-clause-edits : goal.returns-clause-edits
returns-clause-edits c = λ a. no_feeds (answer_text_of a) (answered a)

pub returns-clause-questions : goal.returns-clause-questions
returns-clause-questions c = λ s. no_feeds (sight_text_of s) (sighted s)

pub returns-clause-faults : goal.returns-clause-faults
returns-clause-faults c = λ f. no_feeds (fault_of f) (fault f)

pub returns-clause-news : goal.returns-clause-news
returns-clause-news c = λ place length entry. no_feeds (news_text_of place length entry) (told place length entry)

pub returns-clause-documents : goal.returns-clause-documents
returns-clause-documents c = λ n start table tracks counting.
    no_feeds (codes "otio " ++ decimal n ++ codes " " ++ timeline_text table tracks counting start) (document n (timeline_text table tracks counting start) (document_plain table tracks counting start))

pub returns-clause-too_long : goal.returns-clause-too_long
returns-clause-too_long c = λ n. no_feeds (codes "no " ++ decimal n ++ codes " V4") (too_long n)

pub returns-clause-past_end : goal.returns-clause-past_end
returns-clause-past_end c = λ n. no_feeds (codes "no " ++ decimal n ++ codes " V3") (past_end n)

pub returns-clause-point : goal.returns-clause-point
returns-clause-point c = λ n. no_feeds (codes "point " ++ decimal n) (point n)
