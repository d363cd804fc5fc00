use Rattle.std.proofs.Common.{sym, ◌∙◌, arith}
use Rattle.command_words.proofs.RecordWords.{record_cut, record_whole, too_few}
use Rattle.command_words.proofs.records.record_at.Goals as goal

pub returns-then-count-at-lt2-clause-record : goal.returns-then-count-at-lt2-clause-record
returns-then-count-at-lt2-clause-record c =
    too_few c.args.words.now c.args.at (omega (arith, c.requires, c.count.ensures, c.if-count-at-lt2.true))

pub returns-then-is_cut-clause-record : goal.returns-then-is_cut-clause-record
returns-then-is_cut-clause-record c =
    record_cut c.args.words.now c.args.at c.word-lines.result.now c.word-replies.result.now c.word-lines.ensures c.word-replies.ensures (sym c.is_cut.ensures ∙ c.if-is_cut.true)

pub returns-clause-record : goal.returns-clause-record
returns-clause-record c =
    record_whole c.args.words.now c.args.at c.word-lines.result.now c.word-replies.result.now c.word-lines.ensures c.word-replies.ensures (sym c.is_cut.ensures ∙ c.if-is_cut.false)
