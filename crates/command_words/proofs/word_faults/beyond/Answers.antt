use Rattle.std.proofs.Common.{sym, ap}
use Rattle.command_words.specs.WordFaults.{beyond}
use Rattle.command_words.proofs.WordsBehind.{behind_at}
use Rattle.command_words.proofs.word_faults.beyond.Goals as goal

pub returns : goal.returns
returns c = sym (ap beyond (behind_at c.args.words.now c.args.from c.word.result.now c.word.ensures))
