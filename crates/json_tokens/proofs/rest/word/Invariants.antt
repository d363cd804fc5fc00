use Rattle.std.proofs.Common.{◌≡◌, drop}
use Rattle.json_tokens.specs.Reading.{word_at}
use Rattle.json_tokens.proofs.rest.word.Given as goal

abbrev pub invariant-loop-letter : goal.invariant-loop-letter
invariant-loop-letter l = word_at (drop l.letter-index l.word) l.rest.at l.rest.bytes.now ≡ word_at l.word l.fn.rest.at l.fn.rest.bytes.now
