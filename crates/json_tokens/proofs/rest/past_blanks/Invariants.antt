use Rattle.std.proofs.Common.{◌≡◌, length}
use Rattle.json_tokens.specs.Reading.{past_blanks}
use Rattle.json_tokens.proofs.rest.past_blanks.Given as goal

abbrev pub invariant-loop-after : goal.invariant-loop-after
invariant-loop-after l = past_blanks l.rest.at l.rest.bytes.now ≡ past_blanks l.fn.rest.at l.fn.rest.bytes.now

abbrev pub decreases-loop-after : goal.decreases-loop-after
decreases-loop-after l = length l.rest.bytes.now
