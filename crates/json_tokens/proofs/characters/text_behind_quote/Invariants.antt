use Rattle.std.proofs.Common.{◌≡◌, ◌-◌, length}
use Rattle.std.specs.Prelude.{string_bytes}
use Rattle.json_tokens.specs.ReadingTexts.{text_at}
use Rattle.json_tokens.proofs.TextLoop.{with_text}
use Rattle.json_tokens.proofs.characters.text_behind_quote.Given as goal

abbrev pub invariant-loop : goal.invariant-loop
invariant-loop l = with_text (string_bytes l.string) (text_at (l.most - l.counter) l.rest.at l.rest.bytes.now) ≡ text_at (length l.fn.rest.bytes.now) l.fn.rest.at l.fn.rest.bytes.now
