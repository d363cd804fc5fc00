use Rattle.std.proofs.Common.{sym}
use Rattle.std.proofs.lemmas.Result.{err_from_is_err_and}
use Rattle.std.specs.Prelude.{string_bytes}
use Rattle.json_tokens.proofs.TextLoop.{goes_on, ends, is_closed, is_out}
use Rattle.json_tokens.proofs.characters.text_behind_quote.Goals as goal

pub returns-in-Some : goal.returns-in-Some
returns-in-Some c =
    rw c.from_string.ensures (is_closed (string_bytes c.loop.string) _ c.loop.counter c.loop.rest.at c.loop.rest.bytes.now _ c.loop.invariant (c.in-Some.after.at, c.in-Some.after.bytes.now) c.loop-test.true (sym c.in-Some.ensures))

pub returns-in_err-character : goal.returns-in_err-character
returns-in_err-character c =
    let p = err_from_is_err_and c.from_residual.result c.from_residual.ensures.1 in
    rw (p.1, p.2) (ends (string_bytes c.loop.string) _ c.loop.counter c.loop.rest.at c.loop.rest.bytes.now _ c.loop.invariant c.in_err-character.field-0.0 c.loop-test.true (sym c.in-None.ensures) c.in_err-character.ensures)

pub loop-preserved : goal.loop-preserved
loop-preserved c =
    rw c.in_ok-push.ensures.bytes (goes_on (string_bytes c.loop.string) _ c.loop.counter c.loop.rest.at c.loop.rest.bytes.now _ c.loop.invariant c.in_ok-character.character c.in_ok-character.after.at c.in_ok-character.after.bytes.now c.loop-test.true (sym c.in-None.ensures) c.in_ok-character.ensures)

pub returns : goal.returns
returns c = is_out (string_bytes c.loop.string) _ c.loop.counter c.loop.rest.at c.loop.rest.bytes.now _ c.loop.invariant c.loop-test.false
