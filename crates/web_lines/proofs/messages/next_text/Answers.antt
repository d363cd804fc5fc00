use Rattle.std.proofs.Common.{[], ◌∷◌, refl}
use Rattle.web_lines.proofs.messages.next_text.Goals as goal

pub loop-init : goal.loop-init
loop-init g c = ([], refl)

pub returns-in-Text-clause-text : goal.returns-in-Text-clause-text
returns-in-Text-clause-text g c = (c.loop.invariant.0, c.loop.socket, c.in-Ok.message, c.loop.invariant.1, c.in-Ok.ensures, c.in-Text.ensures)

pub returns-in-Err-ConnectionClosed-clause-end : goal.returns-in-Err-ConnectionClosed-clause-end
returns-in-Err-ConnectionClosed-clause-end g c =
    (c.loop.invariant.0, c.loop.socket, c.loop.invariant.1, rw c.in-Err-ConnectionClosed.field-0-is at c.in-Err-ConnectionClosed.ensures)

pub loop-preserved : goal.loop-preserved
loop-preserved g c = (c.in-Ok.message ∷ c.loop.invariant.0, (c.loop.socket, c.loop.invariant.1, c.in-Ok.ensures, c.in-Quiet.ensures))
