use Rattle.std.proofs.Common.{List}
use Rattle.tungstenite.specs.declared.message.Message.{Message}
use Rattle.web_lines.specs.Lines.{Skips}
use Rattle.web_lines.proofs.messages.next_text.Given as goal

abbrev pub invariant-loop : goal.invariant-loop
invariant-loop g l = (ms : List Message) × Skips g.S.Read.remaining l.fn.socket ms l.socket
