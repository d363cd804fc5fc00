use Rattle.made_sessions.proofs.Scripting.{Writes}
use Rattle.made_sessions.proofs.scripts.script_text.Given as goal

-- the text so far and the lines to come are the script
abbrev pub invariant-loop-line : goal.invariant-loop-line
invariant-loop-line l = Writes l.number l.count l.fn.station l.out.items l.script.station l.script.place l.script.word l.line
