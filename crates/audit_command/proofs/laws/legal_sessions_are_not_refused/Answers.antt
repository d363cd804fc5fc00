use Rattle.audit_command.proofs.Transcribed.{fits, passes}
use Rattle.audit_command.proofs.laws.legal_sessions_are_not_refused.Goals as goal

pub returns : goal.returns
returns c = λ o h rs legal. (fits o h rs legal, passes o h rs legal)
