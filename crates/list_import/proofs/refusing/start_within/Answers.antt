use Rattle.std.proofs.Common.{sym, ◌∙◌}
use Rattle.list_import.proofs.RefusedBy.{refused_by}
use Rattle.list_import.proofs.refusing.start_within.Goals as goal

pub returns-in-Some-clause-refused : goal.returns-in-Some-clause-refused
returns-in-Some-clause-refused c = refused_by c.args.events.now c.args.counting.now c.in-Some.code c.in-Some.number (sym c.first_refused.ensures ∙ c.in-Some.is)
