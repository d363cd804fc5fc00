use Rattle.link_laws.proofs.Histories.{histories-given, histories-together, numbers-last}
use Rattle.link_laws.proofs.laws.histories_law.Goals as goal

pub returns-clause-together : goal.returns-clause-together
returns-clause-together g c = histories-together

pub returns-clause-numbers : goal.returns-clause-numbers
returns-clause-numbers g c = numbers-last

pub returns-clause-given : goal.returns-clause-given
returns-clause-given g c = histories-given
