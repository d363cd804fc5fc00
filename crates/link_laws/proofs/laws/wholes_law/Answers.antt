use Rattle.link_laws.proofs.Weighing.{nexts-within}
use Rattle.link_laws.proofs.Wholes.{unlinked-together, wholes-keep}
use Rattle.link_laws.proofs.laws.wholes_law.Goals as goal

pub returns-clause-wholes : goal.returns-clause-wholes
returns-clause-wholes c = wholes-keep

pub returns-clause-unlinked : goal.returns-clause-unlinked
returns-clause-unlinked c = unlinked-together

pub returns-clause-nexts : goal.returns-clause-nexts
returns-clause-nexts c = nexts-within
