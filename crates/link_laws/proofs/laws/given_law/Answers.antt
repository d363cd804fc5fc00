use Rattle.link_laws.proofs.GivenLaw.{edits-keep-given}
use Rattle.link_laws.proofs.GivenLinks.{linking-given, unlinking-given}
use Rattle.link_laws.proofs.GivenSlips.{sliding-given, slipping-given}
use Rattle.link_laws.proofs.laws.given_law.Goals as goal

pub returns-clause-edits : goal.returns-clause-edits
returns-clause-edits c = edits-keep-given

pub returns-clause-slipping : goal.returns-clause-slipping
returns-clause-slipping c = slipping-given

pub returns-clause-sliding : goal.returns-clause-sliding
returns-clause-sliding c = sliding-given

pub returns-clause-linking : goal.returns-clause-linking
returns-clause-linking c = linking-given

pub returns-clause-unlinking : goal.returns-clause-unlinking
returns-clause-unlinking c = unlinking-given
