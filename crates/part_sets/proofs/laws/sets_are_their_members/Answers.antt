use Rattle.part_sets.specs.MemberLaws.{ascend, members-set, set-members}
use Rattle.part_sets.proofs.laws.sets_are_their_members.Goals as goal

pub returns-clause-set : goal.returns-clause-set
returns-clause-set c = set-members

pub returns-clause-members : goal.returns-clause-members
returns-clause-members c = members-set

pub returns-clause-ascend : goal.returns-clause-ascend
returns-clause-ascend c = ascend
