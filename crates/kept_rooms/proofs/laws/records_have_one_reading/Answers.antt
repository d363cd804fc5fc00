use Rattle.kept_rooms.proofs.OneReading.{kept_once, not_both, one_fault}
use Rattle.kept_rooms.proofs.laws.records_have_one_reading.Goals as goal

pub returns-clause-one_reading : goal.returns-clause-one_reading
returns-clause-one_reading g c = λ m opening stations records es fs h k. kept_once m opening stations records es fs h k

pub returns-clause-one_fault : goal.returns-clause-one_fault
returns-clause-one_fault g c = λ m opening stations records one other h k. one_fault m opening stations records one other h k

pub returns-clause-not_both : goal.returns-clause-not_both
returns-clause-not_both g c = λ m opening stations records es fault h k. not_both m opening stations records es fault h k
