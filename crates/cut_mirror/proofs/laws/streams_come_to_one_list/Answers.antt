use Rattle.cut_mirror.proofs.Streams.{one_end, one_more}
use Rattle.cut_mirror.proofs.laws.streams_come_to_one_list.Goals as goal

pub returns-clause-one : goal.returns-clause-one
returns-clause-one g c = λ before one other items a b. one_end before one other items a b

pub returns-clause-more : goal.returns-clause-more
returns-clause-more g c = λ before after next items place e a b. one_more before after next items place e a b
