use Rattle.edl_write.proofs.OneAnswer.{one_answer}
use Rattle.edl_write.proofs.laws.a_cut_has_one_answer.Goals as goal

pub returns : goal.returns
returns c = one_answer
