use Rattle.edl_write.proofs.OneList.{one_list_of_events}
use Rattle.edl_write.proofs.laws.a_cut_has_one_list_of_events.Goals as goal

pub returns : goal.returns
returns c = one_list_of_events
