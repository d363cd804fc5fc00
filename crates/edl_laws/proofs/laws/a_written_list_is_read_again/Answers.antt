use Rattle.edl_laws.proofs.ListsRead.{written_is_read_again}
use Rattle.edl_laws.proofs.laws.a_written_list_is_read_again.Goals as goal

pub returns : goal.returns
returns c = written_is_read_again
