use Rattle.otio_laws.proofs.CutBack.{written_is_read_again}
use Rattle.otio_laws.proofs.laws.a_written_cut_is_read_again.Goals as goal

pub returns : goal.returns
returns c = written_is_read_again
