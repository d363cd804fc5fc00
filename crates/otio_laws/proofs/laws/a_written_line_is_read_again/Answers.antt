use Rattle.otio_laws.proofs.CutBack.{line_is_read_again}
use Rattle.otio_laws.proofs.laws.a_written_line_is_read_again.Goals as goal

pub returns : goal.returns
returns c = line_is_read_again
