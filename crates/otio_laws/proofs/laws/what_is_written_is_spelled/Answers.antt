use Rattle.otio_laws.proofs.Spelled.{written_is_spelled}
use Rattle.otio_laws.proofs.laws.what_is_written_is_spelled.Goals as goal

pub returns : goal.returns
returns c = written_is_spelled
