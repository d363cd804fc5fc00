use Rattle.mirror_laws.proofs.Transcripts.{one_line, replies_of}
use Rattle.mirror_laws.proofs.laws.stations_are_told_lines.Goals as goal

pub returns-clause-replies : goal.returns-clause-replies
returns-clause-replies c = λ o h from station lines replies told. replies_of o h from station lines replies told

pub returns-clause-lines : goal.returns-clause-lines
returns-clause-lines c = λ o h from station lines replies told. one_line o h from station lines replies told
