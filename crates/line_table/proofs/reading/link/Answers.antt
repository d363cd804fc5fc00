use Rattle.std.proofs.Common.{rules}
use Rattle.line_table.proofs.reading.link.Goals as goal

pub returns-else-as_slice-track_count-clause-written : goal.returns-else-as_slice-track_count-clause-written
returns-else-as_slice-track_count-clause-written c = rw c.edit.ensures ((c.in_ok-tracks-in-len2.ensures.some, search rules), c.in_ok-items-in-len2.ensures.small, search rules)
