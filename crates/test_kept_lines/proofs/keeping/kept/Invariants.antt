use Rattle.std.proofs.Common.{[]}
use Rattle.test_kept_lines.proofs.keeping.kept.Given as goal

abbrev pub ghosts-kept_by-K-Filing : goal.ghosts-kept_by-K-Filing
ghosts-kept_by-K-Filing g a = record { table = a.new.receipts; reader = a.last.number; kept = []; begun = g.D.Disk.course a.new.file.disk; faults = g.D.Disk.faults a.new.file.disk }

abbrev pub ghosts-kept_by-L-Ledger : goal.ghosts-kept_by-L-Ledger
ghosts-kept_by-L-Ledger g a = record { name = a.ledger.name; parts = a.ledger.parts }
