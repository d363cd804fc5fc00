use Rattle.std.proofs.Common.{[]}
use Rattle.test_desks.proofs.scripts.played.Given as goal

abbrev pub ghosts-played_by : goal.ghosts-played_by
ghosts-played_by g a = record { table = a.new.receipts; reader = a.last.number; kept = []; begun = g.D.Disk.course a.new.file.disk; faults = g.D.Disk.faults a.new.file.disk }
