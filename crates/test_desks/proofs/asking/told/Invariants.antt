use Rattle.std.proofs.Common.{[]}
use Rattle.test_desks.proofs.asking.told.Given as goal

abbrev pub ghosts-told_by : goal.ghosts-told_by
ghosts-told_by g a = record { table = a.new.receipts; reader = a.last.number; kept = []; begun = g.D.Disk.course a.new.file.disk; faults = g.D.Disk.faults a.new.file.disk }
