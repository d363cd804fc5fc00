use Rattle.std.proofs.Common.{[]}
use Rattle.test_desks.proofs.threads.both.Given as goal

abbrev pub ghosts-both_by : goal.ghosts-both_by
ghosts-both_by g a = record { table = a.new.receipts; reader = a.last.number; kept = []; begun = g.D.Disk.course a.new.file.disk; faults = g.D.Disk.faults a.new.file.disk }
