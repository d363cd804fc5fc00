use Rattle.std.proofs.Common.{◌≡◌, map, take}
use Rattle.kept_desk.proofs.batches.batch_of.Given as goal

abbrev pub invariant-loop-entry : goal.invariant-loop-entry
invariant-loop-entry g l = l.batch ≡ map g.T.EntryLines.line_of (take l.entry-index l.entries)
