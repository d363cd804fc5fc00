use Rattle.std.proofs.Common.{◌≡◌, ◌++◌, length}
use Rattle.std.specs.List.{AllByRecursion}
use Rattle.journal_file.specs.Layout.{IsLine, records_of}
use Rattle.journal_file.proofs.reading.whole_records.Given as goal

abbrev pub invariant-loop-line : goal.invariant-loop-line
invariant-loop-line l = record {
  lines : AllByRecursion IsLine l.records.items;
  parts : l.bytes ≡ records_of l.records.items ++ l.rest;
}

abbrev pub decreases-loop-line : goal.decreases-loop-line
decreases-loop-line l = length l.rest
