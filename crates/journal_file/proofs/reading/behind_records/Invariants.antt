use Rattle.std.proofs.Common.{◌+◌, ◌≤◌, length}
use Rattle.journal_file.specs.Reading.{Begins}
use Rattle.journal_file.proofs.reading.behind_records.Given as goal

abbrev pub invariant-loop-behind : goal.invariant-loop-behind
invariant-loop-behind l = record {
  begins : Begins l.bytes l.count l.rest;
  few : l.count + length l.rest ≤ length l.bytes;
}

abbrev pub decreases-loop-behind : goal.decreases-loop-behind
decreases-loop-behind l = length l.rest
