use Rattle.std.proofs.Common.{◌≡◌, ◌≤◌, ◌-◌, ◌++◌, length, map, drop}
use Rattle.std.specs.Prelude.{option_map}
use Rattle.command_words.specs.Records.{named_by, records_in}
use Rattle.command_words.proofs.records.records_of.Given as goal

abbrev pub invariant-loop-at : goal.invariant-loop-at
invariant-loop-at l = record {
  within : (5 ≤ l.at) × (l.at ≤ length l.words);
  same : option_map (λ more. map named_by l.records.items ++ more) (records_in (drop l.at l.words)) ≡ records_in (drop 5 l.words);
}

abbrev pub decreases-loop-at : goal.decreases-loop-at
decreases-loop-at l = length l.words - l.at
