use Rattle.std.proofs.Common.{◌≡◌, ◌≤◌, ◌+◌, ◌-◌, length, drop}
use Rattle.std.specs.Prelude.{option_map}
use Rattle.command_words.specs.Records.{records_in}
use Rattle.command_words.proofs.records.record_count.Given as goal

abbrev pub invariant-loop-at : goal.invariant-loop-at
invariant-loop-at l = record {
  within : (5 ≤ l.at) × (l.at ≤ length l.words) × (l.count + 5 ≤ l.at);
  same : option_map (λ more. l.count + more) (option_map length (records_in (drop l.at l.words))) ≡ option_map length (records_in (drop 5 l.words));
}

abbrev pub decreases-loop-at : goal.decreases-loop-at
decreases-loop-at l = length l.words - l.at
