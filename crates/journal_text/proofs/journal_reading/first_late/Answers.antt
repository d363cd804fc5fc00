use Rattle.std.proofs.Common.{◌∙◌}
use Rattle.std.proofs.lemmas.List.{length-set}
use Rattle.journal_text.proofs.JournalSteps.{late_at, least_behind, rise_at}
use Rattle.journal_text.proofs.journal_reading.first_late.Goals as goal

pub returns-then-number-least-clause-late : goal.returns-then-number-least-clause-late
returns-then-number-least-clause-late c =
    late_at c.args.entries.now c.loop-at.at c.index-entries-at.result c.loop-at.least c.from-number.result c.index-entries-at.is c.requires c.loop-at-test.true c.loop-at.invariant.rise
    c.loop-at.invariant.least c.from-number.ensures c.if-number-least.true

pub loop-at-preserved : goal.loop-at-preserved
loop-at-preserved c = record {
  stations = length-set _ _ _ ∙ c.loop-at.invariant.stations;
  rise = rise_at c.args.entries.now c.loop-at.at c.index-entries-at.result c.loop-at.least c.from-number.result c.index-entries-at.is c.requires c.loop-at-test.true c.loop-at.invariant.rise
      c.loop-at.invariant.least c.from-number.ensures c.if-number-least.false;
  least = least_behind c.args.entries.now c.loop-at.at c.index-entries-at.result c.loop-at.least c.from-number.result c.index-entries-at.is c.requires c.loop-at-test.true
      c.loop-at.invariant.stations c.loop-at.invariant.least c.from-number.ensures c.if-number-least.false;
}
