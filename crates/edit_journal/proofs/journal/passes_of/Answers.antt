use Rattle.std.proofs.Common.{◌∙◌, arith}
use Rattle.edit_journal.specs.declared.name.Name.TheVariants.{Station}
use Rattle.edit_journal.proofs.Fresh.{fresh_more, fresh_none, without_other, above_station}
use Rattle.edit_journal.proofs.journal.passes_of.Goals as goal

pub give_pass-requires-clause-has : goal.give_pass-requires-clause-has
give_pass-requires-clause-has g c = c.loop-station.invariant.names c.loop-station.station (omega arith) c.loop-station-test.true

pub loop-station-preserved : goal.loop-station-preserved
loop-station-preserved g c =
    let i = c.loop-station.invariant in
    let at = c.give_pass.ensures.at in
    let t = c.give_pass.ensures.pass in
    record {
      fresh = rw c.in_ok-push.ensures.items (fresh_more g.J.Naming.opening c.loop-station.station c.loop-station.passes.items c.give_pass.result i.fresh t.0 (t.1 ∙ i.opening) (t.2 ∙ i.entries));
      names = λ n ge lt. rw at (without_other (Station c.loop-station.station) c.loop-station.log.0.names (Station n) (above_station n c.loop-station.station (omega (arith, ge))) (i.names n (omega (arith, ge)) lt));
      opening = rw at i.opening;
      entries = rw at i.entries;
      within = omega (arith, c.loop-station-test.true);
    }

pub loop-station-init : goal.loop-station-init
loop-station-init g c =
    record {
      fresh = fresh_none g.J.Naming.opening c.new-passes.result.items c.new-passes.ensures.items;
      names = λ n ge lt. c.requires.names n lt;
      opening = c.requires.empty.0;
      entries = c.requires.empty.1;
      within = omega arith;
    }
