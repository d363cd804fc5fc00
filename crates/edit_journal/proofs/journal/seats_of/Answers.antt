use Rattle.std.proofs.Common.{◌∙◌, arith}
use Rattle.edit_journal.specs.declared.name.Name.TheVariants.{Part, Station}
use Rattle.edit_journal.proofs.Fresh.{fresh_more, fresh_none, without_other, above_part, no_part}
use Rattle.edit_journal.proofs.journal.seats_of.Goals as goal

pub give_seat-requires-clause-has : goal.give_seat-requires-clause-has
give_seat-requires-clause-has g c = c.loop-part.invariant.names c.loop-part.part (omega arith) c.loop-part-test.true

pub loop-part-preserved : goal.loop-part-preserved
loop-part-preserved g c =
    let i = c.loop-part.invariant in
    let at = c.give_seat.ensures.at in
    let t = c.give_seat.ensures.seat in
    record {
      fresh = rw c.in_ok-push.ensures.items (fresh_more g.J.Naming.opening c.loop-part.part c.loop-part.seats.items c.give_seat.result i.fresh t.0 (t.1 ∙ i.opening) (t.2 ∙ i.entries));
      names = λ n ge lt. rw at (without_other (Part c.loop-part.part) c.loop-part.log.0.names (Part n) (above_part n c.loop-part.part (omega (arith, ge))) (i.names n (omega (arith, ge)) lt));
      stations = λ n h. rw at (without_other (Part c.loop-part.part) c.loop-part.log.0.names (Station n) (no_part n c.loop-part.part) (i.stations n h));
      opening = rw at i.opening;
      entries = rw at i.entries;
      within = omega (arith, c.loop-part-test.true);
    }

pub loop-part-init : goal.loop-part-init
loop-part-init g c =
    record {
      fresh = fresh_none g.J.Naming.opening c.new-seats.result.items c.new-seats.ensures.items;
      names = λ n ge lt. c.requires.names n lt;
      stations = λ n h. h;
      opening = c.requires.empty.0;
      entries = c.requires.empty.1;
      within = omega arith;
    }
