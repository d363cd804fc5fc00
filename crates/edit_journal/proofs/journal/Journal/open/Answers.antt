use Rattle.std.proofs.Common.{sym, ap, ◌∙◌}
use Rattle.edit_journal.proofs.Fresh.{kept_first, has_part, has_own_station}
use Rattle.edit_journal.proofs.journal.Journal.open.Goals as goal

pub invariant_of-log : goal.invariant_of-log
invariant_of-log g c =
    let b = c.blank.invariant in
    let t = rw (← c.blank.view_is) at c.requires.table in
    let o = rw (← c.blank.view_is) at c.requires.opening in
    let n = rw (← c.blank.view_is) at c.requires.stations in (
      b.1 ∙ sym t,
      ap (λ m. m.0.keeps) b.3.2,
      ap (λ m. m.1) b.3.2,
      ap (λ m. m.0.entries) b.3.2 ∙ sym c.new.ensures.items,
      sym o,
      rw (b.3.2, b.2, n) (kept_first g.O.PartObject.meaning g.O.PartObject.opens c.blank.inside.parts c.blank.inside.stations b.3.0 b.3.1),
    )

pub seats_of-requires-clause-names : goal.seats_of-requires-clause-names
seats_of-requires-clause-names g c = λ n lt. rw c.blank.invariant.3.2 (has_part c.blank.inside.parts c.blank.inside.stations n lt)

pub passes_of-requires-clause-names : goal.passes_of-requires-clause-names
passes_of-requires-clause-names g c = λ n lt. c.in_ok-seats.ensures.stations n (rw c.blank.invariant.3.2 (has_own_station c.blank.inside.parts c.blank.inside.stations n lt))
