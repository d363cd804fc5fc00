use Rattle.std.proofs.Common.{ap, ◌∙◌}
use Rattle.reel_names.specs.Tables.{row_fault}
use Rattle.reel_names.proofs.TableRows.{table_more}
use Rattle.reel_names.proofs.table.Table.push.Goals as goal

pub invariant_of-self-2 : goal.invariant_of-self-2
invariant_of-self-2 c =
    let rows = c.self.inside.rows.items in
    rw c.in_ok-push.ensures.items
    (table_more rows _ c.self.invariant (ap (row_fault rows) c.in_ok-row.ensures ∙ (rw (← c.self.view_is) at c.requires)))
