use Rattle.std.proofs.Common.{◌≡◌, drop}
use Rattle.reel_names.specs.Tables.{IsTable, name_in}
use Rattle.reel_names.proofs.table.Table.name_of.Given as goal

abbrev pub invariant-loop-row : goal.invariant-loop-row
invariant-loop-row l = record {
  same : name_in (drop l.row-index l.row-items) l.text ≡ name_in l.row-items l.text;
  rows : IsTable (drop l.row-index l.row-items);
}
