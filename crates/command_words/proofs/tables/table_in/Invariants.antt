use Rattle.std.proofs.Common.{◌≡◌, ◌≤◌, [], None, length, drop, take, map}
use Rattle.command_words.specs.Names.{first_fault, row_of}
use Rattle.command_words.proofs.tables.table_in.Given as goal

abbrev pub invariant-loop-i : goal.invariant-loop-i
invariant-loop-i l = record {
  within : (7 ≤ l.i) × (l.i ≤ length l.words);
  namer : l.namer ≡ record { table = map row_of (drop 7 (take l.i l.words)); given = [] };
  rows : first_fault (map row_of (drop 7 (take l.i l.words))) (drop l.i l.words) ≡ None;
}
