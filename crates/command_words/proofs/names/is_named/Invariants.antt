use Rattle.std.proofs.Common.{◌≡◌, ◌≤◌, drop, take, map}
use Rattle.reel_names.specs.Tables.{is_named}
use Rattle.command_words.specs.Names.{row_of}
use Rattle.command_words.proofs.names.is_named.Given as goal

abbrev pub invariant-loop-i : goal.invariant-loop-i
invariant-loop-i l = record {
  within : (7 ≤ l.i) × (l.i ≤ l.end);
  same : is_named (map row_of (drop l.i (take l.end l.words))) l.name ≡ is_named (map row_of (drop 7 (take l.end l.words))) l.name;
}
