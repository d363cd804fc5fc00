use Rattle.std.proofs.Common.{◌≡◌, ◌≤◌, drop, take, map}
use Rattle.reel_names.specs.Tables.{has_text}
use Rattle.command_words.specs.Names.{row_of}
use Rattle.command_words.proofs.names.has_text.Given as goal

abbrev pub invariant-loop-i : goal.invariant-loop-i
invariant-loop-i l = record {
  within : (7 ≤ l.i) × (l.i ≤ l.end);
  same : has_text (map row_of (drop l.i (take l.end l.words))) l.text ≡ has_text (map row_of (drop 7 (take l.end l.words))) l.text;
}
