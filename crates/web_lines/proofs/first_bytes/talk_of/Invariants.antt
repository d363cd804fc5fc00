use Rattle.std.proofs.Common.{◌≡◌, drop}
use Rattle.web_lines.specs.FirstBytes.{talk_after}
use Rattle.web_lines.proofs.first_bytes.talk_of.Given as goal

abbrev pub invariant-loop-byte : goal.invariant-loop-byte
invariant-loop-byte l = record {
  at : l.count ≡ l.byte-index;
  same : talk_after l.count (drop l.byte-index l.front) ≡ talk_after 0 l.front;
}
