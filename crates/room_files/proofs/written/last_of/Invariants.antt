use Rattle.std.proofs.Common.{◌≡◌, ◌≤◌, drop, length}
use Rattle.room_files.specs.Files.{Bytes, or_earlier, or_empty, content_in}
use Rattle.room_files.specs.WrittenInside.{cut, names_length, bytes_length}
use Rattle.room_files.proofs.written.last_of.Given as goal

abbrev pub invariant-loop-each : goal.invariant-loop-each
invariant-loop-each l = record {
  names : names_length (drop l.each-index l.lengths) ≤ length l.names;
  bytes : bytes_length (drop l.each-index l.lengths) ≤ length l.bytes;
  same : or_earlier (content_in (cut l.names l.bytes (drop l.each-index l.lengths)) l.name) (Bytes l.found) ≡ or_empty (content_in (cut l.fn.names l.fn.bytes l.lengths) l.name);
}
