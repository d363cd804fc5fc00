use Rattle.std.proofs.Common.{◌∙◌}
use Rattle.room_files.specs.Files.{Bytes}
use Rattle.room_files.proofs.Finding.{names_left, bytes_left, found_from}
use Rattle.room_files.proofs.written.last_of.Goals as goal

pub loop-each-preserved : goal.loop-each-preserved
loop-each-preserved c = record {
  names = rw c.split_at.ensures.back (names_left c.args.lengths.now c.loop-each.each-index _ c.loop-each-test.true c.loop-each.names.now c.loop-each.invariant.names);
  bytes = rw c.split_at-in-loop-each.ensures.back (bytes_left c.args.lengths.now c.loop-each.each-index _ c.loop-each-test.true c.loop-each.bytes.now c.loop-each.invariant.bytes);
  same = rw (c.latest-found.ensures, c.split_at.ensures.front, c.split_at.ensures.back, c.split_at-in-loop-each.ensures.front, c.split_at-in-loop-each.ensures.back)
      (found_from c.args.lengths.now c.loop-each.each-index _ c.loop-each-test.true c.loop-each.names.now c.loop-each.bytes.now c.args.name.now (Bytes c.loop-each.found.now) ∙ c.loop-each.invariant.same);
}
